use Rattle.std.proofs.Common.{append_assoc, refl}
use Rattle.strm_image.specs.Image.{account}
use Rattle.strm_image.proofs.SinkRows.{put_both}
use Rattle.strm_image.proofs.writing.accounts.put_account.Goals as goal

pub returns : goal.returns
unfolding account
returns c = rw (c.put_rule_counts.ensures, c.put_u64-2.ensures, c.put_u64.ensures) (simp (put_both, append_assoc) refl)
