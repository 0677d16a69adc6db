use Rattle.std.proofs.Common.{◌∙◌, ap, sym}
use Rattle.strm_image.specs.Sinks.{put}
use Rattle.strm_image.proofs.WrittenRows.{rule_counts_told}
use Rattle.strm_image.proofs.writing.accounts.put_rule_counts.Goals as goal

pub returns : goal.returns
returns c = c.put_counts.ensures ∙ ap (λ t. put t c.args.out.now) (sym (rule_counts_told c.args.counts.now))
