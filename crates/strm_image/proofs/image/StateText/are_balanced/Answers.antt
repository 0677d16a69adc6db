use Rattle.std.proofs.Common.{sym, ◌∙◌}
use Rattle.strm_image.specs.ImageTexts.{imaged_now}
use Rattle.strm_image.proofs.CountRows.{balanced_is}
use Rattle.strm_image.proofs.image.StateText.are_balanced.Goals as goal

pub returns : goal.returns
returns c = c.both_balance.ensures ∙ sym (balanced_is (imaged_now c.args.self.now))
