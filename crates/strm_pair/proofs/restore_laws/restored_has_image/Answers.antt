-- The pair has the state of the text, and one state has one text of version 2.
use Rattle.std.proofs.Common.{◌∙◌}
use Rattle.strm_pair.specs.PairViews.{sizes_over}
use Rattle.strm_pair.proofs.ImagesBack.{image-back}
use Rattle.strm_pair.proofs.restore_laws.restored_has_image.Goals as goal

pub returns-in-Ok-image : goal.returns-in-Ok-image
returns-in-Ok-image g c = record {
  same = λ x is. c.in-Ok-image.ensures.text ∙ image-back g.M.Behaves.does c.args.text.now (sizes_over (g.B.Blocks.value c.args.store) c.args.sizes) x c.in-Ok.pair is c.in-Ok.ensures.ok;
}
