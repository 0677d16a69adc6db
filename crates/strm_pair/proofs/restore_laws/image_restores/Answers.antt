-- The text is the image of the pair's state, and of no other one.
use Rattle.strm_pair.proofs.Prelude.{◌∙◌}
use Rattle.strm_pair.specs.Prelude.{Second, imaged}
use Rattle.strm_pair.specs.PairViews.{sizes_over}
use Rattle.strm_pair.specs.Restored.{IsImageOf}
use Rattle.strm_pair.proofs.ImagesBack.{gone-back, state-back}
use Rattle.strm_pair.proofs.restore_laws.image_restores.Goals as goal

pub returns-clause-is_image : goal.returns-clause-is_image
returns-clause-is_image g c =
    let is : IsImageOf c.as_slice.result.now (imaged c.args.pair.now.state c.args.pair.now.fates) = (Second, (c.image.ensures.fits, c.as_slice.ensures.value ∙ c.in-Ok.ensures.text)) in
    λ e. c.restore.ensures.einval.0 e (imaged c.args.pair.now.state c.args.pair.now.fates) (record { image = is; known = c.image.ensures.known })

pub returns-clause-state : goal.returns-clause-state
returns-clause-state g c =
    let K = g.M.Behaves.does in
    let is : IsImageOf c.as_slice.result.now (imaged c.args.pair.now.state c.args.pair.now.fates) = (Second, (c.image.ensures.fits, c.as_slice.ensures.value ∙ c.in-Ok.ensures.text)) in
    state-back K c.as_slice.result.now (sizes_over (g.C.Blocks.value c.args.store) c.args.sizes) (imaged c.args.pair.now.state c.args.pair.now.fates) is c.restore.result c.restore.ensures.ok

pub returns-clause-gone : goal.returns-clause-gone
returns-clause-gone g c =
    let K = g.M.Behaves.does in
    let is : IsImageOf c.as_slice.result.now (imaged c.args.pair.now.state c.args.pair.now.fates) = (Second, (c.image.ensures.fits, c.as_slice.ensures.value ∙ c.in-Ok.ensures.text)) in
    gone-back K c.as_slice.result.now (sizes_over (g.C.Blocks.value c.args.store) c.args.sizes) (imaged c.args.pair.now.state c.args.pair.now.fates) is c.restore.result c.restore.ensures.ok
