-- What one module answers.
use Rattle.std.proofs.Common.{◌∙◌, sym}
use Rattle.strm_types.specs.ModuleQueues.{full_at}
use Rattle.strm_frame.specs.Standings.{standing_in}
use Rattle.strm_frame.proofs.Beside.{said-of}
use Rattle.strm_frame.proofs.room.is_full_among.Goals as goal

pub returns : goal.returns
returns g c =
    let s = g.B.Blocks.value c.args.store.now in
    let w = g.M.Module in
    let d = c.index-modules-at.result in
    let xs = c.args.modules.now in
    c.is_full.ensures ∙ sym (said-of (standing_in w.plain s) (full_at c.args.way c.args.band.0) xs c.args.at d d _ c.requires.within c.index-modules-at.is)
