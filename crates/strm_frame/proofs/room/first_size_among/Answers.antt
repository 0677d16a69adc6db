-- What one module answers.
use Rattle.strm_frame.proofs.Prelude.{◌∙◌, sym, ap}
use Rattle.strm_frame.specs.Prelude.{messages_at, first_size}
use Rattle.strm_frame.specs.Standings.{standing_in}
use Rattle.strm_frame.proofs.Beside.{said-of}
use Rattle.strm_frame.proofs.room.first_size_among.Goals as goal

pub returns : goal.returns
returns g c =
    let s = g.B.Blocks.value c.args.store.now in
    let w = g.M.Module in
    let d = c.index-modules-at.result in
    let xs = c.args.modules.now in
    c.first_size.ensures ∙ sym (ap first_size (said-of (standing_in w.plain s) (messages_at c.args.way) xs c.args.at d d _ c.requires.within c.index-modules-at.is))
