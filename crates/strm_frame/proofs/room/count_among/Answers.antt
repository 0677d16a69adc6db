-- What one module answers.
use Rattle.strm_frame.proofs.Prelude.{◌∙◌, sym, ap}
use Rattle.strm_frame.specs.Prelude.{count_of, messages_at}
use Rattle.strm_frame.specs.Standings.{standing_in}
use Rattle.strm_frame.proofs.Beside.{said-of}
use Rattle.strm_frame.proofs.room.count_among.Goals as goal

pub returns : goal.returns
returns g c =
    let s = g.B.Blocks.value c.args.store.now in
    let w = g.M.Module in
    let d = c.index-modules-at.result in
    let xs = c.args.modules.now in
    c.count.ensures ∙ sym (ap (count_of c.args.band.0) (said-of (standing_in w.plain s) (messages_at c.args.way) xs c.args.at d d _ c.requires.within c.index-modules-at.is))
