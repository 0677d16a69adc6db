-- What one module answers.
use Rattle.strm_frame.proofs.Prelude.{◌∙◌, sym, ap, length}
use Rattle.strm_frame.specs.Prelude.{bytes_of, messages_at}
use Rattle.strm_frame.specs.Standings.{standing_in}
use Rattle.strm_frame.proofs.Beside.{said-of}
use Rattle.strm_frame.proofs.room.sizes_among.Goals as goal

pub returns-clause-messages : goal.returns-clause-messages
returns-clause-messages g c =
    let s = g.B.Blocks.value c.args.store.now in
    let w = g.M.Module in
    let d = c.index-modules-at.result in
    let xs = c.args.modules.now in
    c.sizes.ensures.messages ∙ sym (ap length (said-of (standing_in w.plain s) (messages_at c.args.way) xs c.args.at d d _ c.requires.within c.index-modules-at.is))

pub returns-clause-bytes : goal.returns-clause-bytes
returns-clause-bytes g c =
    let s = g.B.Blocks.value c.args.store.now in
    let w = g.M.Module in
    let d = c.index-modules-at.result in
    let xs = c.args.modules.now in
    c.sizes.ensures.bytes ∙ sym (ap bytes_of (said-of (standing_in w.plain s) (messages_at c.args.way) xs c.args.at d d _ c.requires.within c.index-modules-at.is))
