use Rattle.strm_blocks.specs.Blocks.{token}
use Rattle.strm_blocks.proofs.Laws.{IsInHand-changed}
use Rattle.strm_tests.proofs.moves.edits.bands.Goals as goal

pub returns : goal.returns
returns g c =
    let i = token c.args.message.now in
    rw c.set_band.ensures (IsInHand-changed (g.B.Blocks.value c.args.store.now) i i _ c.requires)
