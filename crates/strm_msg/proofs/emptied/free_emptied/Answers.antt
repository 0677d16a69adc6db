-- A message that shows bytes has a block that is left.
use Rattle.strm_blocks.specs.Blocks.{in_hand, token}
use Rattle.strm_msg.proofs.Filled.{banded-again, filled-some}
use Rattle.strm_msg.proofs.emptied.free_emptied.Goals as goal

pub unreachable-requires : goal.unreachable-requires
unreachable-requires g c =
    let gone = rw c.in_default.is at c.keep_filled.ensures in
    filled-some (in_hand (g.B.Blocks.value c.args.store.now) (token c.args.message)) c.requires.some gone.none

pub returns : goal.returns
returns g c =
    banded-again (in_hand (g.B.Blocks.value c.args.store.now) (token c.args.message)) (rw c.in-Some.is at c.keep_filled.ensures) c.band-band.ensures c.set_band.ensures
