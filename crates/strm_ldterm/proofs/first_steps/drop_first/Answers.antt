-- The rest is a message of its own.
use Rattle.strm_ldterm.proofs.Skipped.{first-in_hand, rest-in_hand, rest-after}
use Rattle.strm_ldterm.proofs.first_steps.drop_first.Goals as goal
use Rattle.strm_blocks.specs.Blocks.{token}

pub free-requires : goal.free-requires
free-requires g c =
    first-in_hand (g.B.Blocks.value c.args.store.now) _ (token c.args.message) _ _ c.requires.in_hand (rw c.in-Some.is at c.unlink-rest.ensures)

pub set_band-requires : goal.set_band-requires
set_band-requires g c =
    rest-in_hand (g.B.Blocks.value c.args.store.now) _ (token c.args.message) _ _ c.requires.in_hand (rw c.in-Some.is at c.unlink-rest.ensures) _ c.free.ensures

pub returns-clause-after : goal.returns-clause-after
returns-clause-after g c =
    rest-after (g.B.Blocks.value c.args.store.now) _ (token c.args.message) _ _ c.requires.in_hand (rw c.in-Some.is at c.unlink-rest.ensures) _ c.free.ensures _ _ c.band-band.ensures c.set_band.ensures
