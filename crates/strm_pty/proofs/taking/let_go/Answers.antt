-- The message is no longer in hand.
use Rattle.strm_pty.proofs.Doing.{swaps-freed}
use Rattle.strm_pty.proofs.taking.let_go.Goals as goal
use Rattle.strm_blocks.specs.Blocks.{token}

pub returns-clause-swaps : goal.returns-clause-swaps
returns-clause-swaps g c = swaps-freed (g.B.Blocks.value c.args.store.now) _ (token c.args.message) _ c.audit.ensures c.requires c.free.ensures c.none.ensures
