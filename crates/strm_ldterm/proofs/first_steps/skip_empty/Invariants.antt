use Rattle.strm_ldterm.proofs.Skipped.{Skips}
use Rattle.strm_ldterm.proofs.first_steps.skip_empty.Given as goal
use Rattle.strm_blocks.specs.Blocks.{token}

abbrev pub invariant-loop : goal.invariant-loop
invariant-loop g l = Skips (g.B.Blocks.value l.fn.store) (g.B.Blocks.value l.store) (token l.fn.message) (token l.message) l.counter
