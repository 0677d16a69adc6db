use Rattle.strm_ldterm.specs.Echoes.{echo_bytes}
use Rattle.strm_ldterm.proofs.EchoSteps.{Grew}
use Rattle.strm_ldterm.proofs.standing_echo.grow_by_runs.Given as goal
use Rattle.strm_blocks.specs.Blocks.{token}

abbrev pub invariant-loop-at : goal.invariant-loop-at
invariant-loop-at g l =
    Grew (g.B.Blocks.value l.fn.store) (g.B.Blocks.value l.store) (token l.fn.message) (token l.grown)
    (echo_bytes l.fn.plan l.line) (echo_bytes l.plan l.line) l.at
