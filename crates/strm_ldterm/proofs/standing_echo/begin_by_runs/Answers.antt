-- The first run begins it, and the rest is added.
use Rattle.std.proofs.Common.{◌∙◌, subst, sym}
use Rattle.strm_ldterm.specs.Echoes.{echo_bytes}
use Rattle.strm_ldterm.specs.Grown.{Begins}
use Rattle.strm_ldterm.proofs.EchoSteps.{begins-rest, rest-enough}
use Rattle.strm_ldterm.proofs.standing_echo.begin_by_runs.Goals as goal
use Rattle.strm_blocks.specs.Blocks.{token}

pub grow_by_runs-requires-clause-enough : goal.grow_by_runs-requires-clause-enough
grow_by_runs-requires-clause-enough g c =
    let line = c.args.line.now in
    rest-enough (echo_bytes c.args.plan line) (echo_bytes c.take_run.new.self line) c.args.runs c.take_run.ensures.rest c.requires.some c.requires.enough

pub returns : goal.returns
returns g c =
    let line = c.args.line.now in
    let s = g.B.Blocks.value c.args.store.now in
    let u = g.B.Blocks.value c.grow_by_runs.new.store in
    let made = begins-rest s (g.B.Blocks.value c.begin-begun.new.store) u (token c.begin-begun.result) (echo_bytes c.args.plan line) c.as_slice.result.now
    (echo_bytes c.take_run.new.self line) c.args.runs (c.as_slice.ensures.value ∙ c.take_run.ensures.run) c.take_run.ensures.rest c.begin-begun.ensures c.requires.some
    c.grow_by_runs.ensures.grown in
    subst (λ i. Begins s u i (echo_bytes c.args.plan line) c.args.runs) (sym c.grow_by_runs.ensures.kept_name) made
