-- Each run but the last has 256 bytes.
use Rattle.std.proofs.Common.{◌∙◌}
use Rattle.strm_ldterm.specs.Echoes.{echo_bytes}
use Rattle.strm_ldterm.proofs.EchoSteps.{grew-none, grew-more}
use Rattle.strm_ldterm.proofs.standing_echo.grow_by_runs.Goals as goal
use Rattle.strm_blocks.specs.Blocks.{token}

pub loop-at-init : goal.loop-at-init
loop-at-init g c = grew-none (g.B.Blocks.value c.args.store.now) (token c.args.message) (echo_bytes c.args.plan c.args.line.now) c.requires.data

pub loop-at-preserved : goal.loop-at-preserved
loop-at-preserved g c =
    let s = g.B.Blocks.value c.args.store.now in
    let t = g.B.Blocks.value c.loop-at.store in
    let u = g.B.Blocks.value c.grow-grown.new.store in
    let line = c.args.line.now in
    grew-more s t u (token c.args.message) (token c.loop-at.grown) (token c.grow-grown.result) (echo_bytes c.args.plan line) (echo_bytes c.loop-at.plan line) (echo_bytes c.take_run.new.self line) c.as_slice.result.now c.loop-at.at
    c.loop-at.invariant (c.as_slice.ensures.value ∙ c.take_run.ensures.run) c.take_run.ensures.rest c.grow-grown.ensures.grown c.grow-grown.ensures.kept_name
