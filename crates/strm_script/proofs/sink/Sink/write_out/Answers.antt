use Rattle.strm_script.proofs.Prelude.{◌+◌, arith, rules, false≢true}
use Rattle.strm_script.proofs.Known.{Appends-slice, slices, WritesOut-at}
use Rattle.strm_script.proofs.sink.Sink.write_out.Goals as goal

pub returns-then-taken-eq0-clause-wrote : goal.returns-then-taken-eq0-clause-wrote
returns-then-taken-eq0-clause-wrote g c =
    WritesOut-at _ _ c.args.bytes.now (c.loop-done.done + c.write-taken.result) _
    (Appends-slice _ _ _ c.args.bytes.now c.loop-done.done c.write-taken.result c.loop-done.invariant.0 c.loop-done.invariant.1 c.write-taken.ensures.bytes)
    (λ e. absurd (false≢true e)) (λ e. omega arith)

pub loop-done-preserved : goal.loop-done-preserved
loop-done-preserved g c = (
  (slices c.args.bytes.now c.loop-done.done c.write-taken.result c.loop-done.invariant.0).within c.write-taken.ensures.bound,
  Appends-slice _ _ _ c.args.bytes.now c.loop-done.done c.write-taken.result c.loop-done.invariant.0 c.loop-done.invariant.1 c.write-taken.ensures.bytes,
  search rules,
)
