use Rattle.std.proofs.Common.{◌≡◌, ◌≤◌, ◌*◌}
use Rattle.strm_script.specs.Faults.{source_failed, sink_failed}
use Rattle.strm_script.proofs.Whole.{Serving}
use Rattle.strm_script.proofs.script.serve.Given as goal

abbrev pub invariant-loop-turn : goal.invariant-loop-turn
invariant-loop-turn g l = record {
  lines : l.engine.lines ≤ 4096 * l.turn;
  serving : Serving (g.R.Read.remaining l.fn.source.reader) (g.R.Read.remaining l.source.reader)
      (g.W.Write.contents l.fn.sink.writer) (g.W.Write.contents l.sink.writer) l.engine l.turn;
  source : source_failed l.source ≡ source_failed l.fn.source;
  sink : sink_failed l.sink ≡ sink_failed l.fn.sink;
}
