use Rattle.strm_script.specs.Plain.{plain}
use Rattle.strm_script.proofs.Events.{RunsTo}
use Rattle.strm_script.proofs.turns.run.Given as goal

abbrev pub invariant-loop-taken : goal.invariant-loop-taken
invariant-loop-taken g l = RunsTo l.turns l.taken l.short (plain l.fn.pair) (plain l.pair)
