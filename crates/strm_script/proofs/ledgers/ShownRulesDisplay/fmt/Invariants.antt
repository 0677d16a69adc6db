use Rattle.std.proofs.Common.{take}
use Rattle.std.specs.List.{flat_map}
use Rattle.std.specs.Fmt.{HasWritten, IsPlainFormatter}
use Rattle.strm_script.specs.ScriptAnswers.{counted_text}
use Rattle.strm_script.proofs.ledgers.ShownRulesDisplay.fmt.Given as goal

abbrev pub invariant-loop-rule : goal.invariant-loop-rule
invariant-loop-rule g l =
    IsPlainFormatter l.fn.f → HasWritten g.W.Write.write_str_gives l.fn.f (flat_map (counted_text l.counts) (take l.rule-index l.rules)) l.f
