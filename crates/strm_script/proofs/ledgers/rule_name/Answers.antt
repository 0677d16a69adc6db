use Rattle.std.proofs.Common.{ap, sym}
use Rattle.strm_script.specs.ScriptAnswers.{rule_name}
use Rattle.strm_script.proofs.ledgers.rule_name.Goals as goal

pub returns-in-Read : goal.returns-in-Read
returns-in-Read c = ap rule_name (sym c.in-Read.is)

pub returns-in-Igncr : goal.returns-in-Igncr
returns-in-Igncr c = ap rule_name (sym c.in-Igncr.is)

pub returns-in-EraseKey : goal.returns-in-EraseKey
returns-in-EraseKey c = ap rule_name (sym c.in-EraseKey.is)

pub returns-in-Erased : goal.returns-in-Erased
returns-in-Erased c = ap rule_name (sym c.in-Erased.is)

pub returns-in-Killed : goal.returns-in-Killed
returns-in-Killed c = ap rule_name (sym c.in-Killed.is)

pub returns-in-EofKey : goal.returns-in-EofKey
returns-in-EofKey c = ap rule_name (sym c.in-EofKey.is)

pub returns-in-SignalKey : goal.returns-in-SignalKey
returns-in-SignalKey c = ap rule_name (sym c.in-SignalKey.is)

pub returns-in-FlowKey : goal.returns-in-FlowKey
returns-in-FlowKey c = ap rule_name (sym c.in-FlowKey.is)

pub returns-in-LnextKey : goal.returns-in-LnextKey
returns-in-LnextKey c = ap rule_name (sym c.in-LnextKey.is)

pub returns-in-ReprintKey : goal.returns-in-ReprintKey
returns-in-ReprintKey c = ap rule_name (sym c.in-ReprintKey.is)

pub returns-in-LineFull : goal.returns-in-LineFull
returns-in-LineFull c = ap rule_name (sym c.in-LineFull.is)

pub returns-in-LineOver : goal.returns-in-LineOver
returns-in-LineOver c = ap rule_name (sym c.in-LineOver.is)

pub returns-in-Flushed : goal.returns-in-Flushed
returns-in-Flushed c = ap rule_name (sym c.in-Flushed.is)

pub returns-in-RestDiscarded : goal.returns-in-RestDiscarded
returns-in-RestDiscarded c = ap rule_name (sym c.in-RestDiscarded.is)

pub returns-in-ControlDropped : goal.returns-in-ControlDropped
returns-in-ControlDropped c = ap rule_name (sym c.in-ControlDropped.is)

pub returns-in-Doubled : goal.returns-in-Doubled
returns-in-Doubled c = ap rule_name (sym c.in-Doubled.is)

pub returns-in-ModulePopped : goal.returns-in-ModulePopped
returns-in-ModulePopped c = ap rule_name (sym c.in-ModulePopped.is)

pub returns-in-EndClosed : goal.returns-in-EndClosed
returns-in-EndClosed c = ap rule_name (sym c.in-EndClosed.is)

pub returns-in-Replaced : goal.returns-in-Replaced
returns-in-Replaced c = ap rule_name (sym c.in-Replaced.is)

pub returns-in-Onocr : goal.returns-in-Onocr
returns-in-Onocr c = ap rule_name (sym c.in-Onocr.is)

pub returns-in-EchoFull : goal.returns-in-EchoFull
returns-in-EchoFull c = ap rule_name (sym c.in-EchoFull.is)
