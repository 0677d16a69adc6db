use Rattle.std.proofs.Common.{ap, sym}
use Rattle.strm_script.specs.ScriptAnswers.{refusal_name}
use Rattle.strm_script.proofs.answers.name.Goals as goal

pub returns-in-Einval : goal.returns-in-Einval
returns-in-Einval c = ap refusal_name (sym c.in-Einval.is)

pub returns-in-Eagain : goal.returns-in-Eagain
returns-in-Eagain c = ap refusal_name (sym c.in-Eagain.is)

pub returns-in-Enxio : goal.returns-in-Enxio
returns-in-Enxio c = ap refusal_name (sym c.in-Enxio.is)

pub returns-in-Ebadmsg : goal.returns-in-Ebadmsg
returns-in-Ebadmsg c = ap refusal_name (sym c.in-Ebadmsg.is)

pub returns-in-Enosr : goal.returns-in-Enosr
returns-in-Enosr c = ap refusal_name (sym c.in-Enosr.is)

pub returns-in-Erange : goal.returns-in-Erange
returns-in-Erange c = ap refusal_name (sym c.in-Erange.is)

pub returns-in-JournalFull : goal.returns-in-JournalFull
returns-in-JournalFull c = ap refusal_name (sym c.in-JournalFull.is)

pub returns-in-NoMinor : goal.returns-in-NoMinor
returns-in-NoMinor c = ap refusal_name (sym c.in-NoMinor.is)

pub returns-in-NoMemory : goal.returns-in-NoMemory
returns-in-NoMemory c = ap refusal_name (sym c.in-NoMemory.is)

pub returns-in-StillShared : goal.returns-in-StillShared
returns-in-StillShared c = ap refusal_name (sym c.in-StillShared.is)

pub returns-in-Eio : goal.returns-in-Eio
returns-in-Eio c = ap refusal_name (sym c.in-Eio.is)
