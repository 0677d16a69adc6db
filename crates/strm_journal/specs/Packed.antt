-- What a packed entry tells.
use Rattle.std.specs.Prelude.{ℕ, if◌then◌else◌}
use Rattle.strm_types.specs.declared.answers.Answer.TheVariants.{Done}
use Rattle.strm_types.specs.declared.entries.Entry.{Entry}
use Rattle.strm_types.specs.declared.entries.Entry.TheVariants.{Called, Turned}
use Rattle.strm_types.specs.declared.events.Event.TheVariants.{OpenMaster}
use Rattle.strm_types.specs.declared.names.Side.TheVariants.{Master}
use Rattle.strm_types.specs.JobControl.{caller_of}
use Rattle.strm_journal.specs.declared.packed.Packed.TheInside.{Inside}
use Rattle.strm_journal.specs.Calls.{event_at, is_call}
use Rattle.strm_journal.specs.Replies.{answer_at}
use Rattle.strm_journal.specs.Turns.{caller_at, cases_at, queue_at, turn_at}

-- a call with its answer, or a turn
abbrev pub unpacked : Inside → Entry ℕ
unpacked p =
    if is_call p.made
    then Called (caller_at p.digits p.group) (event_at p.made (cases_at p.digits) p.band p.first p.second) (answer_at p.told p.third p.fourth)
    else Turned (queue_at p.digits p.first) (turn_at p.made p.second)

-- what 24 bytes of 0 tell: an opening of the master
abbrev pub nothing : Entry ℕ
nothing = Called (caller_of Master) OpenMaster Done
