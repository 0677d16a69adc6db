-- The caller and the queue of binary digits, and the turn of a kind and a number.
use Rattle.std.specs.Prelude.{ℕ, ◌/◌}
use Rattle.strm_types.specs.declared.answers.Turn.{Turn}
use Rattle.strm_types.specs.declared.answers.Turn.TheVariants.{Moved, Blocked, Idle}
use Rattle.strm_types.specs.declared.events.Caller.{Caller}
use Rattle.strm_types.specs.declared.names.QueueName.{QueueName}
use Rattle.strm_journal.specs.declared.kinds.Made.{Made}
use Rattle.strm_journal.specs.declared.kinds.Made.TheVariants as made
use Rattle.strm_journal.specs.Numbers.{is_odd, place_at, side_at, way_at}

-- the digits from the last one on: the side, whether signals are ignored, whether the group is orphaned
abbrev pub caller_at : (digits group : ℕ) → Caller
caller_at digits group = record { side = side_at digits; group = group; ignores = is_odd (digits / 2); orphaned = is_odd ((digits / 2) / 2) }

-- the cases of a call, in front of those
abbrev pub cases_at : ℕ → ℕ
cases_at digits = ((digits / 2) / 2) / 2

-- the digits: the side and the way
abbrev pub queue_at : (digits place : ℕ) → QueueName
queue_at digits place = record { side = side_at digits; place = place_at place; way = way_at (digits / 2) }

-- what a turn did: one that moved so many bytes for the kind of a call
abbrev pub turn_at : Made → ℕ → Turn
turn_at made.Blocked bytes = Blocked
turn_at made.Idle bytes = Idle
turn_at _ bytes = Moved bytes
