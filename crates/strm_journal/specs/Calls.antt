-- The call of a kind, cases, a band and two numbers.
use Rattle.std.specs.Prelude.{ℕ, ◌/◌, ◌==◌, Bool, true, false, if◌then◌else◌, Option, None, Some}
use Rattle.strm_types.specs.declared.events.Event.{Event}
use Rattle.strm_types.specs.declared.events.Event.TheVariants.{OpenMaster, Unlock, OpenSlave, Shut, Push, Pop, Look, Flush, Write, Read, Put, Get, Mode, Nread, Ioctl, IoctlResult, Signals}
use Rattle.strm_types.specs.declared.modes.Prio.{Prio}
use Rattle.strm_types.specs.declared.modes.Prio.TheVariants as prios
use Rattle.strm_types.specs.declared.modes.Wanted.{Wanted}
use Rattle.strm_types.specs.declared.modes.Wanted.TheVariants as wanteds
use Rattle.strm_journal.specs.declared.kinds.Made.{Made}
use Rattle.strm_journal.specs.declared.kinds.Made.TheVariants as made
use Rattle.strm_journal.specs.Numbers.{is_odd, module_at, band_at, flush_at, mode_at}

-- whether a kind is that of a call: else of a turn
abbrev pub is_call : Made → Bool
is_call made.Moved = false
is_call made.Blocked = false
is_call made.Idle = false
is_call _ = true

-- a priority, by whether it is that of a band
abbrev pub prio_by : Bool → ℕ → Prio
prio_by is_banded band = if is_banded then prios.Band (record { 0 = band }) else prios.High

-- a part, by whether it is there
abbrev pub part_by : Bool → ℕ → Option ℕ
part_by is_there len = if is_there then Some len else None

-- what a getmsg takes
abbrev pub wanted_by : (number band : ℕ) → Wanted
wanted_by number band = if number == 0 then wanteds.Any else (if number == 1 then wanteds.High else wanteds.Band (record { 0 = band }))

-- The cases are of a putmsg whether it is in a band and which parts there are, as binary digits, and of a getmsg the number of what it takes. The
-- kind of a turn is none of a call: it stands for one that opens the master.
abbrev pub event_at : Made → (cases band first second : ℕ) → Event ℕ
event_at made.OpenMaster cases band first second = OpenMaster
event_at made.Unlock cases band first second = Unlock
event_at made.OpenSlave cases band first second = OpenSlave
event_at made.Shut cases band first second = Shut
event_at made.PushUnknown cases band first second = Push None
event_at made.Push cases band first second = Push (Some (module_at first))
event_at made.Pop cases band first second = Pop
event_at made.Look cases band first second = Look
event_at made.Flush cases band first second = Flush (flush_at first) (band_at second)
event_at made.Write cases band first second = Write first
event_at made.Read cases band first second = Read first
event_at made.Put cases band first second =
    Put (prio_by (is_odd cases) band) (part_by (is_odd (cases / 2)) first) (part_by (is_odd ((cases / 2) / 2)) second)
event_at made.Get cases band first second = Get (wanted_by cases band) first second
event_at made.Mode cases band first second = Mode (mode_at first)
event_at made.Nread cases band first second = Nread
event_at made.Ioctl cases band first second = Ioctl first second
event_at made.IoctlResult cases band first second = IoctlResult first
event_at made.Signals cases band first second = Signals
event_at made.Moved cases band first second = OpenMaster
event_at made.Blocked cases band first second = OpenMaster
event_at made.Idle cases band first second = OpenMaster
