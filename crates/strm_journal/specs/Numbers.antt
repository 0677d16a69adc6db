-- What the numbers in a packed entry stand for.
use Rattle.std.specs.Prelude.{ℕ, ◌-◌, ◌%◌, ◌==◌, nat_lt, Bool, if◌then◌else◌, Option, None, Some}
use Rattle.strm_types.specs.declared.events.FlushQueues.{FlushQueues}
use Rattle.strm_types.specs.declared.events.FlushQueues.TheVariants as flushes
use Rattle.strm_types.specs.declared.kinds.Band.{Band}
use Rattle.strm_types.specs.declared.modes.Mode.{Mode}
use Rattle.strm_types.specs.declared.modes.Mode.TheVariants as modes
use Rattle.strm_types.specs.declared.modes.ReadMode.TheVariants.{ByteStream, MessageKeep, MessageDiscard}
use Rattle.strm_types.specs.declared.modes.ControlMode.TheVariants.{Refuse, Data, Discard}
use Rattle.strm_types.specs.declared.modes.Prio.{Prio}
use Rattle.strm_types.specs.declared.modes.Prio.TheVariants as prios
use Rattle.strm_types.specs.declared.names.ModuleName.{ModuleName}
use Rattle.strm_types.specs.declared.names.ModuleName.TheVariants as modules
use Rattle.strm_types.specs.declared.names.Place.{Place}
use Rattle.strm_types.specs.declared.names.Place.TheVariants.{Head, Module, Driver}
use Rattle.strm_types.specs.declared.names.Side.{Side}
use Rattle.strm_types.specs.declared.names.Side.TheVariants.{Master, Slave}
use Rattle.strm_types.specs.declared.names.Way.{Way}
use Rattle.strm_types.specs.declared.names.Way.TheVariants.{Up, Down}

-- a truth: the last binary digit
abbrev pub is_odd : ℕ → Bool
is_odd n = (n % 2) == 1

-- a side, and a way, by the last binary digit
abbrev pub side_at : ℕ → Side
side_at n = if is_odd n then Slave else Master

abbrev pub way_at : ℕ → Way
way_at n = if is_odd n then Down else Up

-- a module: those of a user's own by their numbers, the others behind them
abbrev pub module_at : ℕ → ModuleName
module_at n =
    if nat_lt n 256 then modules.Own n else (if n == 256 then modules.Ldterm else (if n == 257 then modules.Ptem else modules.Pckt))

-- a place: that of a module by its number
abbrev pub place_at : ℕ → Place
place_at n = if n == 259 then Head else (if n == 260 then Driver else Module (module_at n))

-- a priority: a band, or high
abbrev pub prio_at : ℕ → Prio
prio_at n = if nat_lt n 256 then prios.Band (record { 0 = n }) else prios.High

-- the band of a flush, or all
abbrev pub band_at : ℕ → Option Band
band_at n = if nat_lt n 256 then Some (record { 0 = n }) else None

-- what a flush empties: FLUSHR, FLUSHW, FLUSHRW
abbrev pub flush_at : ℕ → FlushQueues
flush_at n = if n == 0 then flushes.Read else (if n == 1 then flushes.Write else flushes.Both)

-- a mode of a head: RNORM, RMSGN, RMSGD, RPROTNORM, RPROTDAT, RPROTDIS
abbrev pub mode_at : ℕ → Mode
mode_at n =
    if n == 0 then modes.Read ByteStream else (if n == 1 then modes.Read MessageKeep else (if n == 2 then modes.Read MessageDiscard
    else (if n == 3 then modes.Control Refuse else (if n == 4 then modes.Control Data else modes.Control Discard))))

-- how many bytes a part has: one less than its number, which is 0 where it is absent
abbrev pub part_at : ℕ → Option ℕ
part_at n = if n == 0 then None else Some (n - 1)
