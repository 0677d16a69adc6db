-- Pairs that are opened by a member: the master by the minor in hand, the slave by a call of the end in hand.
use Rattle.std.specs.Prelude.{ℕ, ◌≡◌, ◌⊎◌, Option, None, Some, Ok, Err, MatchResult}
use Rattle.strm_types.specs.declared.refusals.Refusal.TheVariants.{Einval, NoMemory}
use Rattle.strm_system.specs.declared.opener.HostMinor.{HostMinor}
use Rattle.strm_locks.specs.Ends.{CallsSlave, IsOpened, Share}
use Rattle.strm_locks.specs.Systems.{Numbered, numbered}
use Rattle.strm_locks.specs.Turns.{IsRefusedOpen, Visited}
use Rattle.strm_ends.specs.declared.hold.Hold.TheVariants.{Nothing, Minor, End}
use Rattle.strm_ends.specs.declared.numbers.NotDone.{NotDone}
use Rattle.strm_ends.specs.declared.numbers.NotDone.TheVariants.{Busy, Refused}
use Rattle.strm_ends.specs.Members.{InHand, Seated, lock_in, seated}
use Rattle.strm_ends.specs.Outcomes.{Outcome, Refuses}

-- the member with something else in hand
abbrev pub with_hold : InHand → Seated → Seated
with_hold hold a = seated a.host a.opener hold

-- The master of the minor's pair is opened: an end of this pair, with the minor, is in hand.
pub record IsOpenedBy (a : Seated) (m : HostMinor) (b : Seated) : Type 0 where
  pub end : Numbered
  pub pair : end.pair ≡ m.minor
  pub minor : end.minor ≡ Some m.minor
  pub there : lock_in a.host m.system m.minor ≡ Some end.end.lock
  pub opened : IsOpened end.end.lock end.end
  pub left : b ≡ with_hold (End m.system end) a

-- It isn't, by a visit that found and left a pair that doesn't open; or another thread has the lock.
abbrev pub NotOpened : Seated → HostMinor → NotDone → Type 0
NotOpened a m Busy = Unit {0}
NotOpened a m (Refused refusal) = (v : Visited) × (lock_in a.host m.system m.minor ≡ Some v.lock) × IsRefusedOpen v.lock v refusal

abbrev pub OpensMinor : Seated → HostMinor → Outcome → Seated → Type 0
OpensMinor a m r b = MatchResult r (λ _. IsOpenedBy a m b) (λ why. (b ≡ with_hold (Minor m) a) × NotOpened a m why)

-- EINVAL where no minor is in hand.
abbrev opens_where : InHand → Seated → Outcome → Seated → Type 0
opens_where Nothing a r b = Refuses Einval (Unit {0}) a r b
opens_where (End system end) a r b = Refuses Einval (Unit {0}) a r b
opens_where (Minor m) a r b = OpensMinor a m r b

abbrev pub Opens : Seated → Outcome → Seated → Type 0
Opens a r b = opens_where a.hold a r b

-- The end with another share: of the same pair, and with its minor, if it has it.
abbrev pub with_share : Share → Numbered → Numbered
with_share share e = numbered e.pair e.minor share

-- The end called for the slave, and the slave's end is in hand of the made member, of the same host.
pub record IsSlaveOpened (a : Seated) (system : ℕ) (e : Numbered) (given : Option Seated) (b : Seated) : Type 0 where
  pub slave : Numbered
  pub share : Share
  pub calls : CallsSlave (numbered e.pair None) e.end (Ok slave) share
  pub left : b ≡ with_hold (End system (with_share share e)) a
  pub made : given ≡ Some (seated a.host None (End system slave))

-- It is refused as the end's call is; or for want of memory, and no call is made; or another thread has the lock.
abbrev pub NoSlave : Seated → ℕ → Numbered → NotDone → Seated → Type 0
NoSlave a system e Busy b = b ≡ with_hold (End system e) a
NoSlave a system e (Refused refusal) b = ((refusal ≡ NoMemory) × (b ≡ with_hold (End system e) a))
    ⊎ ((share : Share) × CallsSlave (numbered e.pair None) e.end (Err refusal) share × (b ≡ with_hold (End system (with_share share e)) a))

abbrev pub OpensSlaveBy : Seated → ℕ → Numbered → Option Seated → Outcome → Seated → Type 0
OpensSlaveBy a system e given r b = MatchResult r (λ _. IsSlaveOpened a system e given b) (λ why. (given ≡ None) × NoSlave a system e why b)

-- EINVAL where no end is in hand.
abbrev opens_slave_where : InHand → Seated → Option Seated → Outcome → Seated → Type 0
opens_slave_where Nothing a given r b = Refuses Einval (given ≡ None) a r b
opens_slave_where (Minor m) a given r b = Refuses Einval (given ≡ None) a r b
opens_slave_where (End system e) a given r b = OpensSlaveBy a system e given r b

abbrev pub OpensSlave : Seated → Option Seated → Outcome → Seated → Type 0
OpensSlave a given r b = opens_slave_where a.hold a given r b
