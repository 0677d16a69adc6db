-- What an end is told, how it is cut in two and joined, and for whom it calls.
use Rattle.std.specs.Prelude.{ℕ, ◌≡◌, ◌≢◌, ◌⊎◌, ◌+◌, ◌*◌, ◌&&◌, ◌==◌, Bool, true, false, if◌then◌else◌, List, Option, None, Some, Ok, MatchResult}
use Rattle.strm_types.specs.declared.refusals.Refusal.TheVariants.{Einval, Erange, NoMemory}
use Rattle.strm_minors.specs.Openers.{Holding}
use Rattle.strm_locks.specs.declared.told.Told.{Told}
use Rattle.strm_locks.specs.Books.{told}
use Rattle.strm_locks.specs.Ends.{grouped_end, kept_end, split_end}
use Rattle.strm_locks.specs.Systems.{Numbered, joined_ends, numbered}
use Rattle.strm_handle.specs.Numbers.{side_at}
use Rattle.strm_ends.specs.declared.accounts.Share.{Share}
use Rattle.strm_ends.specs.declared.accounts.Sums.{Sums}
use Rattle.strm_ends.specs.declared.hold.Hold.TheVariants.{Nothing, Minor, End}
use Rattle.strm_ends.specs.declared.numbers.NotDone.{NotDone}
use Rattle.strm_ends.specs.declared.numbers.NotDone.TheVariants.{Refused}
use Rattle.strm_ends.specs.Members.{InHand, Seated, seated}
use Rattle.strm_ends.specs.Opening.{with_hold, with_share}
use Rattle.strm_ends.specs.Outcomes.{Outcome, Refuses}

-- what was told, as a C program is told it
abbrev pub sums_told : Sums → Told
sums_told s = told s.calls s.written.from_master s.written.from_slave s.read.from_master s.read.from_slave

-- an end, as a C program is told it: what it was told, its parts, the number of its pair in the host, and whom it calls as
pub record Shows (share : Share) (system : ℕ) (e : Numbered) : Type 0 where
  pub told : sums_told share.told ≡ e.end.told
  pub parts : share.parts ≡ e.end.parts
  pub pair : share.pair ≡ system * 64 + e.pair
  pub side : side_at share.side ≡ Some e.end.caller.side
  pub group : share.group ≡ e.end.caller.group
  pub ignores : share.ignores ≡ e.end.caller.ignores
  pub orphaned : share.orphaned ≡ e.end.caller.orphaned

-- EINVAL where no end is in hand; the member stays.
abbrev shows_where : InHand → Seated → (was share : Share) → Outcome → Seated → Type 0
shows_where Nothing a was share r b = Refuses Einval (share ≡ was) a r b
shows_where (Minor m) a was share r b = Refuses Einval (share ≡ was) a r b
shows_where (End system e) a was share r b = (r ≡ Ok tt) × (b ≡ a) × Shows share system e

abbrev pub ShowsEnd : (was share : Share) → Seated → Outcome → Seated → Type 0
ShowsEnd was share a r b = shows_where a.hold a was share r b

-- A process of another group makes the end's later calls.
abbrev groups_where : InHand → (group : ℕ) (ignores orphaned : Bool) → Seated → Outcome → Seated → Type 0
groups_where Nothing group ignores orphaned a r b = Refuses Einval (Unit {0}) a r b
groups_where (Minor m) group ignores orphaned a r b = Refuses Einval (Unit {0}) a r b
groups_where (End system e) group ignores orphaned a r b =
    (r ≡ Ok tt) × (b ≡ with_hold (End system (with_share (grouped_end group ignores orphaned e.end) e)) a)

abbrev pub Groups : (group : ℕ) (ignores orphaned : Bool) → Seated → Outcome → Seated → Type 0
Groups group ignores orphaned a r b = groups_where a.hold group ignores orphaned a r b

-- The end is cut in two: it keeps what it was told, and the minor, if it has it; the second one, with half of the parts, is in hand of the made
-- member.
pub record IsCut (a : Seated) (system : ℕ) (e : Numbered) (given : Option Seated) (b : Seated) : Type 0 where
  pub parts : e.end.parts ≢ 1
  pub left : b ≡ with_hold (End system (with_share (kept_end e.end) e)) a
  pub made : given ≡ Some (seated a.host None (End system (numbered e.pair None (split_end e.end))))

-- It isn't: it has one part, or memory is refused.
abbrev pub NotCut : Numbered → NotDone → Type 0
NotCut e why = ((why ≡ Refused Erange) × (e.end.parts ≡ 1)) ⊎ (why ≡ Refused NoMemory)

abbrev pub SplitsBy : Seated → ℕ → Numbered → Option Seated → Outcome → Seated → Type 0
SplitsBy a system e given r b =
    MatchResult r (λ _. IsCut a system e given b) (λ why. (given ≡ None) × (b ≡ with_hold (End system e) a) × NotCut e why)

abbrev splits_where : InHand → Seated → Option Seated → Outcome → Seated → Type 0
splits_where Nothing a given r b = Refuses Einval (given ≡ None) a r b
splits_where (Minor m) a given r b = Refuses Einval (given ≡ None) a r b
splits_where (End system e) a given r b = SplitsBy a system e given r b

abbrev pub SplitsEnd : Seated → Option Seated → Outcome → Seated → Type 0
SplitsEnd a given r b = splits_where a.hold a given r b

-- Two members are of one host, where both are there.
abbrev pub AreTogether : Option Seated → Option Seated → Type 0
AreTogether None second = Unit {0}
AreTogether (Some a) None = Unit {0}
AreTogether (Some a) (Some b) = a.host ≡ b.host

-- both stay, by EINVAL
abbrev pub StayApart : (first second last other : Option Seated) → ℕ → Type 0
StayApart first second last other n = (n ≡ 1) × (last ≡ first) × (other ≡ second)

-- Two ends of one pair are one. Ends of two pairs aren't joined, nor is what is no end.
abbrev pub joined_holds : InHand → InHand → Option InHand
joined_holds (End system e) (End there f) = if system == there && e.pair == f.pair then Some (End system (joined_ends e f)) else None
joined_holds (End system e) Nothing = None
joined_holds (End system e) (Minor m) = None
joined_holds Nothing hold = None
joined_holds (Minor m) hold = None

-- What is joined is in hand of the first member, and the second is closed; else both stay, by EINVAL. So they do where the second has an opener.
abbrev pub joins_as : Option InHand → Seated → Seated → (last other : Option Seated) → ℕ → Type 0
joins_as None a c last other n = StayApart (Some a) (Some c) last other n
joins_as (Some hold) a c last other n = (n ≡ 0) × (last ≡ Some (with_hold hold a)) × (other ≡ None)

abbrev pub joined_by : Option (List Holding) → InHand → InHand → Option InHand
joined_by None first second = joined_holds first second
joined_by (Some opener) first second = None

abbrev pub Joins : (first second last other : Option Seated) → ℕ → Type 0
Joins None second last other n = StayApart None second last other n
Joins (Some a) None last other n = StayApart (Some a) None last other n
Joins (Some a) (Some c) last other n = joins_as (joined_by c.opener a.hold c.hold) a c last other n

-- the same of the two members, where the second has nothing in hand then; it is told whether they are joined
abbrev pub JoinsMember : Option InHand → Seated → Seated → Bool → (last other : Seated) → Type 0
JoinsMember None a c joined last other = (joined ≡ false) × (last ≡ a) × (other ≡ c)
JoinsMember (Some hold) a c joined last other = (joined ≡ true) × (last ≡ with_hold hold a) × (other ≡ with_hold Nothing c)
