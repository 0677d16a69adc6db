-- Hosts that are made, and their members.
use Rattle.std.specs.Prelude.{ℕ, ◌≡◌, List, Option, None, Some, Result, Ok, Err, MatchResult}
use Rattle.strm_types.specs.declared.limits.Config.{Config}
use Rattle.strm_types.specs.declared.refusals.Refusal.{Refusal}
use Rattle.strm_types.specs.declared.refusals.Refusal.TheVariants.{Einval, NoMemory}
use Rattle.strm_types.specs.Numbers.{number_of}
use Rattle.strm_minors.specs.Openers.{Holding}
use Rattle.strm_system.specs.Hosts.{all_opening}
use Rattle.strm_system.specs.Sizes.{AreSizes, IsCount, IsLaid, NotHosted}
use Rattle.strm_ends.specs.declared.hold.Hold.TheVariants.{Nothing}
use Rattle.strm_ends.specs.declared.numbers.NotDone.TheVariants.{Refused}
use Rattle.strm_ends.specs.Members.{Seated, seated}
use Rattle.strm_ends.specs.Outcomes.{Outcome, Refuses}

-- the sizes of a pair: so many blocks of each kind, and so large a journal
abbrev pub sizes_of : (blocks entries bytes : ℕ) → Config
sizes_of blocks entries bytes = record { mblks = blocks; dblks = blocks; journal_events = entries; journal_bytes = bytes }

-- The first member of a new host: it has an opener that holds no minor, and nothing in hand.
pub record IsFirst (pairs : ℕ) (config : Config) (m : Seated) : Type 0 where
  pub count : IsCount pairs
  pub sizes : AreSizes config
  pub laid : IsLaid pairs config m.host
  pub is : m ≡ seated m.host (Some (all_opening m.host)) Nothing

-- It is made of a closed handle: EINVAL for an open one, and where the numbers are none of a host's, and it alone; else NO_MEMORY.
abbrev pub MakesFirst : ℕ → Config → Result Seated Refusal → Type 0
MakesFirst pairs sizes r = MatchResult r (IsFirst pairs sizes) (NotHosted pairs sizes)

abbrev pub Made : Result Seated Refusal → Option Seated → ℕ → Type 0
Made (Ok m) new n = (n ≡ 0) × (new ≡ Some m)
Made (Err refusal) new n = (n ≡ number_of refusal) × (new ≡ None)

abbrev pub Makes : ℕ → Config → (old new : Option Seated) → ℕ → Type 0
Makes pairs sizes (Some m) new n = (n ≡ 1) × (new ≡ Some m)
Makes pairs sizes None new n = (r : Result Seated Refusal) × MakesFirst pairs sizes r × Made r new n

-- A further member: of the same host, with an opener of its own that holds no minor, and nothing in hand. The first one stays. It is made by a member
-- that has an opener, and refused for want of memory alone.
abbrev pub seat_made : Seated → Option Seated → Outcome → Type 0
seat_made a given (Ok _) = given ≡ Some (seated a.host (Some (all_opening a.host)) Nothing)
seat_made a given (Err why) = (why ≡ Refused NoMemory) × (given ≡ None)

abbrev pub SeatsBy : Option (List Holding) → Seated → Option Seated → Outcome → Seated → Type 0
SeatsBy None a given r b = Refuses Einval (given ≡ None) a r b
SeatsBy (Some opener) a given r b = (b ≡ a) × seat_made a given r

abbrev pub Seats : Seated → Option Seated → Outcome → Seated → Type 0
Seats a given r b = SeatsBy a.opener a given r b
