-- What a storm of calls picks, counts and reports.
use Rattle.std.specs.Prelude.{◌≡◌, ℕ, zero, suc, ◌+◌, ◌*◌, ◌/◌, ◌%◌, ◌^◌, ◌<◌, ◌≤◌, ◌⊎◌, List, [], ◌∷◌, All, length, true, false, Option, None, Some, IfSome, replicate, take, slice_set, slice_index, slice_index_or, sum_by}
use Rattle.strm_types.specs.declared.events.Event.TheVariants.{Write, Read, Push, Pop, Flush}
use Rattle.strm_types.specs.declared.events.FlushQueues.TheVariants.{Both}
use Rattle.strm_types.specs.declared.names.ModuleName.{ModuleName}
use Rattle.strm_types.specs.declared.names.ModuleName.TheVariants.{Ldterm, Ptem}
use Rattle.strm_types.specs.declared.refusals.Refusal.{Refusal}
use Rattle.strm_types.specs.Events.{Request}
use Rattle.strm_types.specs.Numbers.{number_of}
use Rattle.strm_locks.specs.Systems.{Plan, IsOne}
use Rattle.strm_storm.specs.declared.storms.plans.StormPlan.{StormPlan}
use Rattle.strm_storm.specs.declared.storms.StormReport.{StormReport}
use Rattle.strm_storm.specs.declared.storms.counts.Counts.{Counts}
use Rattle.strm_storm.specs.declared.storms.crew.Gathered.{Gathered}
use Rattle.strm_storm.specs.declared.storms.dealing.Job.{Job}
use Rattle.strm_storm.specs.declared.storms.hands.Hand.{Hand}

-- The number behind this one: those of the linear congruential generator of MMIX (Knuth, The Art of Computer Programming, 3.3.4)
abbrev pub next_number : ℕ → ℕ
next_number x = (x * 6364136223846793005 % 18446744073709551616 + 1442695040888963407) % 18446744073709551616

-- the module that a bit picks, and the one that a number picks by its bit 40
abbrev pub module_at : ℕ → ModuleName
module_at zero = Ptem
module_at (suc n) = Ldterm

abbrev pub picked_module : ℕ → ModuleName
picked_module x = module_at (x / 2 ^ 40 % 2)

-- the call of eight that a number picks; none, where the pair is to be cut
abbrev pub picked_call : ℕ → ℕ → Option Request
picked_call zero x = Some (Write (take (x / 2 ^ 40 % 300) (replicate 300 97)))
picked_call (suc zero) x = Some (Write (10 ∷ []))
picked_call (suc (suc zero)) x = Some (Read 100)
picked_call (suc (suc (suc zero))) x = Some (Read 4096)
picked_call (suc (suc (suc (suc zero)))) x = Some (Push (Some (picked_module x)))
picked_call (suc (suc (suc (suc (suc zero))))) x = Some Pop
picked_call (suc (suc (suc (suc (suc (suc zero)))))) x = Some (Flush Both None)
picked_call (suc (suc (suc (suc (suc (suc (suc n))))))) x = None

-- all calls that were counted, granted and refused ones
abbrev pub counted : ℕ → List ℕ → ℕ
counted granted refused = granted + sum_by (λ n. n) refused

abbrev pub all_counted : Counts → ℕ
all_counted c = counted c.granted c.refused

-- one call more was granted, or refused by this name
abbrev pub granted_one : Counts → Counts
granted_one c = record c { granted = c.granted + 1 }

abbrev pub refused_one : Refusal → Counts → Counts
refused_one r c = record c { refused = slice_set c.refused (number_of r) (slice_index_or c.refused (number_of r) 0 + 1) }

-- hands whose ends are of this system; and one for each of so many pairs
abbrev pub AreHands : {P : Type 0} → Plan → List (Hand P) → Type 0
AreHands system hands = All (λ h. IsOne system h.end) hands

abbrev pub AreOf : {P : Type 0} → Plan → ℕ → List (Hand P) → Type 0
AreOf system pairs hands = AreHands system hands × (length hands ≡ pairs)

-- a job of so many calls on this system
pub record IsJob {P : Type 0} (system : Plan) (calls : ℕ) (j : Job P) : Type 0 where
  pub hands : AreHands system j.hands.items
  pub some : 0 < length j.hands.items
  pub calls_are : j.calls ≡ calls

-- what so many threads came to on this system, each with so many calls
pub record IsGathered {P : Type 0} (system : Plan) (threads calls : ℕ) (g : Gathered P) : Type 0 where
  pub hands : IfSome g.hands (λ v. AreHands system v.items)
  pub whole : g.whole ≡ true → all_counted g.counts ≡ threads * calls
  pub few : all_counted g.counts ≤ 1048576

-- A storm's report counts each call of each thread once. Or a thread or the system couldn't be had: that is counted as a call that was refused for want of memory
abbrev pub IsStorm : StormPlan → StormReport → Type 0
IsStorm plan r = (counted r.calls r.refused ≡ plan.threads * plan.calls) ⊎ ((r.settled ≡ false) × (1 ≤ slice_index r.refused 9))
