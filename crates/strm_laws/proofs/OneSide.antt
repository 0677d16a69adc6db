-- What is reckoned of one side's stack, with a number for what goes across, is no less than what is reckoned of both sides.
use Rattle.strm_laws.proofs.Prelude.{ℕ, zero, suc, ◌≡◌, ◌≤◌, ◌+◌, ◌-◌, Bool, true, false, cond, List, length, map, refl, ap, arith, nat_le, nat_tests}
use Rattle.strm_laws.proofs.Prelude.{sum_by-append}
use Rattle.strm_laws.specs.Prelude.{ModuleName, Side, Costs, beyond, budget, other, At, Crossing, ToDriver, ToReaders}
use Rattle.strm_types.proofs.CostsOf.{sum-map, sum-under}
use Rattle.strm_laws.specs.SideCosts.{SideAt, arrives, costs, crossed, driver_most, front_on, in_time, nowhere, readers_most, side_budget, side_costs, to_both, to_readers, whole}
use Rattle.strm_laws.specs.StackCosts.{Stands}

-- no budget is beyond what is beyond, and none grows with the hops
pub no-more : (table : At → Costs) (hops : ℕ) (a : At) → budget table hops a ≤ beyond
unfolding budget
no-more table zero a = omega arith
no-more table (suc hops) a = omega arith

later-less : (table : At → Costs) (hops : ℕ) (a : At) → budget table (suc hops) a ≤ budget table hops a
unfolding budget
later-less table zero a = omega arith
later-less table (suc hops) a = let d = table a in omega (arith, sum-under (budget table (suc hops)) (budget table hops) (later-less table hops) d.emits)

hops-less : (table : At → Costs) (least more : ℕ) (a : At) → budget table (more + least) a ≤ budget table least a
hops-less table least zero a = let same : 0 + least ≡ least = omega arith in omega (arith, ap (λ h. budget table h a) same)
hops-less table least (suc more) a =
    let same : suc more + least ≡ suc (more + least) = omega arith in
    omega (arith, ap (λ h. budget table h a) same, later-less table (more + least) a, hops-less table least more a)

pub hops-fewer : (table : At → Costs) (least hops : ℕ) (a : At) → least ≤ hops → budget table hops a ≤ budget table least a
hops-fewer table least hops a low =
    let same : hops ≡ (hops - least) + least = omega (arith, low) in
    omega (arith, ap (λ h. budget table h a) same, hops-less table least (hops - least) a)

-- what a put on a side leads to
module _ (all : Stands) (over : ℕ → Crossing → ℕ) (side : Side)
    (crosses : (hops : ℕ) (c : Crossing) → budget (costs all) hops (crossed side (length (front_on (other side) all)) c) ≤ over hops c) where
  abbrev on : List ModuleName
  on = front_on side all

  pub sided : (hops : ℕ) (a : SideAt) → budget (costs all) hops (whole side a) ≤ side_budget over on hops a
  unfolding budget side_budget
  sided zero a = omega arith
  sided (suc hops) a =
      let d = side_costs on a in
      let bottom = length (front_on (other side) all) in
      let cost = budget (costs all) hops in
      omega (
        arith,
        sum_by-append cost (map (whole side) d.emits) (map (crossed side bottom) d.across),
        sum-map cost (whole side) d.emits,
        sum-map cost (crossed side bottom) d.across,
        sum-under (λ b. cost (whole side b)) (side_budget over on hops) (sided hops) d.emits,
        sum-under (λ c. cost (crossed side bottom c)) (over hops) (crosses hops) d.across,
      )

low-of : (n k : ℕ) → nat_le n k ≡ true → n ≤ k
low-of n k is = let r : n ≤ k = grind (arith, nat_tests) in r

-- what goes across from each side
module _ (all : Stands) (once : Bool) where
  abbrev table : At → Costs
  table = costs all

  nothing-across : (side : Side) (hops : ℕ) (c : Crossing) → budget table hops (crossed side (length (front_on (other side) all)) c) ≤ nowhere hops c
  nothing-across side hops c = no-more table hops (crossed side (length (front_on (other side) all)) c)

  -- with so many hops at least it costs so much, and else nothing is said
  timely : (least most : ℕ) (a : At) → budget table least a ≤ most → (hops : ℕ) → budget table hops a ≤ in_time least most hops
  timely least most a few hops = by (nat_le least hops) refl
    where
      by : (b : Bool) → nat_le least hops ≡ b → budget table hops a ≤ cond b most beyond
      by true is = omega (arith, few, hops-fewer table least hops a (low-of least hops is))
      by false is = no-more table hops a

  module _ (readers : (side : Side) → side_budget nowhere (front_on side all) 4 (arrives (front_on side all) ToReaders) ≤ readers_most once) where
    to-readers : (side : Side) (hops : ℕ) → budget table hops (crossed side (length (front_on (other side) all)) ToReaders) ≤ in_time 4 (readers_most once) hops
    to-readers side hops =
        timely 4 (readers_most once) (crossed side (length (front_on (other side) all)) ToReaders)
        (omega (arith, sided all nowhere (other side) (nothing-across (other side)) 4 (arrives (front_on (other side) all) ToReaders), readers (other side))) hops

    readers-across : (side : Side) (hops : ℕ) (c : Crossing) → budget table hops (crossed side (length (front_on (other side) all)) c) ≤ to_readers (readers_most once) hops c
    readers-across side hops ToReaders = to-readers side hops
    readers-across side hops ToDriver = no-more table hops (crossed side (length (front_on (other side) all)) ToDriver)

    module _ (driver : (side : Side) → side_budget (to_readers (readers_most once)) (front_on side all) 5 (arrives (front_on side all) ToDriver) ≤ driver_most once) where
      to-driver : (side : Side) (hops : ℕ) → budget table hops (crossed side (length (front_on (other side) all)) ToDriver) ≤ in_time 5 (driver_most once) hops
      to-driver side hops =
          timely 5 (driver_most once) (crossed side (length (front_on (other side) all)) ToDriver)
          (omega (arith, sided all (to_readers (readers_most once)) (other side) (readers-across (other side)) 5 (arrives (front_on (other side) all) ToDriver), driver (other side))) hops

      pub both-across : (side : Side) (hops : ℕ) (c : Crossing) → budget table hops (crossed side (length (front_on (other side) all)) c) ≤ to_both (readers_most once) (driver_most once) hops c
      both-across side hops ToReaders = to-readers side hops
      both-across side hops ToDriver = to-driver side hops
