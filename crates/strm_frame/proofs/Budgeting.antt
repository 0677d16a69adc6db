-- A delivery with a budget has a hop left, and room for what its first put takes and for all that this sends.
use Rattle.strm_frame.proofs.Prelude.{ℕ, zero, suc, ◌≡◌, ◌≤◌, ◌<◌, ◌+◌, ◌-◌, ap, arith, sum_by}
use Rattle.strm_frame.specs.Prelude.{Costs, Within, beyond, budget, cost_of, Parcel, At, StoreValue}
use Rattle.std.specs.Prelude.{List}
use Rattle.strm_frame.specs.Hands.{MayDeliver, MayTake, Takes}
use Rattle.strm_frame.proofs.WidePools.{room-left}

-- A budget that isn't beyond what may be asked is what a put takes itself, with what it may send.
pub record Parts (table : At → Costs) (hops : ℕ) (a : At) : Type 0 where
  pub some : 0 < hops
  pub sum : budget table hops a ≡ (table a).own + sum_by (budget table (hops - 1)) (table a).emits

pub budget-parts : (table : At → Costs) (hops : ℕ) (a : At) → budget table hops a < beyond → Parts table hops a
unfolding budget
budget-parts table zero a low = absurd (omega (arith, low))
budget-parts table (suc hops) a low =
    let less : suc hops - 1 ≡ hops = omega arith in
    record { some = omega arith; sum = omega (arith, low, ap (λ h. sum_by (budget table h) (table a).emits) less) }

module _ (table : At → Costs) (hops : ℕ) (a : At) (s : StoreValue) (was : ℕ) (may : MayDeliver s was (budget table hops a)) where
  abbrev parts : Parts table hops a
  parts = budget-parts table hops a may.ends

  pub own-few : (table a).own ≤ budget table hops a
  own-few = omega (arith, parts.sum)

  pub own-may : MayTake s was (table a).own
  own-may = record { room = record { mblks = omega (arith, own-few, may.room.mblks); dblks = omega (arith, own-few, may.room.dblks) }; spare = omega (arith, own-few, may.spare) }

  -- what is sent on
  module _ (sent : List (Parcel ℕ)) (within : Within sent (table a).emits) where
    pub sent-few : (table a).own + cost_of (budget table (hops - 1)) sent ≤ budget table hops a
    sent-few = omega (arith, parts.sum, within (budget table (hops - 1)))

    pub sent-may : (t : StoreValue) (is : ℕ) → Takes s t was is (table a).own 0 → MayDeliver t is (cost_of (budget table (hops - 1)) sent)
    sent-may t is takes = record {
      room =
          (let n = cost_of (budget table (hops - 1)) sent in
          room-left s t (budget table hops a) (table a).own n (omega (arith, sent-few)) may.room takes.blocks);
      spare = omega (arith, sent-few, may.spare, takes.spare);
      ends = omega (arith, sent-few, may.ends);
    }
