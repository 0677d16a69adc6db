-- Deliveries in a pair, and with them flushes of a stream, lose no cell, and leave a side that isn't open nothing to be read.
use Rattle.strm_laws.proofs.Prelude.{◌≡◌, ◌+◌, Bool, arith, Option}
use Rattle.strm_laws.specs.Prelude.{FlushQueues, Band, HOPS, Side, Down, Spot, Dir, Cells, direction_from, asked_of, flush_bytes, flush_message}
use Rattle.strm_laws.specs.Prelude.{Message, weight_of, shape_of}
use Rattle.strm_laws.specs.Behaviours.{Behaviour, MayTestOwn}
use Rattle.strm_laws.specs.Kept.{state_weight}
use Rattle.strm_laws.specs.Places.{weight_gone, weight_made, direction_to}
use Rattle.strm_laws.specs.Puts.{SameButMade, delivered, flushed_on, put_in}
use Rattle.strm_laws.specs.SideCosts.{costs}
use Rattle.strm_laws.specs.StackCosts.{stands_of}
use Rattle.strm_laws.specs.State.{State}
use Rattle.strm_laws.proofs.DeliveryKeeps.{carried-keeps}
use Rattle.strm_laws.proofs.PutParts.{delivered-holds}
use Rattle.strm_laws.proofs.Budgeted.{ends}
use Rattle.strm_laws.proofs.PutsWithin.{puts-costed}
use Rattle.strm_laws.proofs.PutsKeep.{puts-keep, same-itself, same-stays}
use Rattle.strm_laws.proofs.PutWeights.{weight-flush}

module _ {C : Type 0} (K : Behaviour) (cells : Cells C) where
  pub delivered-keeps : (p : Dir → C → Bool) → MayTestOwn K cells p → (to : Spot) (m : Message C) (s : State C) →
      state_weight p (delivered K cells to m s).state + weight_gone p (delivered K cells to m s).gone
      ≡ state_weight p s + (weight_of (p (direction_to to)) m + weight_made p (delivered K cells to m s).gone)
  delivered-keeps p tests to m s =
      carried-keeps p (state_weight p) (λ (s : State C). costs (stands_of s)) (put_in K cells) (puts-keep p K cells tests) (puts-costed K cells) HOPS (record { to = to; message = m }) s
      (ends (stands_of s) (record { to = to; shape = shape_of m }))

  pub delivered-same : (to : Spot) (m : Message C) (s : State C) → SameButMade s (delivered K cells to m s).state
  delivered-same to m s = delivered-holds (SameButMade s) K (same-stays s) cells to m s (same-itself s)

  pub flushed_on-keeps : (p : Dir → C → Bool) → MayTestOwn K cells p → (band : Option Band) (side : Side) (what : FlushQueues) (s : State C) →
      state_weight p (flushed_on K cells band side what s).state + weight_gone p (flushed_on K cells band side what s).gone
      ≡ state_weight p s + weight_made p (flushed_on K cells band side what s).gone
  flushed_on-keeps p tests band side what s =
      let bytes = flush_bytes (asked_of what band) in
      omega (arith, delivered-keeps p tests (record { side = side; at = 1; way = Down }) (flush_message bytes) s, weight-flush (p (direction_from side)) bytes)
