-- Room past a place is the same where the origins of cells are forgotten, and a writer that waits there changes nothing that stands.
use Rattle.strm_laws.proofs.Prelude.{ℕ, zero, suc, ◌≡◌, ◌-◌, Bool, false, List, [], ◌∷◌, map, refl, ap, ◌∙◌, arith, not, slice_index_or, Option, None}
use Rattle.strm_laws.proofs.Prelude.{Some, set-all}
use Rattle.strm_laws.specs.Prelude.{Side, Master, Slave, Way, Up, Down, Dir, can_pass, place_past, with_waiting, change_among, is_full, QueuePair}
use Rattle.strm_laws.specs.Prelude.{stood}
use Rattle.strm_laws.specs.Kept.{AreIdle, state_weight, stream_weight}
use Rattle.strm_types.specs.ModuleQueues.{full_at, room_at, waits}
use Rattle.strm_laws.specs.Past.{end_queue, has_room_past, may_pass, waits_on, writer_waits}
use Rattle.strm_laws.specs.Stacked.{Standing, map_module}
use Rattle.strm_laws.specs.State.{State, Stream, stream, with_stream, map_state, map_stream}
use Rattle.strm_laws.proofs.Earlier.{place_past-forgets}
use Rattle.strm_laws.proofs.EmptiedForgets.{stream-forgets}
use Rattle.strm_laws.proofs.Forgetting.{full-forgets}
use Rattle.strm_laws.proofs.ModulesIdle.{AllIdle}
use Rattle.strm_laws.proofs.QueueChanges.{changes-idle, changes-keep}
use Rattle.strm_laws.proofs.StreamWeights.{same-weighs}

module _ {C D : Type 0} (f : C → D) where
  abbrev images : List (Standing C) → List (Standing D)
  images ps = map (map_module f) ps

  -- room
  full-same : (way : Way) (band : ℕ) (p : Standing C) → full_at way band (map_module f p) ≡ full_at way band p
  full-same way band p = by way p.queues
    where
      by : (way : Way) (queues : Option (QueuePair C)) → full_at way band (map_module f (stood p.part queues)) ≡ full_at way band (stood p.part queues)
      by way None = refl
      by Up (Some pair) = full-forgets f band pair.read
      by Down (Some pair) = full-forgets f band pair.write

  fulls-same : (way : Way) (band : ℕ) (ps : List (Standing C)) → map (full_at way band) (images ps) ≡ map (full_at way band) ps
  fulls-same way band [] = refl
  fulls-same way band (p ∷ ps) =
      ap (λ b. b ∷ map (full_at way band) (images ps)) (full-same way band p) ∙ ap (λ bs. full_at way band p ∷ bs) (fulls-same way band ps)

  room-same : (way : Way) (band : ℕ) (ps : List (Standing C)) (o : Option ℕ) → room_at way band (images ps) o ≡ room_at way band ps o
  room-same way band ps None = refl
  room-same way band ps (Some place) = ap (λ bs. Some (not (slice_index_or bs (place - 1) false))) (fulls-same way band ps)

  can_pass-same : (way : Way) (band at : ℕ) (ps : List (Standing C)) → can_pass way band at (images ps) ≡ can_pass way band at ps
  can_pass-same way band at ps =
      ap (λ o. room_at way band (images ps) o) (place_past-forgets f way at ps) ∙ room-same way band ps (place_past way at ps)

  end-same : (way : Way) (band : ℕ) (t : Stream C) → is_full band (end_queue way (map_stream f t)) ≡ is_full band (end_queue way t)
  end-same Up band t = full-forgets f band t.head.queue
  end-same Down band t = full-forgets f band t.driver.queue

  may_pass-same : (way : Way) (at band : ℕ) (t : Stream C) → may_pass way at band (map_stream f t) ≡ may_pass way at band t
  may_pass-same way at band t =
      rw (can_pass-same way band at t.modules, end-same way band t) refl

  pub room-forgets : (side : Side) (way : Way) (at band : ℕ) (s : State C) → has_room_past side way at band (map_state f s) ≡ has_room_past side way at band s
  room-forgets side way at band s = ap (λ t. may_pass way at band t) (stream-forgets f side s) ∙ may_pass-same way at band (stream side s)

  -- a writer that waits
  waits-same : (way : Way) (band : ℕ) (p : Standing C) → waits way band (map_module f p) ≡ map_module f (waits way band p)
  waits-same way band p = by way p.queues
    where
      by : (way : Way) (queues : Option (QueuePair C)) → waits way band (map_module f (stood p.part queues)) ≡ map_module f (waits way band (stood p.part queues))
      by way None = refl
      by Up (Some pair) = refl
      by Down (Some pair) = refl

  change-same : (way : Way) (band i : ℕ) (ps : List (Standing C))
      → change_among (waits way band) i (images ps) ≡ images (change_among (waits way band) i ps)
  change-same way band i [] = refl
  change-same way band zero (p ∷ ps) = ap (λ q. q ∷ images ps) (waits-same way band p)
  change-same way band (suc i) (p ∷ ps) = ap (λ qs. map_module f p ∷ qs) (change-same way band i ps)

  waits_on-same : (way : Way) (band : ℕ) (o : Option ℕ) (t : Stream C) → waits_on way band o (map_stream f t) ≡ map_stream f (waits_on way band o t)
  waits_on-same Up band None t = refl
  waits_on-same Down band None t = refl
  waits_on-same way band (Some place) t = ap (λ (ps : List (Standing D)). record (map_stream f t) { modules = ps }) (change-same way band (place - 1) t.modules)

  pub with_stream-same : (side : Side) (t : Stream C) (s : State C) → with_stream side (map_stream f t) (map_state f s) ≡ map_state f (with_stream side t s)
  with_stream-same Master t s = refl
  with_stream-same Slave t s = refl

  pub writer_waits-forgets : (side : Side) (way : Way) (at band : ℕ) (s : State C) → writer_waits side way at band (map_state f s) ≡ map_state f (writer_waits side way at band s)
  writer_waits-forgets side way at band s =
      let t = stream side s in
      let past = place_past way at t.modules in
      rw (stream-forgets f side s, place_past-forgets f way at t.modules, waits_on-same way band past t) (with_stream-same side (waits_on way band past t) s)

module _ {C : Type 0} where
  idle-on : (way : Way) (band : ℕ) (o : Option ℕ) (t : Stream C) → AllIdle t.modules → AllIdle (waits_on way band o t).modules
  idle-on Up band None t idle = idle
  idle-on Down band None t idle = idle
  idle-on way band (Some place) t idle = changes-idle (with_waiting band) way (place - 1) t.modules idle

  pub waits-idle : (side : Side) (way : Way) (at band : ℕ) (s : State C) → AreIdle s → AreIdle (writer_waits side way at band s)
  waits-idle side way at band s idle =
      let t = stream side s in
      let past = place_past way at t.modules in
      set-all (λ of u. AllIdle u.modules) side (waits_on way band past t) s.ends (idle-on way band past t (idle side)) idle

  module _ (p : Dir → C → Bool) where
    weight-on : (side : Side) (way : Way) (band : ℕ) (o : Option ℕ) (t : Stream C) → stream_weight p side (waits_on way band o t) ≡ stream_weight p side t
    weight-on side Up band None t = refl
    weight-on side Down band None t = refl
    weight-on side way band (Some place) t = let same = changes-keep (with_waiting band) p side (λ q. refl) way (place - 1) t.modules in omega arith

    pub waits-keeps : (side : Side) (way : Way) (at band : ℕ) (s : State C) → state_weight p (writer_waits side way at band s) ≡ state_weight p s
    waits-keeps side way at band s =
        let t = stream side s in
        let past = place_past way at t.modules in
        same-weighs p side (waits_on way band past t) s (weight-on side way band past t)
