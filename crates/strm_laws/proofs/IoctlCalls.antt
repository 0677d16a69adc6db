-- An ioctl on a side's stream loses no cell, leaves a side that isn't open nothing to be read, and forgetting the origins of
-- cells commutes with it; and so with the calls that are told an answer, or the signals.
use Rattle.strm_laws.proofs.Prelude.{ℕ, ◌≡◌, ◌+◌, Bool, List, refl, arith}
use Rattle.strm_laws.specs.Prelude.{Ioc, Side, Master, Slave, Down, Spot, Dir, AreCells, Cells, plain, direction_from, asking, ioctl_message, Message}
use Rattle.strm_laws.specs.Prelude.{cells_of, map_message, weight_of, map_carried, PlainSlot, Waiting, slot_behind}
use Rattle.strm_laws.specs.Behaviours.{Behaviour, MayTestOwn}
use Rattle.strm_laws.specs.Calls.{ioctl_begun, ioctl_sent, ioctl_told, signals_told, map_outcome}
use Rattle.strm_laws.specs.Kept.{state_weight}
use Rattle.strm_laws.specs.Places.{weight_gone, weight_made}
use Rattle.strm_laws.specs.Puts.{delivered}
use Rattle.strm_laws.specs.State.{State, map_state, with_ioctl, with_signals, stream}
use Rattle.strm_laws.proofs.Deliveries.{delivered-keeps}
use Rattle.strm_laws.proofs.PutsForget.{delivered-forgets}
use Rattle.strm_laws.proofs.StreamWeights.{same-weighs}

abbrev below : Side → Spot
below side = record { side = side; at = 1; way = Down }

weight-ioctl : {C : Type 0} (p : C → Bool) (ioc : Ioc) (body : List ℕ) → weight_of p (ioctl_message ioc body) ≡ 0
unfolding weight_of cells_of
weight-ioctl p ioc body = refl

module _ {C : Type 0} where
  module _ (p : Dir → C → Bool) where
    pub ioctl-keeps : (side : Side) (slot : PlainSlot) (s : State C) → state_weight p (with_ioctl side slot s) ≡ state_weight p s
    ioctl-keeps side slot s = same-weighs p side (record (stream side s) { head = record (stream side s).head { ioctl = slot } }) s refl

    pub signals-keep : (side : Side) (signals : List ℕ) (s : State C) → state_weight p (with_signals side signals s) ≡ state_weight p s
    signals-keep side signals s = same-weighs p side (record (stream side s) { head = record (stream side s).head { signals = signals } }) s refl

    pub told-keeps : (side : Side) (s : State C) → state_weight p (ioctl_told side s).state ≡ state_weight p s
    told-keeps side s = ioctl-keeps side (slot_behind (stream side s).head.ioctl) s

    pub sent-keeps : (K : Behaviour) (cells : Cells C) → MayTestOwn K cells p → (side : Side) (command : ℕ) (body : List ℕ) (s : State C)
        → let t = ioctl_sent K cells side command body s in
        state_weight p (ioctl_told side t.state).state + weight_gone p t.gone ≡ state_weight p s + weight_made p t.gone
    sent-keeps K cells tests side command body s =
        let ioc = asking command s.next_ioctl in
        let m : Message C = ioctl_message ioc body in
        let begun = ioctl_begun side command s in
        omega (arith, told-keeps side (delivered K cells (below side) m begun).state, delivered-keeps K cells p tests (below side) m begun, weight-ioctl (p (direction_from side)) ioc body, ioctl-keeps side (Waiting s.next_ioctl command) s)

module _ {C D : Type 0} (f : C → D) where
  message-forgets : (ioc : Ioc) (body : List ℕ) → map_message f (ioctl_message ioc body) ≡ ioctl_message ioc body
  unfolding map_message
  message-forgets ioc body = refl

  begun-forgets : (side : Side) (command : ℕ) (s : State C) → ioctl_begun side command (map_state f s) ≡ map_state f (ioctl_begun side command s)
  begun-forgets Master command s = refl
  begun-forgets Slave command s = refl

  pub ioctl_told-forgets : (side : Side) (s : State C) → ioctl_told side (map_state f s) ≡ map_outcome f (ioctl_told side s)
  ioctl_told-forgets Master s = refl
  ioctl_told-forgets Slave s = refl

  pub signals-forget : (side : Side) (s : State C) → signals_told side (map_state f s) ≡ map_outcome f (signals_told side s)
  signals-forget Master s = refl
  signals-forget Slave s = refl

module _ {C : Type 0} (cells : Cells C) (are : AreCells cells) where
  abbrev f : C → ℕ
  f = cells.byte

  pub sent-forgets : (K : Behaviour) (side : Side) (command : ℕ) (body : List ℕ) (s : State C) → ioctl_sent K plain side command body (map_state f s) ≡ map_carried f (map_state f) (ioctl_sent K cells side command body s)
  sent-forgets K side command body s =
      let m = ioctl_message (asking command s.next_ioctl) body in
      rw (begun-forgets f side command s, ← message-forgets f (asking command s.next_ioctl) body) (delivered-forgets cells are K (below side) m (ioctl_begun side command s))
