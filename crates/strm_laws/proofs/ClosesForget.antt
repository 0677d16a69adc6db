-- Forgetting the origins of cells commutes with flushes and closes.
use Rattle.strm_laws.proofs.Prelude.{◌≡◌, Bool, true, false, cond, map, refl, ap, ◌∙◌, map-append, map-set}
use Rattle.strm_laws.specs.Prelude.{Side, Master, Slave, Rule, EndClosed, Carried, Choice, of_all, queue_behind, is_open, map_carried, map_fate}
use Rattle.strm_laws.specs.Closes.{and_then, closed_at, driver_emptied, ended, head_emptied, hung_up_at, stream_emptied}
use Rattle.strm_laws.specs.Pushes.{modules_emptied}
use Rattle.strm_laws.specs.State.{State, map_state, map_stream, stream, with_driver_queue, with_head_queue, with_stream}
use Rattle.strm_laws.proofs.Earlier.{before_driver-forgets, before_head-forgets}
use Rattle.strm_laws.proofs.EmptiedForgets.{gone-forgets, queue_behind-forgets, stream-forgets, writer_goes-forgets}
use Rattle.strm_laws.proofs.PushForgets.{modules_emptied-forgets}

-- what a close of the master takes away
abbrev both_emptied : {E : Type 0} → State E → Carried E (State E)
both_emptied s = and_then (and_then (stream_emptied Master s) (driver_emptied EndClosed of_all Master)) (driver_emptied EndClosed of_all Slave)

module _ {C D : Type 0} (f : C → D) where
  -- over a side's head and its driver
  head_emptied-forgets : (rule : Rule) (chosen : Choice) (side : Side) (s : State C)
      → head_emptied rule chosen side (map_state f s) ≡ map_carried f (map_state f) (head_emptied rule chosen side s)
  head_emptied-forgets rule chosen side s =
      let t = stream side s in
      let q = t.head.queue in
      rw (
        before_head-forgets f side s,
        stream-forgets f side s,
        queue_behind-forgets f chosen q,
        writer_goes-forgets f chosen q,
        gone-forgets f chosen q.messages,
        map-set (map_stream f) side (with_head_queue (queue_behind chosen q) t) s.ends,
      ) refl

  driver_emptied-forgets : (rule : Rule) (chosen : Choice) (side : Side) (s : State C)
      → driver_emptied rule chosen side (map_state f s) ≡ map_carried f (map_state f) (driver_emptied rule chosen side s)
  driver_emptied-forgets rule chosen side s =
      let t = stream side s in
      let q = t.driver.queue in
      rw (
        before_driver-forgets f side s,
        stream-forgets f side s,
        queue_behind-forgets f chosen q,
        writer_goes-forgets f chosen q,
        gone-forgets f chosen q.messages,
        map-set (map_stream f) side (with_driver_queue (queue_behind chosen q) t) s.ends,
      ) refl

  -- one after the other
  and_then-forgets : (t : Carried C (State C)) (image : Carried D (State D)) (next : State C → Carried C (State C)) (next' : State D → Carried D (State D))
      → image ≡ map_carried f (map_state f) t → ((s : State C) → next' (map_state f s) ≡ map_carried f (map_state f) (next s))
      → and_then image next' ≡ map_carried f (map_state f) (and_then t next)
  and_then-forgets t image next next' is agree =
      rw (is, agree t.state, ← map-append (map_fate f) t.gone (next t.state).gone) refl

  -- a close
  hung_up-forgets : (s : State C) → hung_up_at Slave (map_state f s) ≡ map_state f (hung_up_at Slave s)
  hung_up-forgets s = at (is_open s.ends.slave.opened)
    where
      hung : {E : Type 0} → State E → State E
      hung s = with_stream Slave (record s.ends.slave { head = record s.ends.slave.head { hung_up = true } }) s

      at : (opened : Bool) → cond opened (hung (map_state f s)) (map_state f s) ≡ map_state f (cond opened (hung s) s)
      at true = refl
      at false = refl

  emptied-forgets : (side : Side) (s : State C) → stream_emptied side (map_state f s) ≡ map_carried f (map_state f) (stream_emptied side s)
  emptied-forgets side s =
      and_then-forgets (head_emptied EndClosed of_all side s) (head_emptied EndClosed of_all side (map_state f s)) (modules_emptied EndClosed side) (modules_emptied EndClosed side)
      (head_emptied-forgets EndClosed of_all side s) (modules_emptied-forgets f EndClosed side)

  both-forgets : (s : State C) → both_emptied (map_state f s) ≡ map_carried f (map_state f) (both_emptied s)
  both-forgets s =
      let image = map_state f s in
      let one = and_then (stream_emptied Master s) (driver_emptied EndClosed of_all Master) in
      let one_image = and_then (stream_emptied Master image) (driver_emptied EndClosed of_all Master) in
      and_then-forgets one one_image (driver_emptied EndClosed of_all Slave) (driver_emptied EndClosed of_all Slave)
      (and_then-forgets (stream_emptied Master s) (stream_emptied Master image) (driver_emptied EndClosed of_all Master)
      (driver_emptied EndClosed of_all Master) (emptied-forgets Master s) (driver_emptied-forgets EndClosed of_all Master))
      (driver_emptied-forgets EndClosed of_all Slave)

  pub closed_at-forgets : (side : Side) (s : State C) → closed_at side (map_state f s) ≡ map_carried f (map_state f) (closed_at side s)
  closed_at-forgets Slave s = ap (λ (t : Carried D (State D)). record { state = ended Slave t.state; gone = t.gone }) (emptied-forgets Slave s)
  closed_at-forgets Master s =
      ap (λ (t : Carried D (State D)). record { state = hung_up_at Slave (ended Master t.state); gone = t.gone }) (both-forgets s)
      ∙ ap (λ (t : State D). record { state = t; gone = map (map_fate f) (both_emptied s).gone }) (hung_up-forgets (ended Master (both_emptied s).state))
