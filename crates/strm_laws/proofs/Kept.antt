-- No step of a pair loses a byte, or makes one that it doesn't tell.
use Rattle.strm_laws.proofs.Prelude.{ℕ, ◌≡◌, ◌+◌, Bool, true, false, cond, List, [], refl, sym, ap, ◌∙◌, arith, min, not, None, count_by}
use Rattle.strm_laws.proofs.Prelude.{head_draw-keeps}
use Rattle.strm_laws.specs.Prelude.{READ_MAX, Called, Turned, Caller, OpenSlave, Shut, Push, Pop, Write, Read, Put, Get, Mode, IoctlResult, Signals}
use Rattle.strm_laws.specs.Prelude.{Wanted, ControlMode, ReadMode, Dir, Side, Slave, Einval, Free, Up, Cells, cells_written, direction_from}
use Rattle.strm_laws.specs.Prelude.{direction_of, head_of, is_open, direction_at, Message, Queue, weight, left_with, relieved, Drawn, head_draw}
use Rattle.strm_laws.specs.Prelude.{none_went, queue_drawn, read_fates, read_gone, read_queue, takes_none, Request, get_queue, get_gone, asks_group}
use Rattle.strm_laws.specs.Prelude.{group_behind, PlainEntry, or_else}
use Rattle.strm_types.specs.declared.events.Event.TheVariants.{Flush, Ioctl}
use Rattle.strm_types.specs.declared.modes.Mode as modes
use Rattle.strm_types.specs.declared.modes.Mode.TheVariants as chosen
use Rattle.strm_laws.specs.Behaviours.{Behaviour, MayTestOwn}
use Rattle.strm_laws.specs.State.{State, stream, book, with_head_queue}
use Rattle.strm_laws.specs.Calls.{Outcome, get_at, group_at, ioctl_at, mode_set, performed, read_at, write_sent, wrote, delivers}
use Rattle.strm_laws.specs.Refusals.{refused_at_once, unfit}
use Rattle.strm_laws.specs.Step.{Step}
use Rattle.strm_laws.specs.Turns.{turned}
use Rattle.strm_laws.specs.Places.{weight_gone, weight_made}
use Rattle.strm_laws.specs.Kept.{state_weight, NothingUnread, AreIdle, MayTest, gone, count_came}
use Rattle.strm_laws.proofs.ClosesKeep.{closed_at-keeps}
use Rattle.strm_laws.proofs.PushKeeps.{pop-keeps, push-keeps}
use Rattle.strm_laws.proofs.Deliveries.{flushed_on-keeps}
use Rattle.strm_laws.proofs.WriteSteps.{cells_sent-keeps}
use Rattle.strm_laws.proofs.GotQueues.{get_queue-keeps}
use Rattle.strm_laws.proofs.IoctlCalls.{sent-keeps, signals-keep, told-keeps}
use Rattle.strm_laws.proofs.PutMessages.{put_at-keeps}
use Rattle.strm_laws.proofs.TurnKeeps.{turn-keeps}
use Rattle.strm_laws.proofs.Replay.{unless-none, or_else-none}
use Rattle.strm_laws.proofs.Stopping.{of-allowed}
use Rattle.strm_laws.proofs.StreamWeights.{same-weighs, stream-weighs}

closed-of : (b : Bool) → not b ≡ true → b ≡ false
closed-of false is = refl
closed-of true is = absurd (cc)

module _ {C : Type 0} where
  left-drawn : (d : Drawn C) (q : Queue C) → (queue_drawn d q).messages ≡ d.left
  left-drawn d q = at (none_went d)
    where
      at : (none : Bool) → (cond none (left_with d.left q) (relieved (left_with d.left q))).messages ≡ d.left
      at true = refl
      at false = refl

  module _ (p : Dir → C → Bool) where
    write-keeps : (K : Behaviour) (cells : Cells C) → MayTestOwn K cells p → (side : Side) (bytes : List ℕ) (s : State C)
        → let t = write_sent K cells side bytes s in
        state_weight p (wrote K cells side bytes s).state + weight_gone p t.gone ≡ state_weight p s + (count_by (p (direction_from side)) (wrote K cells side bytes s).came + weight_made p t.gone)
    write-keeps K cells tests side bytes s =
        let dir = direction_from side in
        let t = write_sent K cells side bytes s in
        omega (arith, cells_sent-keeps cells p side K tests (cells_written cells dir (book dir s).written bytes) s)

    -- what a read leaves on the queue, and what goes by its rules
    drawn-keeps : (dir : Dir) (read : ReadMode) (control : ControlMode) (n : ℕ) (q : Queue C) → weight (p dir) (read_queue read control n q).messages + weight_gone p (read_gone dir read control n q.messages) ≡ weight (p dir) q.messages + weight_made p (read_gone dir read control n q.messages)
    drawn-keeps dir read control n q = at (takes_none control n q.messages)
      where
        at : (none : Bool) → let d = head_draw read control n q.messages in weight (p dir) (cond none q (queue_drawn d q)).messages + weight_gone p (cond none [] (read_fates dir d)) ≡ weight (p dir) q.messages + weight_made p (cond none [] (read_fates dir d))
        at true = omega arith
        at false =
            let d = head_draw read control n q.messages in
            omega (arith, head_draw-keeps (p dir) read control n q.messages, ap (λ (ms : List (Message C)). weight (p dir) ms) (left-drawn d q))

    read-keeps : (cells : Cells C) (side : Side) (n : ℕ) (s : State C) → let h = (stream side s).head in
        let gone = read_gone (direction_of (head_of side)) h.read_mode h.control_mode (min n READ_MAX) h.queue.messages in
        state_weight p (read_at cells side n s).state + weight_gone p gone ≡ state_weight p s + weight_made p gone
    read-keeps cells side n s =
        let t = stream side s in
        let h = t.head in
        omega (
          arith,
          stream-weighs p side (with_head_queue (read_queue h.read_mode h.control_mode (min n READ_MAX) h.queue) t) s,
          drawn-keeps (direction_of (head_of side)) h.read_mode h.control_mode (min n READ_MAX) h.queue,
        )

    get-keeps : (cells : Cells C) (side : Side) (wanted : Wanted) (cmax dmax : ℕ) (s : State C) →
        let gone = get_gone (direction_of (head_of side)) wanted (min cmax READ_MAX) (min dmax READ_MAX) (stream side s).head.queue.messages in
        state_weight p (get_at cells side wanted cmax dmax s).state + weight_gone p gone ≡ state_weight p s + weight_made p gone
    get-keeps cells side wanted cmax dmax s =
        let t = stream side s in
        omega (
          arith,
          stream-weighs p side (with_head_queue (get_queue wanted (min cmax READ_MAX) (min dmax READ_MAX) t.head.queue) t) s,
          get_queue-keeps p (direction_of (head_of side)) wanted (min cmax READ_MAX) (min dmax READ_MAX) t.head.queue,
        )

    mode-keeps : (side : Side) (mode : modes.Mode) (s : State C) → state_weight p (mode_set side mode s) ≡ state_weight p s
    mode-keeps side (chosen.Read mode) s = same-weighs p side (record (stream side s) { head = record (stream side s).head { read_mode = mode } }) s refl
    mode-keeps side (chosen.Control mode) s = same-weighs p side (record (stream side s) { head = record (stream side s).head { control_mode = mode } }) s refl

    -- what stands behind a call, with what has gone, is what stood before, with what came and was made
    abbrev Keeps : Caller → State C → Outcome C → Type 0
    Keeps caller s outcome = state_weight p outcome.state + weight_gone p outcome.gone ≡ state_weight p s + (count_by (p (direction_from caller.side)) outcome.came + weight_made p outcome.gone)

    group-keeps : (side : Side) (command : ℕ) (body : List ℕ) (s : State C) → state_weight p (group_at side command body s).state ≡ state_weight p s
    group-keeps side command body s =
        let t = stream side s in
        same-weighs p side (record t { head = record t.head { group = group_behind command body t.head.group; ioctl = Free } }) s refl

    performed-keeps : (K : Behaviour) (cells : Cells C) (caller : Caller) (asked : Request) (s : State C) → (delivers asked ≡ true → MayTestOwn K cells p) → NothingUnread s → AreIdle s → or_else (refused_at_once s caller asked) (unfit K s caller asked) ≡ None → Keeps caller s (performed K cells caller asked s)
    performed-keeps K cells caller Shut s tests unread idle allowed = omega (arith, closed_at-keeps p caller.side s (idle caller.side))
    performed-keeps K cells caller (Push name) s tests unread idle allowed = omega (arith, push-keeps p K caller.side name s)
    performed-keeps K cells caller Pop s tests unread idle allowed = omega (arith, pop-keeps p caller.side s (idle caller.side))
    performed-keeps K cells caller (Flush what band) s tests unread idle allowed =
        omega (arith, flushed_on-keeps K cells p (tests refl) band caller.side what s)
    performed-keeps K cells caller OpenSlave s tests unread idle allowed =
        let by_state = or_else-none _ _ (or_else-none (refused_at_once s caller OpenSlave) _ allowed).1 in
        let closed = closed-of (is_open s.ends.slave.opened) (unless-none (not (is_open s.ends.slave.opened)) Einval by_state.0) in
        let nothing = ap (λ (q : List (Message C)). weight (p (direction_at Up Slave)) q) (unread Slave closed) in
        omega (arith, nothing)
    performed-keeps K cells caller (Write bytes) s tests unread idle allowed = write-keeps K cells (tests refl) caller.side bytes s
    performed-keeps K cells caller (Read n) s tests unread idle allowed = omega (arith, read-keeps cells caller.side n s)
    performed-keeps K cells caller (Put prio control body) s tests unread idle allowed =
        put_at-keeps p K cells (tests refl) caller.side prio control body s
    performed-keeps K cells caller (Get wanted cmax dmax) s tests unread idle allowed = omega (arith, get-keeps cells caller.side wanted cmax dmax s)
    performed-keeps K cells caller (Mode mode) s tests unread idle allowed = omega (arith, mode-keeps caller.side mode s)
    performed-keeps K cells caller (Ioctl command body) s tests unread idle allowed = at (asks_group caller.side command)
      where
        at : (group : Bool) → Keeps caller s (cond group (group_at caller.side command body s) (ioctl_at K cells caller.side command body s))
        at true = omega (arith, group-keeps caller.side command body s)
        at false = omega (arith, sent-keeps p K cells (tests refl) caller.side command body s)
    performed-keeps K cells caller (IoctlResult number) s tests unread idle allowed = omega (arith, told-keeps p caller.side s)
    performed-keeps K cells caller Signals s tests unread idle allowed = omega (arith, signals-keep p caller.side [] s)
    performed-keeps K cells caller _ s tests unread idle allowed = refl

    -- what stands on the queues after a step, and what it took away, is what stood there before, what it brought, and what was
    -- made on the way
    pub step-keeps : (K : Behaviour) (cells : Cells C) (old new : State C) (entry : PlainEntry) → MayTest K cells p entry → NothingUnread old → AreIdle old → Step K cells old entry new
        → state_weight p new + weight_gone p (gone K cells old entry) ≡ state_weight p old + (count_came K cells p old entry + weight_made p (gone K cells old entry))
    step-keeps K cells old new (Called caller asked answer) tests unread idle step =
        ap (λ (s : State C). state_weight p s + weight_gone p (gone K cells old (Called caller asked answer))) (sym step.leads)
        ∙ of-allowed K cells caller asked old (Keeps caller old) (λ signal. refl) step.allowed (λ fits. performed-keeps K cells caller asked old tests unread idle fits)
    step-keeps K cells old new (Turned name turn) tests unread idle step =
        ap (λ (s : State C). state_weight p s + weight_gone p (gone K cells old (Turned name turn))) (sym step.leads) ∙ turn-keeps p K cells name tests turn old idle ∙ (let same : state_weight p old + weight_made p (turned K cells name turn old).gone ≡ state_weight p old + (0 + weight_made p (turned K cells name turn old).gone) = omega arith in same)
