-- What a read or a get takes stood on the queues of the direction that its side reads, and nothing else changes there.
use Rattle.std.proofs.Common.{ℕ, ◌≡◌, ◌+◌, Bool, true, false, cond, List, [], ◌∷◌, length, refl, ap, arith}
use Rattle.std.specs.Prelude.{count_by, min}
use Rattle.strm_types.specs.declared.limits.TheConstants.{READ_MAX}
use Rattle.strm_types.specs.declared.modes.ControlMode.{ControlMode}
use Rattle.strm_types.specs.declared.modes.ReadMode.{ReadMode}
use Rattle.strm_types.specs.declared.modes.Wanted.{Wanted}
use Rattle.strm_types.specs.declared.names.Dir.{Dir}
use Rattle.strm_types.specs.declared.names.Dir.TheVariants.{MasterToSlave, SlaveToMaster}
use Rattle.strm_types.specs.declared.names.Side.{Side}
use Rattle.strm_types.specs.declared.names.Side.TheVariants.{Master, Slave}
use Rattle.strm_types.specs.declared.rules.Rule.{Rule}
use Rattle.strm_types.specs.Cells.{Cells}
use Rattle.strm_types.specs.Deliver.{Fate, Goes}
use Rattle.strm_types.specs.GetQueues.{cells_got, get_gone, get_queue, gets_none}
use Rattle.strm_types.specs.Gets.{head_get}
use Rattle.strm_types.specs.Message.{Message}
use Rattle.strm_types.specs.Names.{direction_of, head_of}
use Rattle.strm_types.specs.Queue.{Queue, left_with, relieved, weight}
use Rattle.strm_types.specs.Reads.{Drawn, head_draw, none_went, queue_drawn, read_fates, read_gone, read_queue, takes_none}
use Rattle.strm_types.proofs.ReadKeeps.{head_draw-keeps}
use Rattle.strm_types.proofs.Weights.{count-join}
use Rattle.strm_laws.specs.Calls.{Outcome, get_at, read_at}
use Rattle.strm_laws.specs.Ledgers.{inline, queued}
use Rattle.strm_laws.specs.Places.{weight_gone, weight_made}
use Rattle.strm_laws.specs.State.{State}
use Rattle.strm_laws.proofs.GotQueues.{get_queue-keeps}
use Rattle.strm_system.proofs.Counting.{gone_in}
use Rattle.strm_system.proofs.Unread.{only_in}

only-same : (d : Dir) (n : ℕ) → only_in d d n ≡ n
only-same MasterToSlave n = refl
only-same SlaveToMaster n = refl

module _ {C : Type 0} where
  abbrev all : C → Bool
  all c = true

  abbrev every : Dir → C → Bool
  every d c = true

  all-counted : (xs : List C) → count_by all xs ≡ length xs
  all-counted [] = refl
  all-counted (x ∷ xs) = omega (arith, count-join all (x ∷ []) xs, all-counted xs)

  left-drawn : (w : Drawn C) (q : Queue C) → (queue_drawn w q).messages ≡ w.left
  left-drawn w q = at (none_went w)
    where
      at : (none : Bool) → (cond none (left_with w.left q) (relieved (left_with w.left q))).messages ≡ w.left
      at true = refl
      at false = refl

  read-leaves : (d : Dir) (read : ReadMode) (control : ControlMode) (n : ℕ) (q : Queue C) → gone_in d (read_gone d read control n q.messages) + weight all (read_queue read control n q).messages ≡ weight all q.messages
  read-leaves d read control n q = at (takes_none control n q.messages)
    where
      at : (none : Bool) → let w = head_draw read control n q.messages in gone_in d (cond none [] (read_fates d w)) + weight all (cond none q (queue_drawn w q)).messages ≡ weight all q.messages
      at true = omega arith
      at false =
          let w = head_draw read control n q.messages in
          omega (
            arith,
            only-same d (length w.given),
            only-same d (length w.discarded),
            only-same d (length w.dropped),
            all-counted w.given,
            all-counted w.discarded,
            all-counted w.dropped,
            head_draw-keeps all read control n q.messages,
            ap (λ (ms : List (Message C)). weight all ms) (left-drawn w q),
          )

  -- what goes by one rule, or nothing
  abbrev once : Bool → Dir → Rule → List C → List (Fate C)
  once none d rule xs = cond none [] (Goes d rule xs ∷ [])

  once-gone : (none : Bool) (d : Dir) (rule : Rule) (xs : List C) → gone_in d (once none d rule xs) ≡ weight_gone every (once none d rule xs)
  once-gone true d rule xs = refl
  once-gone false d rule xs = omega (arith, only-same d (length xs), all-counted xs)

  once-made : (none : Bool) (d : Dir) (rule : Rule) (xs : List C) → weight_made every (once none d rule xs) ≡ 0
  once-made true d rule xs = refl
  once-made false d rule xs = refl

  get-leaves : (d : Dir) (wanted : Wanted) (cmax dmax : ℕ) (q : Queue C) → gone_in d (get_gone d wanted cmax dmax q.messages) + weight all (get_queue wanted cmax dmax q).messages ≡ weight all q.messages
  get-leaves d wanted cmax dmax q =
      let none = gets_none wanted q.messages in
      let got = cells_got (head_get wanted cmax dmax q.messages) in
      omega (
        arith,
        get_queue-keeps every d wanted cmax dmax q,
        once-gone none d Rattle.strm_types.specs.declared.rules.Rule.TheVariants.Read got,
        once-made none d Rattle.strm_types.specs.declared.rules.Rule.TheVariants.Read got,
      )

  -- what a call of a side takes stood on the queues of the direction that the side reads, and nothing else changes there
  abbrev pub Takes : Side → State C → Outcome C → Type 0
  Takes side s outcome = let d = direction_of (head_of side) in (inline d outcome.state ≡ inline d s) × (gone_in d outcome.gone + queued d outcome.state ≡ queued d s)

  module _ (cells : Cells C) where
    pub read-takes : (side : Side) (n : ℕ) (s : State C) → Takes side s (read_at cells side n s)
    read-takes Master n s = let h = s.ends.master.head in (refl, omega (arith, read-leaves SlaveToMaster h.read_mode h.control_mode (min n READ_MAX) h.queue))
    read-takes Slave n s = let h = s.ends.slave.head in (refl, omega (arith, read-leaves MasterToSlave h.read_mode h.control_mode (min n READ_MAX) h.queue))

    pub get-takes : (side : Side) (wanted : Wanted) (cmax dmax : ℕ) (s : State C) → Takes side s (get_at cells side wanted cmax dmax s)
    get-takes Master wanted cmax dmax s = (refl, omega (arith, get-leaves SlaveToMaster wanted (min cmax READ_MAX) (min dmax READ_MAX) s.ends.master.head.queue))
    get-takes Slave wanted cmax dmax s = (refl, omega (arith, get-leaves MasterToSlave wanted (min cmax READ_MAX) (min dmax READ_MAX) s.ends.slave.head.queue))
