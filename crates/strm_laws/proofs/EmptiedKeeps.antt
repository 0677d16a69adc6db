-- Queues that are emptied, and closes, lose no byte: what they take from the queues is what they say has gone.
use Rattle.strm_laws.proofs.Prelude.{ℕ, ◌≡◌, ◌+◌, Bool, true, false, cond, List, [], ◌∷◌, ◌++◌, refl, ap, ◌∙◌, arith, not, count_by, weight-take}
use Rattle.strm_laws.proofs.Prelude.{count-join, weight-whole}
use Rattle.strm_laws.specs.Prelude.{Side, Rule, Dir, Up, Down, direction_at, Carried, Choice, of_all, stayed, cells_gone, emptied, none_goes}
use Rattle.strm_laws.specs.Prelude.{queue_behind, Message, cells_of, Queue, weight, relieved}
use Rattle.strm_laws.specs.Closes.{head_emptied, driver_emptied, and_then}
use Rattle.strm_laws.specs.Kept.{state_weight}
use Rattle.strm_laws.specs.Places.{weight_gone, weight_made}
use Rattle.strm_laws.specs.State.{State, stream, with_head_queue, with_driver_queue}
use Rattle.strm_laws.proofs.DeliveryKeeps.{gone-append, made-append}
use Rattle.strm_laws.proofs.StreamWeights.{stream-weighs}

module _ {C : Type 0} where
  -- over one queue
  behind-is : (chosen : Choice) (q : Queue C) → (queue_behind chosen q).messages ≡ stayed chosen q.messages
  behind-is chosen q = at (none_goes chosen q)
    where
      at : (none : Bool) → (cond none (emptied chosen q) (relieved (emptied chosen q))).messages ≡ stayed chosen q.messages
      at true = refl
      at false = refl

  none-stays : (ms : List (Message C)) → stayed of_all ms ≡ []
  none-stays [] = refl
  none-stays (m ∷ ms) = none-stays ms

  module _ (p : C → Bool) where
    stayed-keeps : (chosen : Choice) (ms : List (Message C)) → weight p (stayed chosen ms) + count_by p (cells_gone chosen ms) ≡ weight p ms
    stayed-keeps chosen [] = refl
    stayed-keeps chosen (m ∷ ms) = at (chosen m.kind m.band) (stayed-keeps chosen ms)
      where
        at : (goes : Bool) → weight p (stayed chosen ms) + count_by p (cells_gone chosen ms) ≡ weight p ms → weight p (cond (not goes) (m ∷ stayed chosen ms) (stayed chosen ms)) + count_by p (cond goes (cells_of m) [] ++ cells_gone chosen ms) ≡ weight p (m ∷ ms)
        at true ih = omega (arith, ih, weight-take p m ms, weight-whole p m, count-join p (cells_of m) (cells_gone chosen ms))
        at false ih = omega (arith, ih, weight-take p m ms, weight-take p m (stayed chosen ms))

    pub behind-keeps : (chosen : Choice) (q : Queue C) → weight p (queue_behind chosen q).messages + count_by p (cells_gone chosen q.messages) ≡ weight p q.messages
    behind-keeps chosen q = ap (λ (ms : List (Message C)). weight p ms + count_by p (cells_gone chosen q.messages)) (behind-is chosen q) ∙ stayed-keeps chosen q.messages

    -- all messages go
    pub behind-all : (q : Queue C) → weight p (queue_behind of_all q).messages ≡ 0
    behind-all q = ap (λ (ms : List (Message C)). weight p ms) (behind-is of_all q ∙ none-stays q.messages)

  module _ (p : Dir → C → Bool) where
    -- what a pair comes to that had so many cells
    abbrev Keeps : Carried C (State C) → ℕ → Type 0
    Keeps t n = state_weight p t.state + weight_gone p t.gone ≡ n + weight_made p t.gone

    -- over a side's head and its driver
    pub head_emptied-keeps : (rule : Rule) (chosen : Choice) (side : Side) (s : State C) → Keeps (head_emptied rule chosen side s) (state_weight p s)
    head_emptied-keeps rule chosen side s =
        let t = stream side s in
        omega (arith, stream-weighs p side (with_head_queue (queue_behind chosen t.head.queue) t) s, behind-keeps (p (direction_at Up side)) chosen t.head.queue)

    pub driver_emptied-keeps : (rule : Rule) (chosen : Choice) (side : Side) (s : State C) → Keeps (driver_emptied rule chosen side s) (state_weight p s)
    driver_emptied-keeps rule chosen side s =
        let t = stream side s in
        omega (arith, stream-weighs p side (with_driver_queue (queue_behind chosen t.driver.queue) t) s, behind-keeps (p (direction_at Down side)) chosen t.driver.queue)

    -- one after the other
    pub and_then-keeps : (n : ℕ) (t : Carried C (State C)) (next : State C → Carried C (State C)) → Keeps t n → ((s : State C) → Keeps (next s) (state_weight p s)) → Keeps (and_then t next) n
    and_then-keeps n t next is keeps = omega (arith, is, keeps t.state, gone-append p t.gone (next t.state).gone, made-append p t.gone (next t.state).gone)

  -- where nothing stood
  pub behind-none : (chosen : Choice) (q : Queue C) → q.messages ≡ [] → (queue_behind chosen q).messages ≡ []
  behind-none chosen q none = behind-is chosen q ∙ ap (λ (ms : List (Message C)). stayed chosen ms) none
