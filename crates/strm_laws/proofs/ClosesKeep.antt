-- Closes lose no byte: what they take from queues and modules is what they say has gone. And what holds of a pair otherwise holds
-- behind them.
use Rattle.strm_laws.proofs.Prelude.{ℕ, ◌≡◌, ◌+◌, Bool, true, false, cond, List, [], ◌∷◌, refl, ap, ◌∙◌, arith, subst, sym, get-set-same}
use Rattle.strm_laws.specs.Prelude.{Side, Master, Slave, EndClosed, Dir, Up, Carried, of_all, queue_behind, is_open, direction_at, weight, Head}
use Rattle.strm_laws.specs.Prelude.{new_head, Closed}
use Rattle.std.specs.List.{AllByRecursion}
use Rattle.strm_laws.specs.Closes.{and_then, closed_at, driver_emptied, ended, head_emptied, hung_up_at, stream_emptied}
use Rattle.strm_laws.specs.Kept.{state_weight}
use Rattle.strm_laws.specs.Places.{weight_gone, weight_made}
use Rattle.strm_laws.specs.Pushes.{all_taken, modules_emptied, top_taken}
use Rattle.strm_laws.specs.Stacked.{Standing, IsAtRest}
use Rattle.strm_laws.specs.State.{State, stream, with_stream, Stream, with_head_queue}
use Rattle.strm_laws.proofs.DeliveryKeeps.{gone-append, made-append}
use Rattle.strm_laws.proofs.EmptiedKeeps.{and_then-keeps, behind-all, driver_emptied-keeps, head_emptied-keeps}
use Rattle.strm_laws.proofs.PushKeeps.{modules_emptied-keeps}
use Rattle.strm_laws.proofs.StreamWeights.{same-weighs, stream-weighs}

-- the modules of a side
abbrev AreIdleAt : {C : Type 0} → Side → State C → Type 0
AreIdleAt side s = AllByRecursion (λ l. IsAtRest l) (stream side s).modules

module _ {C : Type 0} (p : Dir → C → Bool) where
  -- what a pair comes to that had so many cells
  abbrev Keeps : Carried C (State C) → ℕ → Type 0
  Keeps t n = state_weight p t.state + weight_gone p t.gone ≡ n + weight_made p t.gone

  hung_up-keeps : (side : Side) (s : State C) → state_weight p (hung_up_at side s) ≡ state_weight p s
  hung_up-keeps side s = at (is_open (stream side s).opened)
    where
      at : (opened : Bool) → let t = stream side s in state_weight p (cond opened (with_stream side (record t { head = record t.head { hung_up = true } }) s) s) ≡ state_weight p s
      at true = same-weighs p side (record (stream side s) { head = record (stream side s).head { hung_up = true } }) s refl
      at false = refl

  -- the modules stay where the head's queue is emptied
  head-stays : (side : Side) (s : State C) → AreIdleAt side s → AreIdleAt side (head_emptied EndClosed of_all side s).state
  head-stays side s idle = subst (λ (t : Stream C). AllByRecursion (λ l. IsAtRest l) t.modules) (sym (get-set-same side (with_head_queue (queue_behind of_all (stream side s).head.queue) (stream side s)) s.ends)) idle

  emptied-keeps : (side : Side) (s : State C) → AreIdleAt side s → Keeps (stream_emptied side s) (state_weight p s)
  emptied-keeps side s idle =
      let t = head_emptied EndClosed of_all side s in
      let u = modules_emptied EndClosed side t.state in
      omega (arith, head_emptied-keeps p EndClosed of_all side s, modules_emptied-keeps p EndClosed side t.state (head-stays side s idle), gone-append p t.gone u.gone, made-append p t.gone u.gone)

  -- what stands at the head has gone before it is as new
  taken-head : (side : Side) (ps : List (Standing C)) (s : State C) → (stream side (all_taken EndClosed side ps s).state).head ≡ (stream side s).head
  taken-head side [] s = refl
  taken-head side (l ∷ ls) s =
      taken-head side ls (top_taken EndClosed side (l ∷ ls) s).state ∙ ap (λ (t : Stream C). t.head) (get-set-same side (record (stream side s) { modules = ls }) s.ends)

  head-behind : (side : Side) (s : State C) → weight (p (direction_at Up side)) (stream side (head_emptied EndClosed of_all side s).state).head.queue.messages ≡ 0
  head-behind side s =
      let q = (stream side s).head.queue in
      ap (λ (t : Stream C). weight (p (direction_at Up side)) t.head.queue.messages) (get-set-same side (with_head_queue (queue_behind of_all q) (stream side s)) s.ends) ∙ behind-all (p (direction_at Up side)) q

  head-gone : (side : Side) (s : State C) → weight (p (direction_at Up side)) (stream side (stream_emptied side s).state).head.queue.messages ≡ 0
  head-gone side s =
      let t = head_emptied EndClosed of_all side s in
      ap (λ (h : Head C). weight (p (direction_at Up side)) h.queue.messages) (taken-head side (stream side t.state).modules t.state) ∙ head-behind side s

  ended-keeps : (side : Side) (s : State C) → weight (p (direction_at Up side)) (stream side s).head.queue.messages ≡ 0 → state_weight p (ended side s) ≡ state_weight p s
  ended-keeps side s none = omega (arith, none, stream-weighs p side (record (stream side s) { opened = Closed; head = new_head }) s)

  pub closed_at-keeps : (side : Side) (s : State C) → AreIdleAt side s → Keeps (closed_at side s) (state_weight p s)
  closed_at-keeps Slave s idle =
      let t = stream_emptied Slave s in
      omega (arith, emptied-keeps Slave s idle, ended-keeps Slave t.state (head-gone Slave s))
  closed_at-keeps Master s idle =
      let heads = stream_emptied Master s in
      let one = and_then heads (driver_emptied EndClosed of_all Master) in
      let all = and_then one (driver_emptied EndClosed of_all Slave) in
      let one_keeps = and_then-keeps p (state_weight p s) heads (driver_emptied EndClosed of_all Master) (emptied-keeps Master s idle) (driver_emptied-keeps p EndClosed of_all Master) in
      let all_keep = and_then-keeps p (state_weight p s) one (driver_emptied EndClosed of_all Slave) one_keeps (driver_emptied-keeps p EndClosed of_all Slave) in
      let ends = ended-keeps Master all.state (head-gone Master s) in
      let hung = hung_up-keeps Slave (ended Master all.state) in
      omega arith
