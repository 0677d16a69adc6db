-- Forgetting the origins of cells commutes with what is taken off a queue.
use Rattle.strm_laws.proofs.Prelude.{ℕ, ◌≡◌, Bool, true, false, cond, List, [], ◌∷◌, ◌++◌, map, refl, sym, ap, ◌∙◌, arith, not, map-append}
use Rattle.strm_laws.proofs.Prelude.{sum_by-cons}
use Rattle.strm_laws.specs.Prelude.{MsgKind, Side, Master, Slave, Choice, stayed, cells_gone, emptied, none_goes, queue_behind, writer_goes, Message}
use Rattle.strm_laws.specs.Prelude.{cells_of, size_of, map_message, Queue, relieved, relieves, map_messages, map_queue}
use Rattle.strm_types.specs.Queue.{bytes_of}
use Rattle.strm_laws.specs.State.{State, stream, map_stream, map_state}
use Rattle.strm_laws.proofs.Forgetting.{kind-forgets, named_band-forgets, cells-forget, size-forgets, none-forgets, relieved-forgets, relieves_from-forgets}

module _ {C D : Type 0} (f : C → D) where
  -- over one queue
  chosen-forgets : (chosen : Choice) (m : Message C) → chosen (map_message f m).kind (map_message f m).band ≡ chosen m.kind m.band
  chosen-forgets chosen m =
      ap (λ (kind : MsgKind). chosen kind (map_message f m).band) (kind-forgets f m) ∙ ap (λ (band : ℕ). chosen m.kind band) (named_band-forgets f m)

  stayed-forgets : (chosen : Choice) (ms : List (Message C)) → stayed chosen (map_messages f ms) ≡ map_messages f (stayed chosen ms)
  stayed-forgets chosen [] = refl
  stayed-forgets chosen (m ∷ ms) =
      rw (chosen-forgets chosen m, stayed-forgets chosen ms) (at (chosen m.kind m.band))
    where
      at : (goes : Bool) → cond (not goes) (map_message f m ∷ map_messages f (stayed chosen ms)) (map_messages f (stayed chosen ms)) ≡ map_messages f (cond (not goes) (m ∷ stayed chosen ms) (stayed chosen ms))
      at true = refl
      at false = refl

  pub gone-forgets : (chosen : Choice) (ms : List (Message C)) → cells_gone chosen (map_messages f ms) ≡ map f (cells_gone chosen ms)
  gone-forgets chosen [] = refl
  gone-forgets chosen (m ∷ ms) =
      rw (chosen-forgets chosen m, cells-forget f m, gone-forgets chosen ms) (at (chosen m.kind m.band))
    where
      at : (goes : Bool) → cond goes (map f (cells_of m)) [] ++ map f (cells_gone chosen ms) ≡ map f (cond goes (cells_of m) [] ++ cells_gone chosen ms)
      at true = sym (map-append f (cells_of m) (cells_gone chosen ms))
      at false = refl

  bytes-forget : (ms : List (Message C)) → bytes_of (map_messages f ms) ≡ bytes_of ms
  bytes-forget [] = refl
  bytes-forget (m ∷ ms) = omega (arith, size-forgets f m, bytes-forget ms, sum_by-cons size_of (map_message f m) (map_messages f ms), sum_by-cons size_of m ms)

  emptied-forgets : (chosen : Choice) (q : Queue C) → emptied chosen (map_queue f q) ≡ map_queue f (emptied chosen q)
  emptied-forgets chosen q =
      rw (stayed-forgets chosen q.messages, none-forgets f (map_message f) (stayed chosen q.messages)) refl

  none_goes-forgets : (chosen : Choice) (q : Queue C) → none_goes chosen (map_queue f q) ≡ none_goes chosen q
  none_goes-forgets chosen q =
      rw (stayed-forgets chosen q.messages, bytes-forget (stayed chosen q.messages), bytes-forget q.messages) refl

  pub queue_behind-forgets : (chosen : Choice) (q : Queue C) → queue_behind chosen (map_queue f q) ≡ map_queue f (queue_behind chosen q)
  queue_behind-forgets chosen q =
      ap (λ (none : Bool). cond none (emptied chosen (map_queue f q)) (relieved (emptied chosen (map_queue f q)))) (none_goes-forgets chosen q)
      ∙ ap (λ (rest : Queue D). cond (none_goes chosen q) rest (relieved rest)) (emptied-forgets chosen q)
      ∙ at (none_goes chosen q)
    where
      at : (none : Bool) → cond none (map_queue f (emptied chosen q)) (relieved (map_queue f (emptied chosen q))) ≡ map_queue f (cond none (emptied chosen q) (relieved (emptied chosen q)))
      at true = refl
      at false = sym (relieved-forgets f (emptied chosen q))

  pub writer_goes-forgets : (chosen : Choice) (q : Queue C) → writer_goes chosen (map_queue f q) ≡ writer_goes chosen q
  writer_goes-forgets chosen q =
      ap (λ (none : Bool). cond none false (relieves (emptied chosen (map_queue f q)))) (none_goes-forgets chosen q)
      ∙ ap (λ (rest : Queue D). cond (none_goes chosen q) false (relieves rest)) (emptied-forgets chosen q)
      ∙ ap (λ (lets : Bool). cond (none_goes chosen q) false lets) (relieves_from-forgets f 0 (stayed chosen q.messages) q.flows)

  pub stream-forgets : (side : Side) (s : State C) → stream side (map_state f s) ≡ map_stream f (stream side s)
  stream-forgets Master s = refl
  stream-forgets Slave s = refl
