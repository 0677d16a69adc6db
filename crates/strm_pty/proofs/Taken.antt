-- A message that a driver keeps for the other side.
use Rattle.strm_pty.proofs.Prelude.{ℕ, ◌≡◌, Bool, false, cond, List, [], ◌∷◌, refl, sym, ap, ◌∙◌, arith, no-parts, none-chains, shifts-as}
use Rattle.strm_pty.specs.Prelude.{Side, Fates, Across, Note, Down, Acted, taken_in, Message, cells_of, StoreValue, IsStore, IsInHand, dropped, Queue}
use Rattle.strm_pty.specs.Prelude.{queue_in, Acts, once, message_in, sent_of, times_sent}
use Rattle.strm_types.specs.declared.rules.Rule.TheVariants.{EndClosed}
use Rattle.strm_types.specs.declared.spots.Note.TheVariants.{Enable}
use Rattle.strm_types.specs.Deliver.{Goes}
use Rattle.strm_types.specs.Names.{direction_from}
use Rattle.strm_types.specs.Queue as plain
use Rattle.strm_queue.specs.Stored.{Changes, FreesBlocks}
use Rattle.strm_frame.proofs.Shifting.{shifts-joined}
use Rattle.strm_pty.specs.Does.{Does}
use Rattle.strm_pty.proofs.Doing.{can-of, times-none}

-- what is taken in, where the master is closed and where it isn't
abbrev lost : Side → Message ℕ → plain.Queue ℕ → Acted ℕ (plain.Queue ℕ)
lost side m q = record { state = q; notes = []; sent = []; gone = Goes (direction_from side) EndClosed (cells_of m) ∷ [] }

abbrev kept : Message ℕ → plain.Queue ℕ → Acted ℕ (plain.Queue ℕ)
kept m q = record { state = plain.put_on m q; notes = cond (plain.put_enables m q) (Enable Down ∷ []) []; sent = []; gone = [] }

pub open-is : (side : Side) (across : Across) (m : Message ℕ) (q : plain.Queue ℕ) → across.ended ≡ false → taken_in side across m q ≡ kept m q
open-is side across m q is = ap (λ v. cond v (lost side m q) (kept m q)) is

module _ (s t : StoreValue) (i : ℕ) (acts : Acts) (f : Fates) (side : Side) (across : Across) where
  pub keep-does : (q q' : Queue) (enables : Bool) → IsStore s → IsInHand s i → queue_in t q' ≡ plain.put_on (message_in s i) (queue_in s q) → enables ≡ plain.put_enables (message_in s i) (queue_in s q)
      → Changes (dropped s i) t q q' → FreesBlocks s t → acts.notes.items ≡ cond enables (Enable Down ∷ []) [] → sent_of acts.sent ≡ [] → across.ended ≡ false
      → Does s t q q' i 0 acts f f (taken_in side across (message_in s i) (queue_in s q))
  keep-does q q' enables st is behind went changes frees noted none still =
      rw (open-is side across (message_in s i) (queue_in s q) still) (record {
        state = behind;
        notes = noted ∙ ap (λ v. cond {A = List Note} v (Enable Down ∷ []) []) went;
        sent = no-parts t (sent_of acts.sent) none;
        told = refl;
        chains = none-chains t (sent_of acts.sent) none;
        only = record { ready = changes.ready; list = changes.list; others = changes.others };
        hands = shifts-as s t (once i) (λ _. 0) (once i) (λ j. times_sent j (sent_of acts.sent)) 0 0 (shifts-joined s t i q q' st (can-of s i is) changes frees) (λ j. refl) (λ j. sym (times-none j (sent_of acts.sent) none)) (omega arith);
      })
