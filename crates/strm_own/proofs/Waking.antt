-- Beside what was done, queues are enabled whose first message goes anew.
use Rattle.strm_own.proofs.Prelude.{ℕ, ◌≡◌, cond, List, [], ◌∷◌, ◌++◌, sym, ap, subst, ◌∙◌, Some}
use Rattle.strm_own.specs.Prelude.{StoreValue, QueuePair, Own, Fates, Acted, Up, Down, sent_of, times_sent, parcels_in, AreChains, Hands}
use Rattle.strm_types.specs.declared.spots.Asks.{Asks}
use Rattle.strm_types.specs.declared.spots.Note.{Note}
use Rattle.strm_types.specs.declared.spots.Note.TheVariants.{Enable}
use Rattle.strm_types.specs.OwnStands.{OwnActs, goes_anew, own_asked, own_asks, woken}
use Rattle.strm_types.specs.Standings.{Standing, stood, way_queue}
use Rattle.strm_frame.specs.declared.modules.Acts.{Acts}
use Rattle.strm_frame.specs.Standings.{pair_in}
use Rattle.strm_own.specs.Stands.{PutsThere}

-- the notes, by what the first messages asked before
abbrev pub notes_anew : OwnActs ℕ → Asks → Asks → Standing Own ℕ → List Note
notes_anew own read write y =
    cond {A = List Note} (goes_anew read (own_asks own Up y)) (Enable Up ∷ []) [] ++ cond {A = List Note} (goes_anew write (own_asks own Down y)) (Enable Down ∷ []) []

module _ (own : OwnActs ℕ) (x y : Standing Own ℕ) (read write : Asks) (up : read ≡ own_asks own Up x) (down : write ≡ own_asks own Down x) where
  pub notes-woken : notes_anew own read write y ≡ notes_anew own (own_asks own Up x) (own_asks own Down x) y
  notes-woken = ap (λ a. notes_anew own a write y) up ∙ ap (λ a. notes_anew own (own_asks own Up x) a y) down

-- What was done is done with these notes too.
module _ (own : OwnActs ℕ) (s t : StoreValue) (x y : Own) (pair pair' : QueuePair) (i most : ℕ) (acts acts' : Acts) (f f' : Fates) (is : Acted ℕ (Standing Own ℕ)) where
  pub puts-woken : PutsThere s t x (Some pair) y (Some pair') i most acts f f' is → acts'.sent ≡ acts.sent → (read write : Asks)
      → read ≡ own_asked own Up x (way_queue Up (pair_in s pair)).messages → write ≡ own_asked own Down x (way_queue Down (pair_in s pair)).messages
      → acts'.notes.items ≡ acts.notes.items ++ notes_anew own read write (stood y (Some (pair_in t pair')))
      → PutsThere s t x (Some pair) y (Some pair') i most acts' f f' (woken own (stood x (Some (pair_in s pair))) is)
  puts-woken did same read write up down noted =
      let was = stood x (Some (pair_in s pair)) in
      let now = stood y (Some (pair_in t pair')) in
      record {
        state = did.state;
        notes = noted ∙ ap (λ ns. ns ++ notes_anew own read write now) did.notes
            ∙ ap (λ ns. is.notes ++ ns) (notes-woken own was now read write up down)
            ∙ ap (λ z. is.notes ++ notes_anew own (own_asks own Up was) (own_asks own Down was) z) did.state;
        sent = ap (λ o. parcels_in t (sent_of o)) same ∙ did.sent;
        told = did.told;
        held = did.held;
        own = did.own;
        chains = subst (λ o. AreChains t (sent_of o)) (sym same) did.chains;
        hands = subst (λ o. Hands s t i (λ _. 0) (λ _. 0) (λ j. times_sent j (sent_of o))) (sym same) did.hands;
        spends = did.spends;
        blocks = did.blocks;
        pool = did.pool;
      }
