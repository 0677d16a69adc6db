-- A message waits on the queue of its way, and one goes on at once: what that is where the module stands.
use Rattle.strm_own.proofs.Prelude.{ℕ, ◌≡◌, ◌≤◌, Bool, true, false, cond, List, [], ◌∷◌, length, refl, sym, ap, subst, ◌∙◌, arith, false≢true, IfSome, Option, Some}
use Rattle.strm_own.specs.Prelude.{StoreValue, QueuePair, Own, Fates, Acted, Way, sent_of, message_in, list_at}
use Rattle.strm_types.specs.declared.spots.Note.{Note}
use Rattle.strm_types.specs.declared.spots.Note.TheVariants.{Enable}
use Rattle.strm_types.specs.OwnStands.{own_queued}
use Rattle.strm_types.specs.Service.{acts_alone}
use Rattle.strm_types.specs.Standings.{stood}
use Rattle.strm_frame.specs.declared.modules.Acts.{Acts}
use Rattle.strm_frame.specs.Queued.{PutsOn}
use Rattle.strm_frame.specs.StandingLaws.{queues-ready, queues-same}
use Rattle.strm_frame.specs.Standings.{Fits, IsPairReady, pair_in, queues_in, standing}
use Rattle.strm_frame.proofs.Handing.{no-parts, none-chains, none-hands}
use Rattle.strm_frame.proofs.WidePools.{frees-spends}
use Rattle.strm_own.specs.OwnPuts.{OwnPuts}
use Rattle.strm_own.specs.Stands.{HasQueues, IsHeld, PutsThere}

pub note-few : (noted : Bool) (note : Note) → length (cond {A = List Note} noted (note ∷ []) []) ≤ 2
note-few true note = omega arith
note-few false note = omega arith

pub waits : (s t : StoreValue) (pair pair' : QueuePair) (way : Way) (i : ℕ) (enables : Bool) (acts : Acts) (o : Own) (f : Fates) (most : ℕ)
    → HasQueues o (Some pair) → PutsOn s t pair pair' way i enables → sent_of acts.sent ≡ [] → acts.notes.items ≡ cond {A = List Note} enables (Enable way ∷ []) []
    → PutsThere s t o (Some pair) o (Some pair') i most acts f f (own_queued way (message_in s i) o (pair_in s pair))
waits s t pair pair' way i enables acts o f most has put none noted = record {
  state = ap (λ p. stood o (Some p)) put.state;
  notes = noted ∙ ap (λ v. cond {A = List Note} v (Enable way ∷ []) []) put.enables_it;
  sent = no-parts t (sent_of acts.sent) none;
  told = refl;
  held = record { queues = put.ready; itself = has };
  own = put.own;
  chains = none-chains t (sent_of acts.sent) none;
  hands = none-hands s t _ (λ _. 0) (λ _. 0) (sent_of acts.sent) none put.hands;
  spends = frees-spends s t put.pool put.frees most;
  blocks = λ holds. absurd (false≢true holds);
  pool = put.pool;
}

-- what it did by itself it did where it stands, whatever queues it has
module _ (s t : StoreValue) (x y : Own) (queues : Option QueuePair) (i most : ℕ) (acts : Acts) (f f' : Fates) (is : Own → Acted ℕ Own) where
  lists-same : t.lists ≡ s.lists → (k : ℕ) → list_at t k ≡ list_at s k
  lists-same same k = ap (λ l. list_at (record s { lists = l }) k) same

  pub puts-alone : OwnPuts s t y i most acts.sent f f' (is x) → acts.notes.items ≡ [] → (is x).notes ≡ [] → (is x).state.number ≡ x.number
      → HasQueues x queues → IfSome queues (IsPairReady s)
      → PutsThere s t x queues y queues i most acts f f' (acts_alone is (stood x (queues_in s queues)))
  puts-alone did noted none number has ready = record {
    state = ap (λ o. stood o (queues_in t queues)) did.state ∙ ap (stood (is x).state) (queues-same s t queues (λ k own. lists-same did.lists k));
    notes = noted ∙ sym none;
    sent = did.sent;
    told = did.told;
    held = record {
      queues = queues-ready s t queues (λ k own. lists-same did.lists k) ready;
      itself = subst (λ (n : ℕ). HasQueues (record y { number = n }) queues) (sym number ∙ sym (ap (λ (o : Own). o.number) did.state)) has;
    };
    own = record { lists = λ k none. lists-same did.lists k; owns_same = λ k. refl };
    chains = did.chains;
    hands = did.hands;
    spends = did.spends;
    blocks = λ holds. absurd (false≢true holds);
    pool = did.pool;
  }

-- the queues that it has, and what holds of them
pub held-pair : (s : StoreValue) (x : Own) (queues : Option QueuePair) (pair : QueuePair) → queues ≡ Some pair → Fits IsHeld s (standing x queues)
    → IsPairReady s pair × HasQueues x (Some pair)
held-pair s x queues pair is held =
    let there = subst (λ q. Fits IsHeld s (standing x q)) is held in
    (there.queues, there.itself)
