-- An M_FLUSH is obeyed, at the read queue and then at the write queue, and goes on.
use Rattle.strm_own.proofs.Prelude.{ℕ, ◌≡◌, ◌≤◌, Bool, true, false, cond, List, [], ◌∷◌, ◌++◌, refl, sym, ap, subst, ◌∙◌, arith, length, false≢true, Option, Some}
use Rattle.strm_own.specs.Prelude.{StoreValue, QueuePair, Own, Fates, Acted, Message, Spot, Way, Up, Down, sent_of, message_in, message_of, onward, tallied}
use Rattle.strm_own.specs.Prelude.{in_hand, times_in, times_sent}
use Rattle.strm_types.specs.declared.flushing.FlushAsked.{FlushAsked}
use Rattle.strm_types.specs.declared.kinds.Band.{Band}
use Rattle.strm_types.specs.declared.kinds.MsgKind.{MsgKind}
use Rattle.strm_types.specs.declared.kinds.MsgKind.TheVariants as kinds
use Rattle.strm_types.specs.declared.spots.Note.{Note}
use Rattle.strm_types.specs.declared.spots.Note.TheVariants.{Room}
use Rattle.strm_types.specs.Flush.{is_data_kind}
use Rattle.strm_types.specs.Flushing.{is_flush}
use Rattle.strm_types.specs.OwnStands.{way_flushed}
use Rattle.strm_types.specs.Standings as plain
use Rattle.strm_laws.specs.Behaviours.{passes_all}
use Rattle.strm_frame.specs.declared.modules.Acts.{Acts}
use Rattle.strm_frame.specs.Hands.{Hands, SamePool}
use Rattle.strm_frame.specs.Standings.{IsPairReady, pair_in, queues_own}
use Rattle.strm_frame.proofs.Letting.{frees-on, hand-on, own-on}
use Rattle.strm_frame.proofs.Turns.{tallied-append}
use Rattle.strm_frame.proofs.WidePools.{frees-spends}
use Rattle.strm_msg.specs.Messages.{IsChain}
use Rattle.strm_pty.specs.Beside.{MayPass}
use Rattle.strm_own.specs.Flushed.{Flushes}
use Rattle.strm_own.specs.OwnPuts.{OwnPuts}
use Rattle.strm_own.specs.Stands.{HasQueues, PutsThere}

-- a message without parts
pub flush-plain : (kind : MsgKind) → is_flush kind ≡ true → is_data_kind kind ≡ false
unfolding is_data_kind
flush-plain kinds.Flush is = refl
flush-plain _ is = absurd (cc)

-- an M_FLUSH that asks for this
abbrev pub flushed_by : FlushAsked → Spot → Message ℕ → Own → plain.QueuePair ℕ → Acted ℕ (plain.Standing Own ℕ)
flushed_by flush here m o pair =
    let above = way_flushed here flush.band flush.for_read Up pair in
    let below = way_flushed here flush.band flush.for_write Down above.state in
    record {
      state = plain.stood o (Some below.state);
      notes = above.notes ++ below.notes;
      sent = onward here.way here m ∷ [];
      gone = above.gone ++ below.gone;
    }

-- few queues have room again
pub rooms-few : (up down : Bool) → length (cond {A = List Note} up (Room Up ∷ []) [] ++ cond {A = List Note} down (Room Down ∷ []) []) ≤ 2
rooms-few true true = omega arith
rooms-few true false = omega arith
rooms-few false true = omega arith
rooms-few false false = omega arith

-- nothing was asked of the queue of a way
pub flush-none : (s : StoreValue) (pair : QueuePair) (way : Way) (here : Spot) (band : Option Band) (f : Fates) → IsPairReady s pair
    → Flushes s s pair pair way false f f (way_flushed here band false way (pair_in s pair))
flush-none s pair way here band f ready = record {
  state = refl;
  notes = refl;
  told = refl;
  ready = ready;
  lists = refl;
  own = record { lists = λ k none. refl; owns_same = λ k. refl };
  hand = record { hand = refl; mblks = refl; dblks = refl };
  frees = record { mblks = omega arith; dblks = omega arith };
}

module _ (s t u : StoreValue) (x y z : QueuePair) (here : Spot) (band : Option Band) (read write up down : Bool) (f f1 f2 : Fates)
    (first : Flushes s t x y Up up f f1 (way_flushed here band read Up (pair_in s x)))
    (second : Flushes t u y z Down down f1 f2 (way_flushed here band write Down (pair_in t y))) where
  abbrev above : Acted ℕ (plain.QueuePair ℕ)
  above = way_flushed here band read Up (pair_in s x)

  abbrev below : plain.QueuePair ℕ → Acted ℕ (plain.QueuePair ℕ)
  below pair = way_flushed here band write Down pair

  same-hand : u.hand ≡ s.hand
  same-hand = second.hand.hand ∙ first.hand.hand

  same-chain : (i : ℕ) → in_hand u i ≡ in_hand s i
  same-chain i = ap (λ h. in_hand (record s { hand = h }) i) same-hand

  pub passes-may : (i : ℕ) → MayPass s i here → MayPass u i here
  passes-may i may = record {
    held = ap (times_in i) same-hand ∙ may.held;
    chain = subst IsChain (sym (same-chain i)) may.chain;
    inside = may.inside;
    small = may.small;
  }

  passes-hands : (i : ℕ) (sent : ℕ → ℕ) → Hands u u i (λ _. 0) (λ _. 0) sent → Hands s u i (λ _. 0) (λ _. 0) sent
  passes-hands i sent h = record {
    counts = λ j. let c = h.counts j in let e = ap (times_in j) same-hand in omega arith;
    others = λ j gone kept some. same-chain j;
  }

  pub flush-passes : (i most : ℕ) (o : Own) (acts : Acts) → HasQueues o (Some x)
      → OwnPuts u u o i most acts.sent f2 f2 (passes_all here (message_in u i) o)
      → acts.notes.items ≡ cond {A = List Note} up (Room Up ∷ []) [] ++ cond {A = List Note} down (Room Down ∷ []) []
      → PutsThere s u o (Some x) o (Some z) i most acts f f2 (record {
        state = plain.stood o (Some (below above.state).state);
        notes = above.notes ++ (below above.state).notes;
        sent = onward here.way here (message_in s i) ∷ [];
        gone = above.gone ++ (below above.state).gone;
      })
  flush-passes i most o acts has passed noted =
      let frees = frees-on s t u first.frees second.frees in
      let hand = hand-on s t u first.hand second.hand in
      let pool : SamePool s u = record { mblks = hand.mblks; dblks = hand.dblks } in
      record {
        state = ap (λ p. plain.stood o (Some p)) (second.state ∙ ap (λ p. (below p).state) first.state);
        notes = noted ∙ ap (λ ns. ns ++ cond {A = List Note} down (Room Down ∷ []) []) first.notes
            ∙ ap (λ ns. above.notes ++ ns) (second.notes ∙ ap (λ p. (below p).notes) first.state);
        sent = passed.sent ∙ ap (λ chain. onward here.way here (message_of chain) ∷ []) (same-chain i);
        told = second.told ∙ ap (tallied (below (pair_in t y)).gone) first.told ∙ ap (λ p. tallied (below p).gone (tallied above.gone f)) first.state
            ∙ sym (tallied-append above.gone (below above.state).gone f);
        held = record { queues = second.ready; itself = has };
        own = own-on s t u (queues_own (Some x)) (queues_own (Some y)) (queues_own (Some z)) first.own second.own;
        chains = passed.chains;
        hands = passes-hands i (λ j. times_sent j (sent_of acts.sent)) passed.hands;
        spends = frees-spends s u pool frees most;
        blocks = λ holds. absurd (false≢true holds);
        pool = pool;
      }
