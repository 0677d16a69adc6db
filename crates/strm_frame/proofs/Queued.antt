-- A message that is put on a queue of a pair, and one that is taken off it.
use Rattle.strm_frame.proofs.Prelude.{ℕ, ◌≡◌, ◌+◌, Bool, [], ◌∷◌, refl, sym, ap, subst, ◌∙◌, arith, None, Option, Some}
use Rattle.std.specs.Prelude.{MatchOption}
use Rattle.strm_frame.specs.Prelude.{Way, Up, Down, StoreValue, IsStore, IsInHand, dropped, in_hand, list_at, times_in, Queue, Changes, Dequeued, FreesBlocks}
use Rattle.strm_frame.specs.Prelude.{FreesNone, queue_in, token}
use Rattle.strm_blocks.specs.declared.in_hand.InHand.{InHand}
use Rattle.strm_types.specs.Queue.{put_enables, put_on}
use Rattle.strm_msg.proofs.Hands.{stays-chain}
use Rattle.strm_queue.specs.Stored.{NoneTaken}
use Rattle.strm_frame.specs.declared.queue_pair.QueuePair.{QueuePair}
use Rattle.strm_frame.specs.Hands.{Handles, Hands, Shifts, once}
use Rattle.strm_frame.specs.Outboxes.{message_in}
use Rattle.strm_frame.specs.Queued.{PutsOn, TakesFirst, TakesNone}
use Rattle.strm_frame.specs.StandingLaws.{pair-ready}
use Rattle.strm_frame.specs.Standings.{IsPairReady, pair_in}
use Rattle.strm_frame.proofs.Handing.{can-of, times-held}
use Rattle.strm_frame.proofs.Pairs.{read-lists, read-own, read-pair, read-ready, write-lists, write-own, write-pair, write-ready}
use Rattle.strm_frame.proofs.Shifting.{shifts-joined}

-- it left the hand
module _ (s t : StoreValue) (pair : QueuePair) (i : ℕ) (st : IsStore s) (is : IsInHand s i) (ready : IsPairReady s pair) (q : Queue) (enables : Bool)
    (frees : FreesBlocks s t) (none : FreesNone s t) where
  still : IsPairReady (dropped s i) pair
  still = pair-ready s (dropped s i) pair (λ k own. refl) ready

  hands-of : Shifts s t (once i) (λ _. 0) 0 → Hands s t i (λ _. 0) (λ _. 0) (λ _. 0)
  hands-of h = record { counts = λ j. let c = h.counts j in omega arith; others = λ j gone kept some. h.others j gone some }

  pub puts-up : Changes (dropped s i) t pair.read q → queue_in t q ≡ put_on (message_in s i) (queue_in s pair.read)
      → enables ≡ put_enables (message_in s i) (queue_in s pair.read) → PutsOn s t pair (record pair { read = q }) Up i enables
  puts-up changes put on =
      let h = shifts-joined s t i pair.read q st (can-of s i is) changes frees in
      let own = read-own (dropped s i) t pair still q changes in
      record {
        state = read-pair (dropped s i) t pair still q changes ∙ ap (λ r. record (pair_in s pair) { read = r }) put;
        enables_it = on;
        ready = read-ready (dropped s i) t pair still q changes;
        lists = read-lists (dropped s i) t pair still q changes;
        own = record { lists = own.lists; owns_same = own.owns_same };
        hands = hands-of h;
        frees = frees;
        blocks = none;
        pool = h.pool;
      }

  pub puts-down : Changes (dropped s i) t pair.write q → queue_in t q ≡ put_on (message_in s i) (queue_in s pair.write)
      → enables ≡ put_enables (message_in s i) (queue_in s pair.write) → PutsOn s t pair (record pair { write = q }) Down i enables
  puts-down changes put on =
      let h = shifts-joined s t i pair.write q st (can-of s i is) changes frees in
      let own = write-own (dropped s i) t pair still q changes in
      record {
        state = write-pair (dropped s i) t pair still q changes ∙ ap (λ w. record (pair_in s pair) { write = w }) put;
        enables_it = on;
        ready = write-ready (dropped s i) t pair still q changes;
        lists = write-lists (dropped s i) t pair still q changes;
        own = record { lists = own.lists; owns_same = own.owns_same };
        hands = hands-of h;
        frees = frees;
        blocks = none;
        pool = h.pool;
      }

-- it came in hand
module _ (s t : StoreValue) (q q' : Queue) (i : ℕ) (taken : Dequeued s t q q' i) where
  -- the store before, with this hand
  abbrev with_it : StoreValue
  with_it = record s { hand = t.hand }

  changes-beside : Changes with_it t q q'
  changes-beside = record {
    ready = taken.ready;
    list = taken.list;
    others = taken.others;
    hand = refl;
    mblks = taken.mblks;
    dblks = taken.dblks;
  }

  came : Handles s t (λ _. 0) (λ _. 0) (λ _. 0) (once i)
  came = record {
    counts = λ j.
        let e = ap (times_in j) taken.hand in
        let h = times-held s i (in_hand t i) j in
        omega arith;
    others = λ j gone kept some.
        ap (λ hs. in_hand (record s { hand = hs }) j) taken.hand
        ∙ stays-chain s i (in_hand t i) j (λ e. (let f = taken.fresh in let w = ap (λ k. times_in k s.hand) e in absurd (omega arith)));
  }

module _ (s t : StoreValue) (pair : QueuePair) (ready : IsPairReady s pair) (q : Queue) (i : ℕ) where
  held-ready : IsPairReady (record s { hand = t.hand }) pair
  held-ready = pair-ready s (record s { hand = t.hand }) pair (λ k own. refl) ready

  pub takes-up : Dequeued s t pair.read q i → TakesFirst s t pair (record pair { read = q }) Up i
  takes-up taken =
      let u : StoreValue = record s { hand = t.hand } in
      let changes = changes-beside s t pair.read q i taken in
      let own = read-own u t pair held-ready q changes in
      record {
        first = taken.first;
        state = read-pair u t pair held-ready q changes ∙ ap (λ r. record (pair_in s pair) { read = r }) taken.queue;
        chain = taken.chain;
        ready = read-ready u t pair held-ready q changes;
        lists = read-lists u t pair held-ready q changes;
        own = record { lists = own.lists; owns_same = own.owns_same };
        hands = came s t pair.read q i taken;
        frees = taken.frees;
        pool = record { mblks = taken.mblks; dblks = taken.dblks };
      }

  pub takes-down : Dequeued s t pair.write q i → TakesFirst s t pair (record pair { write = q }) Down i
  takes-down taken =
      let u : StoreValue = record s { hand = t.hand } in
      let changes = changes-beside s t pair.write q i taken in
      let own = write-own u t pair held-ready q changes in
      record {
        first = taken.first;
        state = write-pair u t pair held-ready q changes ∙ ap (λ w. record (pair_in s pair) { write = w }) taken.queue;
        chain = taken.chain;
        ready = write-ready u t pair held-ready q changes;
        lists = write-lists u t pair held-ready q changes;
        own = record { lists = own.lists; owns_same = own.owns_same };
        hands = came s t pair.write q i taken;
        frees = taken.frees;
        pool = record { mblks = taken.mblks; dblks = taken.dblks };
      }

-- none stood there
module _ (s t : StoreValue) (pair : QueuePair) (ready : IsPairReady s pair) (q : Queue) where
  stays-other : t ≡ s → IsPairReady t pair
  stays-other same = pair-ready s t pair (λ k own. ap (λ v. list_at v k) same) ready

  pub none-up : NoneTaken s t pair.read q → TakesNone s t pair (record pair { read = q }) Up
  none-up taken = record {
    none = taken.none;
    same = taken.same;
    state = ap (λ v. pair_in v (record pair { read = q })) taken.same
        ∙ ap (λ r. record (pair_in s pair) { read = r }) (sym (ap (λ v. queue_in v q) taken.same) ∙ taken.queue);
    ready = record { read = taken.ready; write = (stays-other taken.same).write; apart = omega (arith, taken.list, ready.apart) };
    lists = ap (λ k. k ∷ pair.write.list ∷ []) taken.list;
    own = record { lists = λ k none. ap (λ v. list_at v k) taken.same; owns_same = λ k. ap (λ n. once n k + once pair.write.list k) taken.list };
  }

  pub none-down : NoneTaken s t pair.write q → TakesNone s t pair (record pair { write = q }) Down
  none-down taken = record {
    none = taken.none;
    same = taken.same;
    state = ap (λ v. pair_in v (record pair { write = q })) taken.same
        ∙ ap (λ w. record (pair_in s pair) { write = w }) (sym (ap (λ v. queue_in v q) taken.same) ∙ taken.queue);
    ready = record { read = (stays-other taken.same).read; write = taken.ready; apart = omega (arith, taken.list, ready.apart) };
    lists = ap (λ k. pair.read.list ∷ k ∷ []) taken.list;
    own = record { lists = λ k none. ap (λ v. list_at v k) taken.same; owns_same = λ k. ap (λ n. once pair.read.list k + once n k) taken.list };
  }

-- by what was taken
module _ (s t : StoreValue) (pair : QueuePair) (ready : IsPairReady s pair) (q : Queue) (way : Way) where
  pub taken-up : (o : Option InHand) → way ≡ Up → MatchOption o (NoneTaken s t pair.read q) (λ m. Dequeued s t pair.read q (token m))
      → MatchOption o (TakesNone s t pair (record pair { read = q }) way) (λ m. TakesFirst s t pair (record pair { read = q }) way (token m))
  taken-up None up taken = subst (λ w. TakesNone s t pair (record pair { read = q }) w) (sym up) (none-up s t pair ready q taken)
  taken-up (Some m) up taken =
      subst (λ w. TakesFirst s t pair (record pair { read = q }) w (token m)) (sym up) (takes-up s t pair ready q (token m) taken)

  pub taken-down : (o : Option InHand) → way ≡ Down → MatchOption o (NoneTaken s t pair.write q) (λ m. Dequeued s t pair.write q (token m))
      → MatchOption o (TakesNone s t pair (record pair { write = q }) way) (λ m. TakesFirst s t pair (record pair { write = q }) way (token m))
  taken-down None down taken = subst (λ w. TakesNone s t pair (record pair { write = q }) w) (sym down) (none-down s t pair ready q taken)
  taken-down (Some m) down taken =
      subst (λ w. TakesFirst s t pair (record pair { write = q }) w (token m)) (sym down) (takes-down s t pair ready q (token m) taken)
