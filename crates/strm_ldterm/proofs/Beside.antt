-- The module beside a store in which its lists, or what it keeps in hand, change.
use Rattle.strm_ldterm.proofs.Prelude.{ℕ, ◌≡◌, ◌≢◌, ◌<◌, ◌+◌, eqb, Bool, true, false, cond, List, [], ◌∷◌, length, refl, sym, ap, subst, arith}
use Rattle.strm_ldterm.proofs.Prelude.{is_some, sum_by-cons, once-self, once-apart}
use Rattle.strm_ldterm.specs.Prelude.{Held, StoreValue, IsStore, IsInHand, in_hand, list_at, dropped, times_in, chain_in, Queue, message_of, queue_in}
use Rattle.strm_ldterm.specs.Prelude.{messages_on, Changes, FreesBlocks, once, CanPut, OnlyOwn, SameOwn, queue-ready}
use Rattle.std.specs.Prelude.{map}
use Rattle.strm_blocks.proofs.Laws.{in_hand-dropped}
use Rattle.strm_ldterm.specs.Stands.{ldterm_in, owns, keeps, EndsPlain, IsHeld, IsData, IsGathered, Paired}
use Rattle.strm_ldterm.specs.Does.{Alters}
use Rattle.strm_ldterm.specs.Frames.{kept-same, form-same, each-same, data-same, gathered-same}

-- a chain with a block is in hand
times-some : (i : ℕ) (hand : List Held) → 0 < length (chain_in i hand) → 0 < times_in i hand
times-some i [] some = absurd (omega arith)
times-some i (h ∷ hand) some = at (eqb h.name i) some (times-some i hand) (sum_by-cons (λ (x : Held). cond {A = ℕ} (eqb x.name i) 1 0) h hand)
  where
    at : (v : Bool) → 0 < length (cond v h.chain (chain_in i hand)) → (0 < length (chain_in i hand) → 0 < times_in i hand) → times_in i (h ∷ hand) ≡ cond {A = ℕ} v 1 0 + times_in i hand → 0 < times_in i (h ∷ hand)
    at true some ih c = omega arith
    at false some ih c = let more = ih some in omega arith

pub chain-in-hand : (s : StoreValue) (i : ℕ) → IsStore s → 0 < length (in_hand s i) → IsInHand s i
chain-in-hand s i st some = let few = st.apart i in let t = times-some i s.hand some in omega arith

-- the turn's echo may end
pub held-quieter : (s : StoreValue) (x : Paired) (v : Bool) → (v ≡ true → x.echoing ≡ true) → IsHeld s x → IsHeld s (record x { echoing = v })
held-quieter s x v less held = record {
  read = held.read;
  write = held.write;
  apart = held.apart;
  work = held.work;
  gathers = held.gathers;
  echoes = λ on busy. held.echoes (less on) busy;
  once_each = held.once_each;
}

-- and then it may alter
pub alters-quieter : (s t : StoreValue) (x z : Paired) (v : Bool) → Alters s t (record x { echoing = v }) z → Alters s t x z
alters-quieter s t x z v a = record {
  held = a.held;
  own = record { lists = a.own.lists; owns_same = a.own.owns_same };
  fewer = a.fewer;
  hands = record { counts = a.hands.counts; others = a.hands.others };
  frees = a.frees;
  pool = a.pool;
}

-- its read queue changed
module _ (s t : StoreValue) (x : Paired) (q' : Queue) (held : IsHeld s x) (changes : Changes s t x.read_queue q') where
  chains-up : (i : ℕ) → in_hand t i ≡ in_hand s i
  chains-up i = ap (λ h. chain_in i h) changes.hand

  pub writes-stay : list_at t x.write_queue.list ≡ list_at s x.write_queue.list
  writes-stay = changes.others x.write_queue.list (λ e. let a = held.apart in absurd (omega arith))

  pub read-plain : ldterm_in t (record x { read_queue = q' }) ≡ record (ldterm_in s x) { read_queue = queue_in t q' }
  read-plain =
      form-same (record x { read_queue = q' }) (list_at t q'.list) (list_at t q'.list) _ _ _ _ _ _ refl writes-stay
      (kept-same s t x.in_work (λ i some. chains-up i)) (kept-same s t x.gathered (λ i some. chains-up i))

  pub read-held : IsHeld t (record x { read_queue = q' })
  read-held = record {
    read = changes.ready;
    write = queue-ready s t x.write_queue writes-stay held.write;
    apart = (let a = held.apart in let e = changes.list in omega arith);
    work = each-same s t IsData (data-same s t) x.in_work (λ i some. chains-up i) held.work;
    gathers = each-same s t IsGathered (gathered-same s t) x.gathered (λ i some. chains-up i) held.gathers;
    echoes = λ on busy. subst (λ l. EndsPlain (map message_of l)) (sym writes-stay) (held.echoes on busy);
    once_each = held.once_each;
  }

  pub read-own : OnlyOwn s t (owns x) (owns (record x { read_queue = q' }))
  read-own = record {
    lists = λ k none. changes.others k (λ e. once-apart x.read_queue.list k (omega arith) (sym e));
    owns_same = λ k. ap (λ l. once l k + once x.write_queue.list k) changes.list;
  }

  pub read-alters : FreesBlocks s t → Alters s t x (record x { read_queue = q' })
  read-alters frees = record {
    held = read-held;
    own = read-own;
    fewer = λ i. omega arith;
    hands = record { counts = λ i. let e = ap (times_in i) changes.hand in omega arith; others = λ i gone kept some. chains-up i };
    frees = frees;
    pool = record { mblks = changes.mblks; dblks = changes.dblks };
  }

-- its write queue changed
module _ (s t : StoreValue) (x : Paired) (q' : Queue) (held : IsHeld s x) (changes : Changes s t x.write_queue q') where
  chains-down : (i : ℕ) → in_hand t i ≡ in_hand s i
  chains-down i = ap (λ h. chain_in i h) changes.hand

  reads-stay : list_at t x.read_queue.list ≡ list_at s x.read_queue.list
  reads-stay = changes.others x.read_queue.list (λ e. let a = held.apart in absurd (omega arith))

  pub write-plain : ldterm_in t (record x { write_queue = q' }) ≡ record (ldterm_in s x) { write_queue = queue_in t q' }
  write-plain =
      form-same (record x { write_queue = q' }) _ _ (list_at t q'.list) (list_at t q'.list) _ _ _ _ reads-stay refl
      (kept-same s t x.in_work (λ i some. chains-down i)) (kept-same s t x.gathered (λ i some. chains-down i))

  -- where the turn's echo stands last still
  pub write-held : (x.echoing ≡ true → is_some x.in_work ≡ true → EndsPlain (messages_on t q'.list)) → IsHeld t (record x { write_queue = q' })
  write-held ends = record {
    read = queue-ready s t x.read_queue reads-stay held.read;
    write = changes.ready;
    apart = (let a = held.apart in let e = changes.list in omega arith);
    work = each-same s t IsData (data-same s t) x.in_work (λ i some. chains-down i) held.work;
    gathers = each-same s t IsGathered (gathered-same s t) x.gathered (λ i some. chains-down i) held.gathers;
    echoes = ends;
    once_each = held.once_each;
  }

  pub write-own : OnlyOwn s t (owns x) (owns (record x { write_queue = q' }))
  write-own = record {
    lists = λ k none. changes.others k (λ e. once-apart x.write_queue.list k (omega arith) (sym e));
    owns_same = λ k. ap (λ l. once x.read_queue.list k + once l k) changes.list;
  }

  pub write-alters : FreesBlocks s t → (x.echoing ≡ true → is_some x.in_work ≡ true → EndsPlain (messages_on t q'.list)) → Alters s t x (record x { write_queue = q' })
  write-alters frees ends = record {
    held = write-held ends;
    own = write-own;
    fewer = λ i. omega arith;
    hands = record { counts = λ i. let e = ap (times_in i) changes.hand in omega arith; others = λ i gone kept some. chains-down i };
    frees = frees;
    pool = record { mblks = changes.mblks; dblks = changes.dblks };
  }

-- a message that it doesn't keep leaves the hand
module _ (s : StoreValue) (x : Paired) (i : ℕ) (st : IsStore s) (can : CanPut s i (keeps x)) where
  pub apart-kept : (j : ℕ) → 0 < keeps x j → i ≢ j
  apart-kept j some e = let a = can.apart j in let few = st.apart j in let one = once-self i in let o = ap (λ k. once i k) e in absurd (omega arith)

  pub without-same : SameOwn s (dropped s i) (owns x) (keeps x)
  without-same = record { lists = λ k some. refl; mblks = refl; dblks = refl; kept = λ j some. in_hand-dropped s i j (apart-kept j some) }
