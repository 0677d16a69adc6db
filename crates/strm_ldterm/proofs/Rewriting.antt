-- A message of data that stands last on a queue is taken off it, grows and is put back, or a new one is put there.
use Rattle.strm_ldterm.proofs.Prelude.{ℕ, ◌≡◌, ◌≢◌, ◌<◌, ◌+◌, eqb, cond, List, [], ◌∷◌, ◌++◌, refl, sym, ap, subst, ◌∙◌, arith, sum_by-cons}
use Rattle.strm_ldterm.proofs.Prelude.{in_hand-held_other, kind-is, band-is, shifts-joined}
use Rattle.strm_ldterm.specs.Prelude.{plain, Message, cells_of, data_message, rank_of, grown, Held, StoreValue, IsStore, chain_in, dropped, in_hand}
use Rattle.strm_ldterm.specs.Prelude.{list_at, times_in, message_of, Queue, queue_in, messages_on, Changes, FreesBlocks, IsReady, once, CanPut}
use Rattle.strm_ldterm.specs.Prelude.{HasRoom, Shifts, message_in, queue-ready}
use Rattle.strm_types.specs.declared.kinds.MsgKind.TheVariants as kinds
use Rattle.strm_types.specs.Queue as queues
use Rattle.strm_queue.specs.Taken.{TakenLast}
use Rattle.strm_ldterm.specs.Frames.{}
use Rattle.strm_ldterm.specs.Grown.{Begins, BeginsLast, Grown, GrowsLast, Rewrites}
use Rattle.strm_ldterm.specs.Stands.{EndsPlain, IsOrdinary}
use Rattle.strm_ldterm.proofs.EchoStands.{grown-last}
use Rattle.strm_ldterm.proofs.Grows.{begins-lists, begins-others, begins-pool, begins-times, grown-is, grown-lists, grown-others, grown-pool, grown-times}
use Rattle.strm_ldterm.proofs.Last.{data-first, data-rank, zero-last}

-- the last of a list
abbrev last_or : {A : Type 0} → A → List A → A
last_or a [] = a
last_or a (x ∷ xs) = last_or x xs

last-is : {A : Type 0} (a : A) (xs : List A) (x : A) → last_or a (xs ++ x ∷ []) ≡ x
last-is a [] x = refl
last-is a (y ∷ xs) x = last-is y xs x

last-same : {A : Type 0} (xs ys : List A) (x y : A) → xs ++ x ∷ [] ≡ ys ++ y ∷ [] → x ≡ y
last-same xs ys x y same = sym (last-is x xs x) ∙ ap (last_or x) same ∙ last-is x ys y

-- a list with a last one isn't empty
pub some-last : (ms : List (Message ℕ)) → EndsPlain ms → ms ≡ [] → ⊥
some-last ms ends none = at ends.before (sym none ∙ ends.is)
  where
    at : (before : List (Message ℕ)) → [] ≡ before ++ data_message ends.cells ∷ [] → ⊥
    at [] is = absurd (cc)
    at (m ∷ before) is = absurd (cc)

data-kind : (bytes : List ℕ) → (data_message bytes).kind ≡ kinds.Data
unfolding data_message
data-kind bytes = refl

-- what is taken is an ordinary message of data
module _ (s v : StoreValue) (q q1 : Queue) (i : ℕ) (taken : TakenLast s v q q1 i) where
  pub taken-ordinary : EndsPlain (messages_on s q.list) → IsOrdinary v i
  taken-ordinary ends =
      let chain = in_hand v i in
      let is : message_of chain ≡ data_message ends.cells = last-same (messages_on v q1.list) ends.before (message_of chain) (data_message ends.cells) (sym taken.last ∙ ends.is) in
      record {
        are = record { chain = taken.chain; kind = sym (kind-is chain) ∙ ap (λ (m : Message ℕ). m.kind) is ∙ data-kind ends.cells };
        band = sym (band-is chain) ∙ ap (λ (m : Message ℕ). m.band) is ∙ data-first ends.cells;
      }

  pub taken-room : (n : ℕ) → HasRoom s n → HasRoom v n
  taken-room n room = record { mblks = (let a = taken.frees.mblks in let r = room.mblks in omega arith); dblks = (let a = taken.frees.dblks in let r = room.dblks in omega arith) }

-- A message that came in hand is put on a queue, and what was in hand is as it was.
rewritten : (s u t : StoreValue) (q q1 q' : Queue) (e n : ℕ) → IsStore u → Shifts s u (λ _. 0) (once e) n → ((k : ℕ) → k ≢ q.list → list_at u k ≡ list_at s k) → q1.list ≡ q.list
    → Changes (dropped u e) t q1 q' → FreesBlocks u t → Rewrites s t q q' n
rewritten s u t q q1 q' e n st come lists same changes frees =
    let can : CanPut u e (λ _. 0) = record { apart = λ i. let c = come.counts i in omega arith } in
    let h = shifts-joined u t e q1 q' st can changes frees in
    record {
      ready = changes.ready;
      list = changes.list ∙ same;
      others = λ k apart. changes.others k (λ is. apart (is ∙ same)) ∙ lists k apart;
      shifts = record {
        counts = λ i. let c = come.counts i in let d = h.counts i in omega arith;
        others = λ i none some. let c = come.counts i in let few = st.apart i in h.others i (omega arith) (omega arith) ∙ come.others i none some;
        mblks = (let a = come.mblks in let b = h.mblks in omega arith);
        dblks = (let a = come.dblks in let b = h.dblks in omega arith);
        pool = record { mblks = h.pool.mblks ∙ come.pool.mblks; dblks = h.pool.dblks ∙ come.pool.dblks };
      };
    }

-- it has come in hand, and grew there
module _ (s v u : StoreValue) (q q1 : Queue) (i n : ℕ) (bytes : List ℕ) (taken : TakenLast s v q q1 i) (is : Grown v u i bytes n) where
  taken-times : (j : ℕ) → times_in j v.hand ≡ once i j + times_in j s.hand
  unfolding once
  taken-times j = ap (times_in j) taken.hand ∙ sum_by-cons (λ (h : Held). cond {A = ℕ} (eqb h.name j) 1 0) (record { name = i; chain = in_hand v i }) s.hand

  taken-apart : (j : ℕ) → 0 < times_in j s.hand → i ≢ j
  taken-apart j some e = let f = taken.fresh in let w = ap (λ k. times_in k s.hand) e in absurd (omega arith)

  pub grown-shifts : Shifts s u (λ _. 0) (once i) n
  grown-shifts =
      let pool = grown-pool v u i n bytes is in
      record {
        counts = λ j. let c = grown-times v u i n bytes is j in let d = taken-times j in omega arith;
        others = λ j none some.
            grown-others v u i n bytes is j (taken-apart j some)
            ∙ (ap (λ h. chain_in j h) taken.hand ∙ in_hand-held_other s i j (in_hand v i) (taken-apart j some));
        mblks = (let a = taken.frees.mblks in let b = is.mblks in omega arith);
        dblks = (let a = taken.frees.dblks in let b = is.dblks in omega arith);
        pool = record { mblks = pool.mblks ∙ taken.mblks; dblks = pool.dblks ∙ taken.dblks };
      }

  grown-list : (k : ℕ) → list_at u k ≡ list_at v k
  grown-list k = ap (λ ls. list_at (record u { lists = ls }) k) (grown-lists v u i n bytes is)

  pub grown-ready : IsReady u q1
  grown-ready = queue-ready v u q1 (grown-list q1.list) taken.ready

  -- and is put back
  module _ (t : StoreValue) (q' : Queue) (j : ℕ) (st : IsStore u) (same : j ≡ i) (ends : EndsPlain (messages_on s q.list)) (changes : Changes (dropped u j) t q1 q') (frees : FreesBlocks u t)
      (put : queue_in t q' ≡ queues.put_on (message_of (in_hand u j)) (queue_in u q1)) where
    abbrev rests : List (Message ℕ)
    rests = messages_on v q1.list

    abbrev whole : Message ℕ
    whole = data_message (cells_of (message_in v i) ++ bytes)

    is-whole : message_in u i ≡ whole
    is-whole = grown-is v u i n bytes (taken-ordinary s v q q1 i taken ends) is

    stands : queues.put (message_in u i) rests ≡ rests ++ whole ∷ []
    stands = zero-last rank_of (message_in u i) rests (ap rank_of is-whole ∙ data-rank (cells_of (message_in v i) ++ bytes)) ∙ ap (λ (m : Message ℕ). rests ++ m ∷ []) is-whole

    there : queue_in t q' ≡ record (queue_in s q) { messages = rests ++ whole ∷ [] }
    there =
        put
        ∙ ap (λ k. queues.put_on (message_of (in_hand u k)) (queue_in u q1)) same
        ∙ ap (λ ls. queues.put_on (message_in u i) (queue_in (record u { lists = ls }) q1)) (grown-lists v u i n bytes is)
        ∙ ap (λ (w : queues.Queue ℕ). queues.put_on (message_in u i) w) taken.queue
        ∙ ap (λ (ms : List (Message ℕ)). record (queue_in s q) { messages = ms }) stands

    back : Changes (dropped u i) t q1 q'
    back = subst (λ k. Changes (dropped u k) t q1 q') same changes

    pub grows-last : GrowsLast s t q q' bytes n
    grows-last = record {
      queue = λ here. there ∙ ap (λ (ms : List (Message ℕ)). record (queue_in s q) { messages = ms }) (sym (ap (grown plain here bytes) taken.last ∙ grown-last here bytes rests (message_in v i)));
      ends = record { before = rests; cells = cells_of (message_in v i) ++ bytes; is = ap (λ (w : queues.Queue ℕ). w.messages) there };
      rewrites = rewritten s u t q q1 q' i n st grown-shifts (λ k apart. grown-list k ∙ taken.others k apart) taken.list back frees;
    }

-- a new one
module _ (s u t : StoreValue) (q q' : Queue) (i n : ℕ) (bytes : List ℕ) (is : Begins s u i bytes n) where
  begins-shifts : Shifts s u (λ _. 0) (once i) n
  begins-shifts = record {
    counts = λ j. let c = begins-times s u i n bytes is j in omega arith;
    others = λ j none some. begins-others s u i n bytes is j (λ e. let f = is.fresh in let w = ap (λ k. times_in k s.hand) e in absurd (omega arith));
    mblks = is.mblks;
    dblks = is.dblks;
    pool = begins-pool s u i n bytes is;
  }

  begins-list : (k : ℕ) → list_at u k ≡ list_at s k
  begins-list k = ap (λ ls. list_at (record u { lists = ls }) k) (begins-lists s u i n bytes is)

  pub begins-ready : IsReady s q → IsReady u q
  begins-ready ready = queue-ready s u q (begins-list q.list) ready

  same-queue : queue_in u q ≡ queue_in s q
  same-queue = ap (λ ls. queue_in (record u { lists = ls }) q) (begins-lists s u i n bytes is)

  pub begins-enables : queues.put_enables (message_of (in_hand u i)) (queue_in u q) ≡ queues.put_enables (data_message bytes) (queue_in s q)
  begins-enables = ap (λ (m : Message ℕ). queues.put_enables m (queue_in u q)) is.shows ∙ ap (λ (w : queues.Queue ℕ). queues.put_enables (data_message bytes) w) same-queue

  pub begins-last : IsStore u → Changes (dropped u i) t q q' → FreesBlocks u t → queue_in t q' ≡ queues.put_on (message_of (in_hand u i)) (queue_in u q) → BeginsLast s t q q' bytes n
  begins-last st changes frees put =
      let there = put ∙ ap (λ (m : Message ℕ). queues.put_on m (queue_in u q)) is.shows ∙ ap (λ (w : queues.Queue ℕ). queues.put_on (data_message bytes) w) same-queue in
      record {
        queue = there;
        ends = record {
          before = messages_on s q.list;
          cells = bytes;
          is = ap (λ (w : queues.Queue ℕ). w.messages) there ∙ zero-last rank_of (data_message bytes) (messages_on s q.list) (data-rank bytes);
        };
        rewrites = rewritten s u t q q q' i n st begins-shifts (λ k apart. begins-list k) refl changes frees;
      }
