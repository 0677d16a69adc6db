-- A message in hand that is put back on a queue, and one that the module kept.
use Rattle.strm_ldterm.proofs.Prelude.{ℕ, ◌≡◌, ◌<◌, List, length, map, refl, sym, ap, subst, ◌∙◌, arith, false≢true, None, Some, sum-put_back}
use Rattle.strm_ldterm.proofs.Prelude.{total-placed, total-dropped, used-is, references-is, free_m-is, free_d-more, shifts-joined}
use Rattle.strm_ldterm.specs.Prelude.{back_on, Block, StoreValue, IsStore, IsInHand, list_at, in_hand, placed, dropped, put_back, names_of, total}
use Rattle.strm_ldterm.specs.Prelude.{token, InHand, message_of, IsChain, Queue, plain_flows, queue_in, messages_on, IsReady, Changes, FreesBlocks}
use Rattle.strm_ldterm.specs.Prelude.{AreIn, CanPut, OnlyOwn, message_in}
use Rattle.strm_types.specs.Queue as plain
use Rattle.strm_types.specs.Ldterms as ldterms
use Rattle.strm_blocks.specs.Blocks.{rank_of}
use Rattle.strm_msg.specs.Messages.{AreMessages}
use Rattle.strm_msg.proofs.Chains.{put_back-chains}
use Rattle.strm_queue.specs.Kept.{AreCounted}
use Rattle.strm_queue.specs.Queues.{OnlyCounts}
use Rattle.strm_queue.proofs.Holding.{put_back-messages}
use Rattle.strm_queue.proofs.Placed.{Landed, landed}
use Rattle.strm_queue.proofs.Queued.{queue-by}
use Rattle.strm_ldterm.specs.Stands.{ldterm_in, owns, keeps, IsHeld, Paired}
use Rattle.strm_ldterm.specs.Does.{Alters}
use Rattle.strm_ldterm.specs.Frames.{ldterm-frame}
use Rattle.strm_ldterm.proofs.Finished.{work-splits, work-shown, work-can, work-held}
use Rattle.strm_ldterm.proofs.Beside.{read-plain, read-held, read-own, write-plain, write-held, write-own, without-same}

-- what a message leaves that is put back
module _ (s new : StoreValue) (q q' : Queue) (i : ℕ) (within : q.list < length s.lists) (is_in : IsInHand s i)
    (is : new ≡ placed (dropped s i) q.list (put_back (in_hand s i) (list_at s q.list))) where
  there : Landed (dropped s i) new q.list (put_back (in_hand s i) (list_at s q.list))
  there = subst (λ v. Landed (dropped s i) v q.list (put_back (in_hand s i) (list_at s q.list))) (sym is) (landed (dropped s i) q.list (put_back (in_hand s i) (list_at s q.list)) within)

  pub back-queue : OnlyCounts q q' → plain_flows q'.flows ≡ plain_flows q.flows → queue_in new q' ≡ record (queue_in s q) { messages = plain.put_back (message_of (in_hand s i)) (messages_on s q.list) }
  back-queue others flows =
      queue-by s new q q' (plain.put_back (message_of (in_hand s i)) (messages_on s q.list)) others.list (ap (map message_of) there.here ∙ put_back-chains (in_hand s i) (list_at s q.list)) flows others.want_read others.no_enable

  pub back-changes : IsReady s q → IsChain (in_hand s i) → OnlyCounts q q' → AreCounted q'.flows (list_at new q'.list) → Changes (dropped s i) new q q'
  back-changes ready chain others counted = record {
    ready = record {
      messages = subst AreMessages (sym (ap (list_at new) others.list ∙ there.here)) (put_back-messages (in_hand s i) (list_at s q.list) chain ready.messages);
      counted = counted;
    };
    list = others.list;
    others = there.others;
    hand = there.hand;
    mblks = there.mblks;
    dblks = there.dblks;
  }

  same : (f : List Block → ℕ) → total f (placed (dropped s i) q.list (put_back (in_hand s i) (list_at s q.list))) ≡ total f s
  same f =
      omega (
        arith,
        total-placed f (dropped s i) q.list (put_back (in_hand s i) (list_at s q.list)) within,
        total-dropped f s i is_in,
        sum-put_back rank_of f (in_hand s i) (list_at s q.list),
      )

  pub back-frees : FreesBlocks s new
  back-frees = subst (λ v. FreesBlocks s v) (sym is) (record {
    mblks = omega (arith, free_m-is s, free_m-is after, used-is s, used-is after, same length);
    dblks = free_d-more s after refl (λ d. omega (arith, references-is s d, references-is after d, same (names_of d)));
  })
    where
      after : StoreValue
      after = placed (dropped s i) q.list (put_back (in_hand s i) (list_at s q.list))

-- a message of which nothing is left is freed
pub freed-changes : (s : StoreValue) (q : Queue) (i : ℕ) → IsReady s q → Changes (dropped s i) (dropped s i) q q
freed-changes s q i ready = record {
  ready = record { messages = ready.messages; counted = ready.counted };
  list = refl;
  others = λ k other. refl;
  hand = refl;
  mblks = refl;
  dblks = refl;
}

pub freed-frees : (s : StoreValue) (i : ℕ) → IsInHand s i → FreesBlocks s (dropped s i)
freed-frees s i is_in = record {
  mblks = omega (arith, free_m-is s, free_m-is (dropped s i), used-is s, used-is (dropped s i), total-dropped length s i is_in);
  dblks = free_d-more s (dropped s i) refl (λ d. omega (arith, references-is s d, references-is (dropped s i) d, total-dropped (names_of d) s i is_in));
}

-- The message in work leaves the hand, and what is left of it goes back.
module _ (s : StoreValue) (x : Paired) (m : InHand) (there : x.in_work ≡ Some m) (st : IsStore s) (held : IsHeld s x) (kept : AreIn s (λ _. 0) (keeps x)) where
  abbrev idle : Paired
  idle = record x { in_work = None }

  abbrev rest : StoreValue
  rest = dropped s (token m)

  can : CanPut s (token m) (keeps idle)
  can = work-can s x m there kept

  framed : (ldterm_in rest idle ≡ ldterm_in s idle) × IsHeld rest idle
  framed = ldterm-frame s rest idle (without-same s idle (token m) st can) (work-held s x m there held)

  returned-alters : (t : StoreValue) (q q' : Queue) (y : Paired) → Changes rest t q q' → FreesBlocks s t → ((j : ℕ) → keeps y j ≡ keeps idle j) → IsHeld t y → OnlyOwn rest t (owns idle) (owns y)
      → Alters s t x y
  returned-alters t q q' y changes frees same is own =
      let h = shifts-joined s t (token m) q q' st (record { apart = λ j. let a = can.apart j in omega arith }) changes frees in
      record {
        held = is;
        own = record { lists = own.lists; owns_same = own.owns_same };
        fewer = λ j. let e = work-splits s x m there j in let k = same j in omega arith;
        hands = record {
          counts = λ j. let c = h.counts j in let e = work-splits s x m there j in let k = same j in omega arith;
          others = λ j gone kept some. let e = work-splits s x m there j in let k = same j in h.others j (omega arith) some;
        };
        frees = frees;
        pool = h.pool;
      }

  -- to the read queue
  module _ (t : StoreValue) (q' : Queue) (changes : Changes rest t x.read_queue q') where
    pub read-returned : queue_in t q' ≡ back_on (Some (message_in s (token m))) (queue_in s x.read_queue)
        → ldterm_in t (record idle { read_queue = q' }) ≡ (let p = ldterm_in s x in record p { in_work = None; read_queue = back_on p.in_work p.read_queue })
    read-returned is =
        let p = ldterm_in s x in
        read-plain rest t idle q' framed.1 changes
        ∙ ap (λ (r : ldterms.Discipline ℕ). record r { read_queue = queue_in t q' }) framed.0
        ∙ ap (λ (r : plain.Queue ℕ). record p { in_work = None; read_queue = r }) is
        ∙ ap (λ o. record p { in_work = None; read_queue = back_on o p.read_queue }) (sym (work-shown s x m there))

    pub read-returned-alters : FreesBlocks s t → Alters s t x (record idle { read_queue = q' })
    read-returned-alters frees =
        returned-alters t x.read_queue q' (record idle { read_queue = q' }) changes frees (λ j. refl) (read-held rest t idle q' framed.1 changes) (read-own rest t idle q' framed.1 changes)

  -- to the write queue
  module _ (t : StoreValue) (q' : Queue) (changes : Changes rest t x.write_queue q') where
    pub write-returned : queue_in t q' ≡ back_on (Some (message_in s (token m))) (queue_in s x.write_queue)
        → ldterm_in t (record idle { write_queue = q' }) ≡ (let p = ldterm_in s x in record p { in_work = None; write_queue = back_on p.in_work p.write_queue })
    write-returned is =
        let p = ldterm_in s x in
        write-plain rest t idle q' framed.1 changes
        ∙ ap (λ (r : ldterms.Discipline ℕ). record r { write_queue = queue_in t q' }) framed.0
        ∙ ap (λ (r : plain.Queue ℕ). record p { in_work = None; write_queue = r }) is
        ∙ ap (λ o. record p { in_work = None; write_queue = back_on o p.write_queue }) (sym (work-shown s x m there))

    pub write-returned-alters : FreesBlocks s t → Alters s t x (record idle { write_queue = q' })
    write-returned-alters frees =
        returned-alters t x.write_queue q' (record idle { write_queue = q' }) changes frees (λ j. refl) (write-held rest t idle q' framed.1 changes (λ on busy. absurd (false≢true busy))) (write-own rest t idle q' framed.1 changes)
