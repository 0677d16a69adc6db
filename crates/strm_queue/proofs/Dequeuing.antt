-- The first message of a queue, taken off it.
use Rattle.std.proofs.Common.{ℕ, ◌≡◌, ◌<◌, false, List, ◌∷◌, length, map, refl, sym, ap, subst, ◌∙◌, arith}
use Rattle.std.specs.Prelude.{sum_by, Option, None, Some, MatchOption}
use Rattle.strm_blocks.specs.Blocks.{Block, StoreValue, list_at, in_hand, names_of, total, token}
use Rattle.strm_blocks.specs.Outcomes.{Popped, Unpopped}
use Rattle.strm_blocks.proofs.Laws.{total-placed, total-held, used-is, references-is, free_m-is, free_d-more}
use Rattle.std.proofs.lemmas.List.Sums.{sum_by-cons}
use Rattle.strm_blocks.specs.declared.in_hand.InHand.{InHand}
use Rattle.strm_msg.specs.Messages.{message_of, IsChain, AreMessages}
use Rattle.strm_queue.specs.declared.queue.Queue.{Queue}
use Rattle.strm_queue.specs.Flows.{plain_flows}
use Rattle.strm_queue.specs.Kept.{AreCounted}
use Rattle.strm_queue.specs.Queues.{OnlyCounts}
use Rattle.strm_queue.specs.Stored.{Holds, IsReady, FreesBlocks, NoneTaken, Dequeued}
use Rattle.strm_queue.proofs.Holding.{first-chain, rest-messages, rest-holds}
use Rattle.strm_queue.proofs.Gotten.{left, off, chain-is, before}

-- where nothing stood there
pub none-taken : (s t : StoreValue) (q q' : Queue) → IsReady s q → Unpopped s t q.list → AreCounted q'.flows (list_at t q'.list) → plain_flows q'.flows ≡ plain_flows q.flows → OnlyCounts q q' → NoneTaken s t q q'
none-taken s t q q' ready u counted flows others =
    let list_is : list_at s q.list ≡ list_at t q'.list = sym (ap (list_at t) others.list ∙ ap (λ v. list_at v q.list) u.same) in
    record {
      none = ap (map message_of) u.none;
      same = u.same;
      queue = rw (flows, others.want_read, others.no_enable, sym list_is) refl;
      ready = record { messages = subst AreMessages list_is ready.messages; counted = counted };
      list = others.list;
    }

module _ (s t : StoreValue) (q q' : Queue) (i : ℕ) (within : q.list < length s.lists) (p : Popped s t q.list i) where
  -- no block went, and none came
  same : (f : List Block → ℕ) → total f t ≡ total f s
  same f =
      omega (
        arith,
        ap (total f) p.after,
        total-held f (left s t q.list i within p) i p.message,
        total-placed f s q.list p.rest within,
        sum_by-cons f p.message p.rest,
        ap (λ l. sum_by f l) p.joined,
      )

  frees : FreesBlocks s t
  frees = record {
    mblks = omega (arith, free_m-is s, free_m-is t, used-is s, used-is t, same length, ap (λ (v : StoreValue). v.mblks) p.after);
    dblks = free_d-more s t (ap (λ (v : StoreValue). v.dblks) p.after) (λ d. omega (arith, references-is s d, references-is t d, same (names_of d)));
  }

  pub dequeued : IsReady s q → AreCounted q'.flows (list_at t q'.list) → plain_flows q'.flows ≡ plain_flows q.flows → q'.want_read ≡ false → q'.list ≡ q.list → q'.no_enable ≡ q.no_enable → Dequeued s t q q' i
  dequeued ready counted flows want_read list no_enable =
      let o = off s t q.list i within p in
      let all = subst AreMessages p.joined ready.messages in
      let chain_is = chain-is s t q.list i within p in
      let rest_is : p.rest ≡ list_at t q'.list = sym (ap (list_at t) list ∙ ap (λ v. list_at v q.list) p.after ∙ o.here) in
      record {
        fresh = p.fresh_name;
        first = before s t q.list i within p ∙ ap (λ c. message_of c ∷ map message_of p.rest) (sym chain_is) ∙ ap (λ l. message_of (in_hand t i) ∷ map message_of l) rest_is;
        queue = rw (flows, want_read, no_enable) refl;
        ready = record { messages = subst AreMessages rest_is (rest-messages p.message p.rest all); counted = counted };
        holds = λ test h. subst (Holds test) rest_is (rest-holds test p.message p.rest (subst (Holds test) p.joined h));
        chain = subst IsChain (sym chain_is) (first-chain p.message p.rest all);
        list = list;
        others = λ k apart. ap (λ v. list_at v k) p.after ∙ o.others k apart;
        hand = ap (λ (v : StoreValue). v.hand) p.after ∙ ap (λ c. record { name = i; chain = c } ∷ s.hand) (sym chain_is);
        mblks = ap (λ (v : StoreValue). v.mblks) p.after;
        dblks = ap (λ (v : StoreValue). v.dblks) p.after;
        frees = frees;
      }

-- whether something was taken or not
pub taken-first : (s t : StoreValue) (q q' : Queue) (result : Option InHand) → q.list < length s.lists → IsReady s q → MatchOption result (Unpopped s t q.list) (λ m. Popped s t q.list (token m))
    → AreCounted q'.flows (list_at t q'.list) → plain_flows q'.flows ≡ plain_flows q.flows → MatchOption result (q'.want_read ≡ q.want_read) (λ m. q'.want_read ≡ false) → q'.list ≡ q.list → q'.no_enable ≡ q.no_enable
    → MatchOption result (NoneTaken s t q q') (λ m. Dequeued s t q q' (token m))
taken-first s t q q' None within ready taken counted flows want_read list no_enable = none-taken s t q q' ready taken counted flows (record { list = list; want_read = want_read; no_enable = no_enable })
taken-first s t q q' (Some m) within ready taken counted flows want_read list no_enable = dequeued s t q q' (token m) within taken ready counted flows want_read list no_enable
