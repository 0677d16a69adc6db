-- A message in hand that is put on a queue.
use Rattle.std.proofs.Common.{ℕ, ◌≡◌, ◌<◌, Bool, true, List, length, refl, sym, ap, subst, ◌∙◌, arith}
use Rattle.strm_types.specs.declared.kinds.MsgKind.{MsgKind}
use Rattle.strm_types.specs.Queue as plain
use Rattle.strm_types.proofs.Ranked.{sum-put}
use Rattle.strm_blocks.specs.Blocks.{Block, block_at, StoreValue, IsInHand, list_at, in_hand, placed, dropped, put, rank_of, names_of, total}
use Rattle.strm_blocks.proofs.Laws.{total-placed, total-dropped, used-is, references-is, free_m-is, free_d-more}
use Rattle.strm_msg.specs.Messages.{message_of, IsChain, AreMessages}
use Rattle.strm_queue.specs.declared.queue.Queue.{Queue}
use Rattle.strm_queue.specs.Flows.{plain_flows}
use Rattle.strm_queue.specs.Kept.{AreCounted}
use Rattle.strm_queue.specs.Queues.{OnlyCounts}
use Rattle.strm_queue.specs.Stored.{queue_in, Holds, IsReady, Changes, FreesBlocks, FreesNone}
use Rattle.strm_queue.proofs.Holding.{put-messages, put-holds}
use Rattle.strm_queue.proofs.Placed.{Landed, landed}
use Rattle.strm_queue.proofs.Queued.{put-queue}

module _ (s new : StoreValue) (q q' : Queue) (i : ℕ) (within : q.list < length s.lists) (is_in : IsInHand s i)
    (is : new ≡ placed (dropped s i) q.list (put (in_hand s i) (list_at s q.list))) where
  there : Landed (dropped s i) new q.list (put (in_hand s i) (list_at s q.list))
  there = subst (λ v. Landed (dropped s i) v q.list (put (in_hand s i) (list_at s q.list))) (sym is) (landed (dropped s i) q.list (put (in_hand s i) (list_at s q.list)) within)

  pub joined-queue : OnlyCounts q q' → plain_flows q'.flows ≡ plain_flows q.flows → queue_in new q' ≡ plain.put_on (message_of (in_hand s i)) (queue_in s q)
  joined-queue others flows = put-queue (dropped s i) new q q' (in_hand s i) there others flows

  pub joined-changes : IsReady s q → IsChain (in_hand s i) → OnlyCounts q q' → AreCounted q'.flows (list_at new q'.list) → Changes (dropped s i) new q q'
  joined-changes ready chain others counted = record {
    ready = record {
      messages = subst AreMessages (sym (ap (list_at new) others.list ∙ there.here)) (put-messages (in_hand s i) (list_at s q.list) chain ready.messages);
      counted = counted;
    };
    list = others.list;
    others = there.others;
    hand = there.hand;
    mblks = there.mblks;
    dblks = there.dblks;
  }

  pub joined-holds : q'.list ≡ q.list → (test : MsgKind → Bool) → test (block_at 0 (in_hand s i)).kind ≡ true → Holds test (list_at s q.list) → Holds test (list_at new q'.list)
  joined-holds list test passes h = subst (Holds test) (sym (ap (list_at new) list ∙ there.here)) (put-holds test (in_hand s i) (list_at s q.list) passes h)

  same : (f : List Block → ℕ) → total f (placed (dropped s i) q.list (put (in_hand s i) (list_at s q.list))) ≡ total f s
  same f =
      omega (
        arith,
        total-placed f (dropped s i) q.list (put (in_hand s i) (list_at s q.list)) within,
        total-dropped f s i is_in,
        sum-put rank_of f (in_hand s i) (list_at s q.list),
      )

  abbrev after : StoreValue
  after = placed (dropped s i) q.list (put (in_hand s i) (list_at s q.list))

  pub joined-frees : FreesBlocks s new
  joined-frees = subst (λ v. FreesBlocks s v) (sym is) (record {
    mblks = omega (arith, free_m-is s, free_m-is after, used-is s, used-is after, same length);
    dblks = free_d-more s after refl (λ d. omega (arith, references-is s d, references-is after d, same (names_of d)));
  })

  pub joined-none : FreesNone s new
  joined-none = subst (λ v. FreesNone s v) (sym is) (
    omega (arith, free_m-is s, free_m-is after, used-is s, used-is after, same length),
    free_d-more after s refl (λ d. omega (arith, references-is s d, references-is after d, same (names_of d))),
  )
