-- A message that was made, and put on a queue behind all that stand there.
use Rattle.strm_pair.proofs.Prelude.{ℕ, ◌≡◌, ◌≤◌, ◌<◌, ◌+◌, List, [], ◌∷◌, ◌++◌, length, sym, ap, subst, ◌∙◌, arith, sum_by}
use Rattle.strm_pair.specs.Prelude.{LISTS, Message, rank_of, Block, StoreValue, IsInHand, IsStore, list_at, in_hand, held, dropped, times_in, free_m, free_d}
use Rattle.strm_pair.specs.Prelude.{AreMessages, plain_flows, AreCounted, OnlyCounts, messages_on, queue_in, IsReady, Changes}
use Rattle.std.specs.List.{AllByRecursion}
use Rattle.strm_types.specs.Queue as plain
use Rattle.strm_types.proofs.Ranked.{put-last, sum-put}
use Rattle.strm_blocks.specs.Blocks as blocks
use Rattle.strm_blocks.specs.Blocks.{placed, put}
use Rattle.strm_msg.proofs.Hands.{held-is}
use Rattle.strm_queue.specs.declared.queue.Queue.{Queue}
use Rattle.strm_queue.proofs.Holding.{put-messages}
use Rattle.strm_queue.proofs.Placed.{Landed, put-is, put-on, same-free_m, same-free_d}
use Rattle.strm_queue.proofs.Queued.{put-queue}
use Rattle.strm_pair.specs.Runs.{Makes, Spent, with_messages}

-- the list and the hand once it is made
module _ {s made : StoreValue} {i n : ℕ} {m : Message ℕ} (k : Makes s made i n m) where
  pub list-kept : (j : ℕ) → list_at made j ≡ list_at s j
  list-kept j = ap (λ v. list_at v j) k.after

  pub makes-in_hand : IsInHand made i
  makes-in_hand = ap (λ v. times_in i v.hand) k.after ∙ held-is s i k.chain k.fresh

  pub lists-kept : IsStore made → length s.lists ≡ LISTS
  lists-kept is = sym (ap (λ (v : StoreValue). length v.lists) k.after) ∙ is.eight

module _ {s made new : StoreValue} (q : Queue) {i n : ℕ} {m : Message ℕ} (k : Makes s made i n m) (store : IsStore made)
    (is : new ≡ placed (dropped made i) q.list (put (in_hand made i) (list_at made q.list))) where
  within : q.list < length s.lists
  within = omega (arith, q.on_list, lists-kept k store)

  again : new ≡ placed (dropped (held s i k.chain) i) q.list (put (in_hand (held s i k.chain) i) (list_at (held s i k.chain) q.list))
  again = is ∙ ap (λ v. placed (dropped v i) q.list (put (in_hand v i) (list_at v q.list))) k.after

  abbrev list : List (List Block)
  list = put k.chain (list_at s q.list)

  there : Landed s new q.list list
  there = put-on s q.list i k.chain within new again

  at : new ≡ placed s q.list list
  at = put-is s q.list i k.chain within new again

  sums : (f : List Block → ℕ) → sum_by f list ≡ f k.chain + sum_by f (list_at s q.list)
  sums f = sum-put blocks.rank_of f k.chain (list_at s q.list)

  pub stood-spent : Spent s new n
  stood-spent = record {
    mblks = omega (arith, ap free_m at, same-free_m s q.list i k.chain list within sums, ap free_m k.after, k.spent.mblks);
    dblks = omega (arith, ap free_d at, same-free_d s q.list i k.chain list within sums, ap free_d k.after, k.spent.dblks);
  }

  pub stood-queue : (q' : Queue) → AllByRecursion (λ x. rank_of m ≤ rank_of x) (messages_on s q.list) → OnlyCounts q q' → plain_flows q'.flows ≡ plain_flows q.flows → queue_in new q' ≡ with_messages (messages_on s q.list ++ m ∷ []) (queue_in s q)
  stood-queue q' last others flows =
      put-queue s new q q' k.chain there others flows
      ∙ ap (λ ms. with_messages ms (queue_in s q)) (ap (λ x. plain.put x (messages_on s q.list)) k.is ∙ put-last rank_of m (messages_on s q.list) last)

  pub stood-changes : (q' : Queue) → IsReady s q → OnlyCounts q q' → AreCounted q'.flows (list_at new q'.list) → Changes s new q q'
  stood-changes q' ready others counted = record {
    ready = record {
      messages = subst AreMessages (sym (ap (list_at new) others.list ∙ there.here)) (put-messages k.chain (list_at s q.list) k.one ready.messages);
      counted = counted;
    };
    list = others.list;
    others = there.others;
    hand = there.hand;
    mblks = there.mblks;
    dblks = there.dblks;
  }
