-- What a flush leaves of a queue.
use Rattle.std.proofs.Common.{ℕ, ◌≡◌, ◌≤◌, ◌<◌, Bool, true, false, not, cond, List, [], ◌∷◌, length, map, refl, sym, ap, subst, ◌∙◌, arith}
use Rattle.std.specs.Prelude.{◌||◌, option_map, sum_by}
use Rattle.std.proofs.lemmas.List.Sums.{sum_by-cons}
use Rattle.strm_types.specs.declared.kinds.MsgKind.{MsgKind}
use Rattle.strm_types.specs.Flush.{is_flushed}
use Rattle.strm_types.specs.Message.{Message}
use Rattle.strm_types.specs.Queue.{is_none_left}
use Rattle.strm_types.specs.Emptied.{Choice, stayed, emptied}
use Rattle.strm_blocks.specs.declared.asked.FlushWhat.{FlushWhat}
use Rattle.strm_blocks.specs.Blocks.{Block, StoreValue, block_at, list_at, placed, rank_of, names_of, total}
use Rattle.strm_blocks.proofs.Laws.{total-placed, used-is, references-is, free_m-is, free_d-more}
use Rattle.strm_blocks.specs.Outcomes.{flushed, flushes}
use Rattle.strm_blocks.proofs.Orders.{Ordered-filter}
use Rattle.strm_msg.specs.Messages.{message_of, IsChain, AreMessages}
use Rattle.strm_msg.proofs.Chains.{kind-is, band-is}
use Rattle.strm_queue.specs.declared.queue.Queue.{Queue}
use Rattle.strm_queue.specs.Flows.{plain_flows}
use Rattle.strm_queue.specs.Kept.{AreCounted}
use Rattle.strm_queue.proofs.Counted.{all-kept}
use Rattle.strm_queue.specs.Stored.{queue_in, messages_on, Holds, IsReady, Keeps, FreesBlocks}
use Rattle.strm_queue.proofs.Holding.{Passes}
use Rattle.strm_queue.proofs.Placed.{Landed, landed, keeps-landed}

-- which messages a flush takes
abbrev chosen_by : FlushWhat → Choice
chosen_by what = is_flushed what.all (option_map (λ b. b.0) what.band)

taken-same : (what : FlushWhat) (chain : List Block) → flushes what chain ≡ chosen_by what (message_of chain).kind (message_of chain).band
taken-same what chain =
    ap (λ k. chosen_by what k (block_at 0 chain).band) (sym (kind-is chain)) ∙ ap (λ b. chosen_by what (message_of chain).kind b) (sym (band-is chain))

stays : (what : FlushWhat) (q : List (List Block)) → map message_of (flushed what q) ≡ stayed (chosen_by what) (map message_of q)
stays what [] = refl
stays what (chain ∷ q) = at (flushes what chain) (chosen_by what (message_of chain).kind (message_of chain).band) (taken-same what chain) (stays what q)
  where
    at : (b d : Bool) → b ≡ d → map message_of (flushed what q) ≡ stayed (chosen_by what) (map message_of q)
        → map message_of (cond (not b) (chain ∷ flushed what q) (flushed what q)) ≡ cond (not d) (message_of chain ∷ stayed (chosen_by what) (map message_of q)) (stayed (chosen_by what) (map message_of q))
    at true true is ih = ih
    at false false is ih = ap (λ ms. message_of chain ∷ ms) ih
    at true false is ih = absurd (cc)
    at false true is ih = absurd (cc)

messages-stay : (what : FlushWhat) (q : List (List Block)) → AreMessages q → AreMessages (flushed what q)
messages-stay what q are = record {
  chains = all-kept IsChain (λ chain. not (flushes what chain)) q are.chains;
  ordered = Ordered-filter rank_of (λ chain. not (flushes what chain)) q are.ordered;
}

holds-still : (test : MsgKind → Bool) (what : FlushWhat) (q : List (List Block)) → Holds test q → Holds test (flushed what q)
holds-still test what q holds = record { each = all-kept (Passes test) (λ chain. not (flushes what chain)) q holds.each }

-- a queue wants to be read where nothing is left
wants : (left : List (List Block)) (old new : Bool) → (left ≡ [] → new ≡ true) → ((left ≡ [] → ⊥) → new ≡ old) → new ≡ (old || is_none_left (map message_of left))
wants [] true new none some = none refl
wants [] false new none some = none refl
wants (chain ∷ left) true new none some = some (λ is. absurd (cc))
wants (chain ∷ left) false new none some = some (λ is. absurd (cc))

module _ (s new : StoreValue) (q q' : Queue) (what : FlushWhat) (within : q.list < length s.lists) (is : new ≡ placed s q.list (flushed what (list_at s q.list))) where
  there : Landed s new q.list (flushed what (list_at s q.list))
  there = subst (λ v. Landed s v q.list (flushed what (list_at s q.list))) (sym is) (landed s q.list (flushed what (list_at s q.list)) within)

  pub emptied-queue : plain_flows q'.flows ≡ plain_flows q.flows → (list_at new q.list ≡ [] → q'.want_read ≡ true) → ((list_at new q.list ≡ [] → ⊥) → q'.want_read ≡ q.want_read) → q'.list ≡ q.list → q'.no_enable ≡ q.no_enable
      → queue_in new q' ≡ emptied (chosen_by what) (queue_in s q)
  emptied-queue flows none some list no_enable =
      let left : messages_on new q.list ≡ stayed (chosen_by what) (messages_on s q.list) = ap (map message_of) there.here ∙ stays what (list_at s q.list) in
      let want = wants (list_at new q.list) q.want_read q'.want_read none some ∙ ap (λ (ms : List (Message ℕ)). q.want_read || is_none_left ms) left in
      rw (list, left, flows, want, no_enable) refl

  pub emptied-keeps : IsReady s q → q'.list ≡ q.list → AreCounted q'.flows (list_at new q'.list) → Keeps s new q q'
  emptied-keeps ready list counted =
      keeps-landed s new q q' (flushed what (list_at s q.list)) there (messages-stay what (list_at s q.list) ready.messages) (λ test passes h. holds-still test what (list_at s q.list) h) list counted

-- a sum over what stays is no greater
stays-less : (what : FlushWhat) (f : List Block → ℕ) (q : List (List Block)) → sum_by f (flushed what q) ≤ sum_by f q
stays-less what f [] = omega arith
stays-less what f (chain ∷ q) = at (flushes what chain) (stays-less what f q)
  where
    at : (b : Bool) → sum_by f (flushed what q) ≤ sum_by f q → sum_by f (cond (not b) (chain ∷ flushed what q) (flushed what q)) ≤ sum_by f (chain ∷ q)
    at true ih = omega (arith, ih, sum_by-cons f chain q)
    at false ih = omega (arith, ih, sum_by-cons f chain q, sum_by-cons f chain (flushed what q))

pub frees : (s new : StoreValue) (k : ℕ) (what : FlushWhat) → k < length s.lists → new ≡ placed s k (flushed what (list_at s k)) → FreesBlocks s new
frees s new k what within is = subst (λ v. FreesBlocks s v) (sym is) (record {
  mblks = omega (arith, free_m-is s, free_m-is less, used-is s, used-is less, fewer length);
  dblks = free_d-more s less refl (λ d. omega (arith, references-is s d, references-is less d, fewer (names_of d)));
})
  where
    less : StoreValue
    less = placed s k (flushed what (list_at s k))

    fewer : (f : List Block → ℕ) → total f (placed s k (flushed what (list_at s k))) ≤ total f s
    fewer f = omega (arith, total-placed f s k (flushed what (list_at s k)) within, stays-less what f (list_at s k))
