-- What a queue's first message was, and what is there once it is freed, or put back with less.
use Rattle.std.proofs.Common.{ℕ, ◌≡◌, ◌<◌, ◌∷◌, length, map, sym, ap, subst, ◌∙◌, arith}
use Rattle.strm_blocks.specs.Blocks.{StoreValue, IsStore, list_at, in_hand, dropped, placed}
use Rattle.strm_blocks.specs.Outcomes.{Popped}
use Rattle.strm_blocks.proofs.Laws.{dropped-held, in_hand-held}
use Rattle.strm_msg.specs.Messages.{message_of, AreMessages}
use Rattle.strm_queue.specs.declared.queue.Queue.{Queue}
use Rattle.strm_queue.specs.Kept.{AreCounted}
use Rattle.strm_queue.specs.Stored.{messages_on, Holds, IsReady, Keeps}
use Rattle.strm_queue.proofs.Holding.{rest-messages, rest-holds}
use Rattle.strm_queue.proofs.Placed.{Landed, landed, keeps-landed}

-- a store has the list of each queue
pub has-list : (s : StoreValue) (q : Queue) → IsStore s → q.list < length s.lists
has-list s q is = omega (arith, is.eight, q.on_list)

module _ (s got : StoreValue) (k i : ℕ) (within : k < length s.lists) (p : Popped s got k i) where
  -- the store as it is without the message
  abbrev pub left : StoreValue
  left = placed s k p.rest

  pub off : Landed s left k p.rest
  off = landed s k p.rest within

  -- the chain in hand
  pub chain-is : in_hand got i ≡ p.message
  chain-is = ap (λ v. in_hand v i) p.after ∙ in_hand-held left i p.message

  -- the messages before, and those that are left
  pub before : messages_on s k ≡ message_of p.message ∷ map message_of p.rest
  before = ap (map message_of) p.joined

  pub behind : messages_on left k ≡ map message_of p.rest
  behind = ap (map message_of) off.here

  -- the message is freed
  pub freed : (new : StoreValue) → new ≡ dropped got i → new ≡ left
  freed new is = is ∙ ap (λ v. dropped v i) p.after ∙ dropped-held left i p.message

-- nothing else changed
pub freed-keeps : (s got new : StoreValue) (q q' : Queue) (i : ℕ) (within : q.list < length s.lists) (p : Popped s got q.list i) → IsReady s q → new ≡ left s got q.list i within p → q'.list ≡ q.list → AreCounted q'.flows (list_at got q'.list) → Keeps s new q q'
freed-keeps s got new q q' i within p ready is list counted =
    let o = off s got q.list i within p in
    subst (λ v. Keeps s v q q') (sym is)
    (keeps-landed s (left s got q.list i within p) q q' p.rest o (rest-messages p.message p.rest (subst AreMessages p.joined ready.messages)) (λ test passes h. rest-holds test p.message p.rest (subst (Holds test) p.joined h)) list
    (subst (AreCounted q'.flows) (ap (λ v. list_at v q'.list) p.after) counted))
