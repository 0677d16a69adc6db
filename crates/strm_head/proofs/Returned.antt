-- What a queue's first message leaves once it is freed, or put back changed.
use Rattle.strm_head.proofs.Prelude.{ℕ, ◌≡◌, ◌<◌, Bool, true, false, List, length, map, refl, sym, ap, subst, ◌∙◌, arith, length-set, cond}
use Rattle.strm_head.proofs.Prelude.{dropped-held, in_hand-held, put_back-chains, put_back-messages, put_back-holds, first-holds, rest-messages}
use Rattle.strm_head.proofs.Prelude.{rest-holds, left, off, chain-is, behind, Landed, landed, landed-again, keeps-landed, changed-held}
use Rattle.strm_head.specs.Prelude.{MsgKind, is_high_priority, Block, StoreValue, list_at, in_hand, held, dropped, changed, placed, block_at}
use Rattle.strm_head.specs.Prelude.{put_back, Popped, without_bytes, without_emptied, message_of, IsChain, AreMessages, Queue, plain_flows}
use Rattle.strm_head.specs.Prelude.{AreCounted, messages_on, Holds, IsReady, Keeps, SameFlags}
use Rattle.strm_types.specs.declared.kinds.MsgKind.TheVariants as kinds
use Rattle.strm_types.specs.Flush.{counted_band}
use Rattle.strm_types.specs.Queue as plain
use Rattle.strm_msg.specs.Emptied.{Beside}
use Rattle.strm_head.specs.Leaving.{PartTaken}

-- a message that is put on a list
pub put-beside : (base u new : StoreValue) (j k : ℕ) (rest : List Block) → Beside base u j rest → new ≡ placed (dropped u j) k (put_back (in_hand u j) (list_at u k)) → new ≡ placed base k (put_back rest (list_at base k))
put-beside base u new j k rest b is =
    is ∙ ap (λ v. placed v k (put_back (in_hand u j) (list_at v k))) b.others ∙ ap (λ xs. placed base k (put_back xs (list_at base k))) b.chain_is

module _ (s got : StoreValue) (k i : ℕ) (within : k < length s.lists) (p : Popped s got k i) where
  -- another chain at the message
  pub changed-once : (f : List Block → List Block) (t : StoreValue) → t ≡ changed got i (f (in_hand got i)) → t ≡ held (left s got k i within p) i (f p.message)
  changed-once f t is =
      is ∙ ap (λ chain. changed got i (f chain)) (chain-is s got k i within p) ∙ ap (λ v. changed v i (f p.message)) p.after
      ∙ changed-held (left s got k i within p) i p.message (f p.message)

  module _ (chain : List Block) (t : StoreValue) (t_is : t ≡ held (left s got k i within p) i chain) where
    pub held-is : in_hand t i ≡ chain
    held-is = ap (λ v. in_hand v i) t_is ∙ in_hand-held (left s got k i within p) i chain

    -- it is freed
    pub freed-held : (new : StoreValue) → new ≡ dropped t i → new ≡ left s got k i within p
    freed-held new is = is ∙ ap (λ v. dropped v i) t_is ∙ dropped-held (left s got k i within p) i chain

    -- or something is left of it
    pub beside-held : (f : List Block → List Block) (u : StoreValue) (j : ℕ) → Beside (dropped t i) u j (f (in_hand t i)) → Beside (left s got k i within p) u j (f chain)
    beside-held f u j b = record { here = b.here; chain_is = b.chain_is ∙ ap f held-is; others = b.others ∙ freed-held (dropped t i) refl }

  -- what is left of it is put back
  pub put-rest : (rest : List Block) (u new : StoreValue) (j : ℕ) → Beside (left s got k i within p) u j rest → new ≡ placed (dropped u j) k (put_back (in_hand u j) (list_at u k))
      → Landed s new k (put_back rest (list_at (left s got k i within p) k))
  put-rest rest u new j b is =
      let l = left s got k i within p in
      let here : k < length l.lists = omega (arith, length-set s.lists k p.rest) in
      landed-again s l new k p.rest (put_back rest (list_at l k)) (off s got k i within p)
      (subst (λ v. Landed l v k (put_back rest (list_at l k))) (sym (put-beside l u new j k rest b is)) (landed l k (put_back rest (list_at l k)) here))

  -- so it lost a part
  pub part-taken : (rest cut : List Block) (new : StoreValue) → map without_bytes cut ≡ map without_bytes p.message → rest ≡ without_emptied cut → Landed s new k (put_back rest (list_at (left s got k i within p) k)) → PartTaken (list_at s k) (list_at new k)
  part-taken rest cut new alike is landed = record {
    message = p.message;
    others = p.rest;
    cut = cut;
    blocks = alike;
    was = p.joined;
    is = landed.here ∙ ap (put_back rest) (off s got k i within p).here ∙ ap (λ xs. put_back xs p.rest) is;
  }

  pub held-messages : (chain : List Block) (new : StoreValue) → Landed s new k (put_back chain (list_at (left s got k i within p) k)) → messages_on new k ≡ plain.put_back (message_of chain) (map message_of p.rest)
  held-messages chain new b =
      ap (map message_of) b.here ∙ put_back-chains chain (list_at (left s got k i within p) k) ∙ ap (λ ms. plain.put_back (message_of chain) ms) (behind s got k i within p)

-- nothing else changes
pub held-keeps : (s got new : StoreValue) (q q' : Queue) (i : ℕ) (within : q.list < length s.lists) (p : Popped s got q.list i) (chain : List Block) → IsReady s q → IsChain chain
    → ((test : MsgKind → Bool) → test kinds.Data ≡ true → test (block_at 0 p.message).kind ≡ true → test (block_at 0 chain).kind ≡ true)
    → Landed s new q.list (put_back chain (list_at (left s got q.list i within p) q.list)) → q'.list ≡ q.list → AreCounted q'.flows (list_at new q'.list) → Keeps s new q q'
held-keeps s got new q q' i within p chain ready one kind b list counted =
    let o = off s got q.list i within p in
    let there = list_at (left s got q.list i within p) q.list in
    let rest = subst AreMessages (sym o.here) (rest-messages p.message p.rest (subst AreMessages p.joined ready.messages)) in
    keeps-landed s new q q' (put_back chain there) b (put_back-messages chain there one rest)
    (λ test passes h. put_back-holds test chain there (kind test passes (first-holds test p.message p.rest (subst (Holds test) p.joined h))) (subst (Holds test) (sym o.here) (rest-holds test p.message p.rest (subst (Holds test) p.joined h))))
    list counted

-- a message counts in one of the bands
pub band-within : (chain : List Block) → IsChain chain → counted_band (block_at 0 chain).kind (block_at 0 chain).band < 256
band-within chain one = at (is_high_priority (block_at 0 chain).kind)
  where
    at : (b : Bool) → cond b 0 (block_at 0 chain).band < 256
    at true = omega arith
    at false = one.low

-- where nothing is taken all stays
pub flags-none : (q : Queue) → SameFlags q q
flags-none q = record { flows = refl; want_read = λ cleared. cleared; no_enable = refl }

-- a message that was taken leaves the flags but want-read
pub flags-taken : (q p : Queue) → plain_flows p.flows ≡ plain_flows q.flows → p.want_read ≡ false → p.no_enable ≡ q.no_enable → SameFlags q p
flags-taken q p flows cleared no_enable = record { flows = flows; want_read = λ was. cleared; no_enable = no_enable }
