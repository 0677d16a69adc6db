-- What a get takes of a queue's first message, and what is there then.
use Rattle.strm_head.proofs.Prelude.{ℕ, ◌≡◌, ◌<◌, Bool, true, false, cond, List, ◌∷◌, length, map, refl, sym, ap, subst, ◌∙◌, arith, length-set}
use Rattle.strm_head.proofs.Prelude.{dropped-held, in_hand-held, put_back-chains, left, off, chain-is, first-holds, rest-messages, rest-holds}
use Rattle.strm_head.proofs.Prelude.{put_back-messages, put_back-holds, Landed, landed, landed-again, keeps-landed, changed-held}
use Rattle.strm_head.specs.Prelude.{MsgKind, Message, Block, StoreValue, list_at, in_hand, held, dropped, changed, placed, block_at, put_back, Popped}
use Rattle.strm_head.specs.Prelude.{without_bytes, without_emptied, message_of, IsChain, AreMessages, Queue, plain_flows, AreCounted, queue_in}
use Rattle.strm_head.specs.Prelude.{messages_on, Holds, IsReady, Keeps}
use Rattle.std.proofs.Common.{if◌then◌else◌}
use Rattle.strm_types.specs.declared.kinds.MsgKind.TheVariants as kinds
use Rattle.strm_types.specs.Queue as plain
use Rattle.strm_head.specs.Getting.{put_rest}
use Rattle.strm_head.specs.Leaving.{Leaves}
use Rattle.strm_head.proofs.Left.{leaves-part, leaves-taken, taken-first}

-- the messages behind a get, where something of the first is left, or nothing is
abbrev pub list_left : Bool → List Block → List (List Block) → List (List Block)
list_left more rest q = if more then put_back rest q else q

module _ (s got : StoreValue) (k i : ℕ) (within : k < length s.lists) (p : Popped s got k i) where
  abbrev without : StoreValue
  without = left s got k i within p

  -- the message in hand has another chain, which was made of the one that it had
  pub cut-held : (change : List Block → List Block) (cut : StoreValue) → cut ≡ changed got i (change (in_hand got i)) → cut ≡ held without i (change p.message)
  cut-held change cut is =
      is ∙ ap (λ chain. changed got i (change chain)) (chain-is s got k i within p)
      ∙ ap (λ v. changed v i (change p.message)) p.after ∙ changed-held without i p.message (change p.message)

  pub held-chain : (chain : List Block) (cut : StoreValue) → cut ≡ held without i chain → in_hand cut i ≡ chain
  held-chain chain cut is = ap (λ v. in_hand v i) is ∙ in_hand-held without i chain

  -- and goes, or its rest is put back
  pub rest-landed : (more : Bool) (chain rest : List Block) (cut new : StoreValue) → cut ≡ held without i chain → new ≡ put_rest more cut i k rest → Landed s new k (list_left more rest p.rest)
  rest-landed false chain rest cut new cut_is is =
      subst (λ v. Landed s v k p.rest) (sym (is ∙ ap (λ v. dropped v i) cut_is ∙ dropped-held without i chain)) (off s got k i within p)
  rest-landed true chain rest cut new cut_is is =
      let here : k < length without.lists = omega (arith, length-set s.lists k p.rest, within) in
      let there : new ≡ placed without k (put_back rest p.rest) =
      is ∙ ap (λ v. placed (dropped v i) k (put_back rest (list_at v k))) cut_is
      ∙ ap (λ v. placed v k (put_back rest (list_at without k))) (dropped-held without i chain)
      ∙ ap (λ q. placed without k (put_back rest q)) (off s got k i within p).here in
      landed-again s without new k p.rest (put_back rest p.rest) (off s got k i within p)
      (subst (λ v. Landed without v k (put_back rest p.rest)) (sym there) (landed without k (put_back rest p.rest) here))

-- the messages that are there then
pub messages-left : (s new : StoreValue) (k : ℕ) (more : Bool) (rest : List Block) (q : List (List Block)) → Landed s new k (list_left more rest q)
    → messages_on new k ≡ cond more (plain.put_back (message_of rest) (map message_of q)) (map message_of q)
messages-left s new k false rest q l = ap (map message_of) l.here
messages-left s new k true rest q l = ap (map message_of) l.here ∙ put_back-chains rest q

-- no other list changed, and the queue is ready
module _ (s new : StoreValue) (q q' : Queue) (chain rest : List Block) (others : List (List Block)) (ready : IsReady s q) (stood : list_at s q.list ≡ chain ∷ others)
    (more : Bool) (one : more ≡ true → IsChain rest) (kinds_kept : more ≡ true → (test : MsgKind → Bool) → test kinds.Data ≡ true → test (block_at 0 chain).kind ≡ true → test (block_at 0 rest).kind ≡ true) where
  are : AreMessages (chain ∷ others)
  are = subst AreMessages stood ready.messages

  are-left : (v : Bool) → more ≡ v → AreMessages (list_left v rest others)
  are-left false is = rest-messages chain others are
  are-left true is = put_back-messages rest others (one is) (rest-messages chain others are)

  holds-left : (v : Bool) → more ≡ v → (test : MsgKind → Bool) → test kinds.Data ≡ true → Holds test (list_at s q.list) → Holds test (list_left v rest others)
  holds-left false is test passes h = rest-holds test chain others (subst (Holds test) stood h)
  holds-left true is test passes h =
      let all = subst (Holds test) stood h in
      put_back-holds test rest others (kinds_kept is test passes (first-holds test chain others all)) (rest-holds test chain others all)

  pub left-keeps : Landed s new q.list (list_left more rest others) → q'.list ≡ q.list → AreCounted q'.flows (list_at new q'.list) → Keeps s new q q'
  left-keeps l list counted = keeps-landed s new q q' (list_left more rest others) l (are-left more refl) (holds-left more refl) list counted

-- what is left of the list
pub left-leaves : (old new : List (List Block)) (chain rest cut : List Block) (others : List (List Block)) (more : Bool) → old ≡ chain ∷ others → map without_bytes cut ≡ map without_bytes chain → rest ≡ without_emptied cut
    → new ≡ list_left more rest others → Leaves old new
left-leaves old new chain rest cut others false was alike same is = leaves-taken old new (taken-first old new chain others was is)
left-leaves old new chain rest cut others true was alike same is =
    leaves-part old new (record { message = chain; others = others; cut = cut; blocks = alike; was = was; is = is ∙ ap (λ xs. put_back xs others) same })

-- the queue behind it
pub queue-left : (s new : StoreValue) (q q' : Queue) (ms : List (Message ℕ)) → messages_on new q.list ≡ ms → q'.list ≡ q.list → plain_flows q'.flows ≡ plain_flows q.flows → q'.want_read ≡ false → q'.no_enable ≡ q.no_enable
    → queue_in new q' ≡ plain.left_with ms (queue_in s q)
queue-left s new q q' ms is list flows want no_enable = rw (list, is, flows, want, no_enable) refl
