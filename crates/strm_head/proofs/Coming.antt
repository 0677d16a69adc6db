-- What becomes of a message that comes up to a head, by its kind.
use Rattle.strm_head.proofs.Prelude.{ℕ, ◌≡◌, Bool, true, false, cond, List, [], ◌∷◌, length, refl, sym, ap, subst, ◌∙◌, arith, not, ◌&&◌, used-is}
use Rattle.strm_head.proofs.Prelude.{references-is, free_m-is, kind-is, plain-is}
use Rattle.strm_head.specs.Prelude.{FlushAsked, MsgKind, Up, Doubled, Spot, Acted, Parcel, toward, Goes, is_data_kind, is_flush, flush_bytes}
use Rattle.strm_head.specs.Prelude.{flush_message, is_pcproto, is_doubled, waits_for_readers, flush_up, obeyed, head_put, Message, cells_of, is_held}
use Rattle.strm_head.specs.Prelude.{direction_at, Block, StoreValue, IsInHand, IsStore, block_at, dropped, list_at, names_of, bytes_of, message_of}
use Rattle.strm_head.specs.Prelude.{AreMessages, IsChain, Queue, AreCounted, HoldsReadable, IsReady, messages_on}
use Rattle.std.specs.List.{list_any}
use Rattle.strm_types.specs.declared.kinds.MsgKind.TheVariants.{Flush}
use Rattle.strm_types.specs.declared.kinds.MsgKind.TheVariants as kinds
use Rattle.strm_types.specs.declared.names.Way.TheVariants.{Down}
use Rattle.strm_types.specs.Flushing.{asked_by}
use Rattle.strm_types.specs.Heads.{passed_by, turned_round, Head}
use Rattle.strm_types.specs.Queue.{put_on}
use Rattle.strm_blocks.specs.Outcomes.{seen_on, told}
use Rattle.strm_blocks.proofs.Laws.{total-dropped, free_d-more}
use Rattle.strm_msg.proofs.MadePlain.{parts-same}
use Rattle.strm_queue.proofs.Finding.{finds-on}
use Rattle.strm_queue.specs.Queues.{OnlyCounts}
use Rattle.strm_queue.specs.Stored.{Changes, FreesBlocks}
use Rattle.strm_head.specs.declared.putting.Urgent.{Urgent}

-- whether an M_PCPROTO stands among some messages
abbrev any_urgent : List (Message ℕ) → Bool
any_urgent ms = list_any (λ (m : Message ℕ). is_pcproto m.kind) ms

pub finds-urgent : (s : StoreValue) (k : ℕ) → IsStore s → (told (λ (v : Urgent) b. cond b.first (record { found = is_pcproto b.kind }) v) (λ v. not v.found) (record { found = false }) (seen_on (list_at s k))).found ≡ any_urgent (messages_on s k)
finds-urgent = finds-on (λ (v : Urgent). v.found) (λ b. record { found = b }) (λ b. refl) is_pcproto

-- no fewer blocks are free where a message in hand is freed
dropped-frees : (s : StoreValue) (i : ℕ) → IsInHand s i → FreesBlocks s (dropped s i)
dropped-frees s i is = record {
  mblks = omega (arith, free_m-is s, free_m-is (dropped s i), used-is s, used-is (dropped s i), total-dropped length s i is);
  dblks = free_d-more s (dropped s i) refl (λ d. omega (arith, references-is s d, references-is (dropped s i) d, total-dropped (names_of d) s i is));
}

pub freed-frees : (s t : StoreValue) (i : ℕ) → IsInHand s i → t ≡ dropped s i → FreesBlocks s t
freed-frees s t i here is = subst (λ v. FreesBlocks s v) (sym is) (dropped-frees s i here)

pub frees-both : (s t u : StoreValue) → FreesBlocks s t → FreesBlocks t u → FreesBlocks s u
frees-both s t u first second = record {
  mblks = omega (arith, first.mblks, second.mblks);
  dblks = omega (arith, first.dblks, second.dblks);
}

-- M_DATA and M_PROTO have parts, and neither is M_PCPROTO
pub held-data : (kind : MsgKind) → is_held kind ≡ true → is_data_kind kind ≡ true
unfolding is_held is_data_kind
held-data kinds.Data is = refl
held-data kinds.Proto is = refl
held-data _ is = absurd (cc)

pub held-other : (kind : MsgKind) → is_held kind ≡ true → is_pcproto kind ≡ false
unfolding is_held
held-other kinds.Data is = refl
held-other kinds.Proto is = refl
held-other _ is = absurd (cc)

module _ (here : Spot) (chain : List Block) (h : Head ℕ) where
  abbrev m : Message ℕ
  m = message_of chain

  -- a message waits, but for a second M_PCPROTO
  abbrev doubled : Acted ℕ (Head ℕ)
  doubled = record (passed_by h) { gone = Goes (direction_at Up here.side) Doubled (cells_of m) ∷ [] }

  abbrev waiting : Acted ℕ (Head ℕ)
  waiting = passed_by (record h { queue = put_on m h.queue })

  pub no-pcproto : is_pcproto (block_at 0 chain).kind ≡ false → is_doubled m h.queue.messages ≡ false
  no-pcproto is = ap (λ v. v && any_urgent h.queue.messages) (ap is_pcproto (kind-is chain) ∙ is)

  pub a-pcproto : (b : Bool) → is_pcproto (block_at 0 chain).kind ≡ true → any_urgent h.queue.messages ≡ b → is_doubled m h.queue.messages ≡ b
  a-pcproto b is there = ap (λ v. v && any_urgent h.queue.messages) (ap is_pcproto (kind-is chain) ∙ is) ∙ there

  pub goes-doubled : is_doubled m h.queue.messages ≡ true → waits_for_readers here m h ≡ doubled
  goes-doubled is = ap (λ v. cond v doubled waiting) is

  pub waits-there : is_doubled m h.queue.messages ≡ false → waits_for_readers here m h ≡ waiting
  waits-there is = ap (λ v. cond v doubled waiting) is

  -- no waiting writer is let go, and nothing goes down
  pub waits-notes : (waits_for_readers here m h).notes ≡ []
  waits-notes = elim (is_doubled m h.queue.messages) as (λ v. (cond v doubled waiting).notes ≡ []) [ true ↦ refl | false ↦ refl ]

  pub waits-sent : (waits_for_readers here m h).sent ≡ []
  waits-sent = elim (is_doubled m h.queue.messages) as (λ v. (cond v doubled waiting).sent ≡ []) [ true ↦ refl | false ↦ refl ]

  -- what a put does, by the kind of the first block
  module _ (one : IsChain chain) where
    pub data-comes : is_data_kind (block_at 0 chain).kind ≡ true → head_put here m h ≡ waits_for_readers here m h
    data-comes is = ap (λ v. cond v (waits_for_readers here m h) (obeyed here m.kind m.plain h)) (parts-same chain one ∙ is)

    pub other-comes : is_data_kind (block_at 0 chain).kind ≡ false → head_put here m h ≡ obeyed here (block_at 0 chain).kind (bytes_of chain) h
    other-comes is =
        ap (λ v. cond v (waits_for_readers here m h) (obeyed here m.kind m.plain h)) (parts-same chain one ∙ is)
        ∙ ap (λ (x : Message ℕ). obeyed here x.kind x.plain h) (plain-is chain is)

    pub flush-comes : is_data_kind (block_at 0 chain).kind ≡ false → is_flush (block_at 0 chain).kind ≡ true
        → head_put here m h ≡ flush_up here (asked_by (bytes_of chain)) h
    flush-comes none is = other-comes none ∙ at (block_at 0 chain).kind is
      where
        at : (k : MsgKind) → is_flush k ≡ true → obeyed here k (bytes_of chain) h ≡ flush_up here (asked_by (bytes_of chain)) h
        at Flush is = refl
        at _ is = absurd (cc)

-- nothing but an M_FLUSH lets a waiting writer go, and takes bytes away
pub heeds-notes : (here : Spot) (k : MsgKind) (bytes : List ℕ) (h : Head ℕ) → is_flush k ≡ false → (obeyed here k bytes h).notes ≡ []
heeds-notes here Flush bytes h is = absurd (cc)
heeds-notes here _ bytes h is = refl

pub heeds-gone : (here : Spot) (k : MsgKind) (bytes : List ℕ) (h : Head ℕ) → is_flush k ≡ false → (obeyed here k bytes h).gone ≡ []
heeds-gone here Flush bytes h is = absurd (cc)
heeds-gone here _ bytes h is = refl

-- an M_FLUSH goes down again, or doesn't
module _ (here : Spot) (asked : FlushAsked) where
  abbrev round : List (Parcel ℕ)
  round = record { to = toward Down here; message = flush_message (flush_bytes (record asked { for_read = false })) } ∷ []

  pub goes-round : asked.for_write ≡ true → turned_round here asked ≡ round
  goes-round is = ap (λ v. cond v round []) is

  pub stays-up : asked.for_write ≡ false → turned_round {C = ℕ} here asked ≡ []
  stays-up is = ap (λ v. cond v round []) is

-- a queue of which nothing but the counts changed, beside a store of which nothing but a message in hand did
module _ (s t : StoreValue) (i : ℕ) (q q' : Queue) (freed : t ≡ dropped s i) (only : OnlyCounts q q') where
  pub counts-changed : IsReady s q → ((ms : List (List Block)) → AreCounted q.flows ms → AreCounted q'.flows ms) → Changes (dropped s i) t q q'
  counts-changed ready counted = subst (λ v. Changes (dropped s i) v q q') (sym freed) (record {
    ready = record {
      messages = subst (λ k. AreMessages (list_at s k)) (sym only.list) ready.messages;
      counted = counted (list_at s q'.list) (subst (λ k. AreCounted q.flows (list_at s k)) (sym only.list) ready.counted);
    };
    list = only.list;
    others = λ k apart. refl;
    hand = refl;
    mblks = refl;
    dblks = refl;
  })

  pub readable-still : HoldsReadable (list_at s q.list) → HoldsReadable (list_at t q'.list)
  readable-still readable = subst (λ v. HoldsReadable (list_at v q'.list)) (sym freed) (subst (λ k. HoldsReadable (list_at s k)) (sym only.list) readable)
