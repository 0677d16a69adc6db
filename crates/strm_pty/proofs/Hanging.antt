-- A message in hand is sent on behind a header, and two of one payload are, one after the other.
use Rattle.strm_pty.proofs.Prelude.{ℕ, ◌≡◌, ◌≢◌, ◌≤◌, ◌<◌, ◌+◌, false, true, cond, eqb, List, [], ◌∷◌, ◌++◌, refl, sym, ap, subst, ◌∙◌, drop, length}
use Rattle.strm_pty.proofs.Prelude.{arith, inl, inr, cases_eq, plain-is, chains-same, once-self, parcels-same, shifts-as, shifts-both}
use Rattle.strm_pty.specs.Prelude.{MsgKind, payload, Parcel, is_data_kind, is_control_kind, Message, bare, Block, StoreValue, IsStore, IsInHand}
use Rattle.strm_pty.specs.Prelude.{block_at, changed, copy_of, dropped, filled_block, in_hand, times_in, token, Copied, bytes_of, message_of, IsChain}
use Rattle.strm_pty.specs.Prelude.{Sent, once, message_in, times_sent, parcels_in}
use Rattle.strm_types.specs.declared.kinds.MsgKind.TheVariants as kinds
use Rattle.strm_msg.proofs.Hands.{changed-same}
use Rattle.strm_pty.specs.Does.{Swaps}
use Rattle.strm_pty.specs.Packs.{Becomes}
use Rattle.strm_pty.specs.Shares.{AreShared, BothCarry, Parts, SendsBoth}
use Rattle.strm_pty.proofs.Doing.{can-of, chains-append, once-none, parcels-append, times-append}
use Rattle.strm_pty.proofs.Packing.{joined-after, joined-is, joined-none, shifts-joined}

data-true : (k : MsgKind) → k ≡ kinds.Data → is_data_kind k ≡ true
unfolding is_data_kind
data-true k is = rw is refl

control-true : (k : MsgKind) → is_control_kind k ≡ true → is_data_kind k ≡ true
unfolding is_data_kind is_control_kind
control-true kinds.Proto is = refl
control-true kinds.Pcproto is = refl
control-true _ is = absurd (cc)

-- a block of a kind without parts in front of any others: together they are one message of that kind
module _ (kind : MsgKind) (bytes : List ℕ) (number : ℕ) (behind : List Block) (plain : is_data_kind kind ≡ false) where
  abbrev all : List Block
  all = copy_of number (filled_block kind 0 bytes) ∷ behind

  headed-chain : IsChain all
  headed-chain = record {
    some = omega arith;
    all_data = λ k. absurd (let yes = data-true kind k in cc);
    parted = λ control. absurd (let yes = control-true kind control in cc);
    high = λ high. refl;
    low = omega arith;
  }

  headed-shown : message_of all ≡ bare kind (bytes ++ bytes_of behind)
  headed-shown = plain-is all plain

module _ (s t v : StoreValue) (i f : ℕ) (kind : MsgKind) (bytes : List ℕ) (is : IsInHand s i) (st : IsStore t) (copied : Copied s t f (filled_block kind 0 bytes)) where
  pub headed : is_data_kind kind ≡ false → v ≡ changed (dropped t i) f (in_hand t f ++ in_hand t i) → Becomes s v i f (bare kind (bytes ++ bytes_of (in_hand s i)))
  headed plain linked =
      let b = filled_block kind 0 bytes in
      let there = joined-is s t i f b is st copied 0 kind in
      let now = joined-after s t i f b is st copied 0 kind t v (sym (changed-same t i)) linked in
      subst (λ w. Becomes s w i f (bare kind (bytes ++ bytes_of (in_hand s i)))) (sym now) (record {
        lists = ap (λ v. v.lists) copied.after;
        hands = shifts-joined s t i f b is st copied 0 kind;
        blocks = λ held. joined-none s t i f b is st copied 0 kind;
        chain = subst IsChain (sym there) (headed-chain kind bytes copied.number (in_hand s i) plain);
        shows = ap message_of there ∙ headed-shown kind bytes copied.number (in_hand s i) plain;
      })

  -- behind it stand the blocks of the message
  pub headed-carries : v ≡ changed (dropped t i) f (in_hand t f ++ in_hand t i) → drop 1 (in_hand v f) ≡ in_hand s i
  headed-carries linked =
      let b = filled_block kind 0 bytes in
      ap (λ w. drop 1 (in_hand w f)) (joined-after s t i f b is st copied 0 kind t v (sym (changed-same t i)) linked) ∙ ap (drop 1) (joined-is s t i f b is st copied 0 kind)

-- two names are no third one
once-most : (b j : ℕ) → once b j ≤ 1
unfolding once
once-most b j = elim (eqb b j) as (λ v. cond {A = ℕ} v 1 0 ≤ 1) [ true ↦ omega arith | false ↦ omega arith ]

once-two : (a b j : ℕ) → a ≢ b → once a j + once b j ≤ 1
once-two a b j ne = elim (cases_eq a j) [
  | inl e ↦ (let z = once-none b j (λ f. ne (e ∙ sym f)) in let u = once-self j in let same = ap (λ k. once k j) e in omega (arith, z, u, same))
  | inr na ↦ (let z = once-none a j na in let m = once-most b j in omega (arith, z, m))
]

-- two of one payload, one after the other
module _ (t u w : StoreValue) (r c : ℕ) (shared : AreShared t r c) (st : IsStore u) (x y : Sent) (p q : Parcel ℕ) (first : Swaps t u r 1 (x ∷ []) (p ∷ [])) (second : Swaps u w c 1 (y ∷ []) (q ∷ [])) where
  -- what was made first isn't the second one
  other : (j : ℕ) → 0 < times_sent j (x ∷ []) → (once c j ≡ 0) × (0 < times_in j u.hand)
  other j some =
      let came = first.hands.counts j in
      let one = st.apart j in
      let here = (can-of t r shared.first_in).apart j in
      let there = (can-of t c shared.second_in).apart j in
      let both = once-two r c j shared.apart in
      (omega (arith, came, one, here, there, both, some), omega (arith, came, here, some))

  stays : (j : ℕ) → 0 < times_sent j (x ∷ []) → in_hand w j ≡ in_hand u j
  stays j some = (let o = other j some in second.hands.others j o.0 o.1)

  pub sends-both : SendsBoth t w r c (x ∷ y ∷ []) (p ∷ q ∷ [])
  sends-both =
      record {
        lists = second.lists ∙ first.lists;
        hands = shifts-as t w (λ j. once r j + once c j) (λ j. times_sent j (x ∷ []) + times_sent j (y ∷ [])) (λ j. once r j + once c j) (λ j. times_sent j (x ∷ y ∷ [])) 2 2
            (shifts-both t u w (once r) (λ j. times_sent j (x ∷ [])) (once c) (λ j. times_sent j (y ∷ [])) 1 1 first.hands second.hands) (λ j. refl) (λ j. sym (times-append j (x ∷ []) (y ∷ []))) (omega arith);
        sent = parcels-append w (x ∷ []) (y ∷ []) ∙ ap (λ xs. xs ++ parcels_in w (y ∷ [])) (parcels-same u w (x ∷ []) stays ∙ first.sent) ∙ ap (λ xs. (p ∷ []) ++ xs) second.sent;
        chains = chains-append w (x ∷ []) (y ∷ []) (chains-same u w (x ∷ []) stays first.chains) second.chains;
      }

  -- behind both stands the payload
  pub both-carry : drop 1 (in_hand u (token x.message)) ≡ in_hand t r → drop 1 (in_hand w (token y.message)) ≡ in_hand u c → BothCarry w (in_hand t r) (x ∷ y ∷ [])
  unfolding times_sent
  both-carry one two =
      let o = once-self (token x.message) in
      let there : 0 < times_in c t.hand = (let is = shared.second_in in omega (arith, is)) in
      (ap (drop 1) (stays (token x.message) (omega (arith, o))) ∙ one, two ∙ first.hands.others c (once-none r c shared.apart) there ∙ shared.second_is ∙ sym shared.first_is)

-- an M_IOCTL that was parted has gone, and both others were made
pub parted-sends : (s t w : StoreValue) (i r c : ℕ) (made : List Sent) (ps qs : List (Parcel ℕ)) → Parts s t i r c → IsStore t → SendsBoth t w r c made ps → ps ≡ qs → Swaps s w i 2 made qs
parted-sends s t w i r c made ps qs parts st sends is = record {
  lists = sends.lists ∙ parts.lists;
  hands = record {
    counts = λ j. let a = parts.hands.counts j in let b = sends.hands.counts j in omega (arith, a, b);
    others = λ j none some.
        let a = parts.hands.counts j in
        let one = st.apart j in
        sends.hands.others j (omega (arith, a, one, none, some)) (omega (arith, a, none, some)) ∙ parts.hands.others j none some;
    mblks = (let a = parts.hands.mblks in let b = sends.hands.mblks in omega (arith, a, b));
    dblks = (let a = parts.hands.dblks in let b = sends.hands.dblks in omega (arith, a, b));
    pool = record { mblks = sends.hands.pool.mblks ∙ parts.hands.pool.mblks; dblks = sends.hands.pool.dblks ∙ parts.hands.pool.dblks };
  };
  sent = sends.sent ∙ is;
  chains = sends.chains;
}

drop-front : (xs ys : List ℕ) → drop (length xs) (xs ++ ys) ≡ ys
drop-front [] ys = refl
drop-front (x ∷ xs) ys = drop-front xs ys

-- what stands behind a header of 16 bytes is the payload
pub payload-is : (s t : StoreValue) (i r c : ℕ) (parts : Parts s t i r c) → is_data_kind (block_at 0 (in_hand s i)).kind ≡ false → bytes_of (in_hand t r) ≡ payload (message_in s i).plain
payload-is s t i r c parts plain =
    let bytes : (message_in s i).plain ≡ bytes_of (in_hand s i) = ap (λ (m : Message ℕ). m.plain) (plain-is (in_hand s i) plain) in
    ap bytes_of parts.shared.first_is
    ∙ sym (dropped-head parts.header.bytes (bytes_of (parts.shared.payload ∷ [])) 16 parts.sixteen)
    ∙ ap (λ l. drop 16 (bytes_of l)) (sym parts.were)
    ∙ ap (drop 16) (sym bytes)
  where
    dropped-head : (xs ys : List ℕ) (n : ℕ) → length xs ≡ n → drop n (xs ++ ys) ≡ ys
    dropped-head xs ys n long = ap (λ k. drop k (xs ++ ys)) (sym long) ∙ drop-front xs ys
