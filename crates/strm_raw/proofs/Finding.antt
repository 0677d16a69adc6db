-- The message in hand that a pointer names.
use Rattle.std.proofs.Common.{ℕ, ◌≡◌, ◌≤◌, ◌<◌, ◌+◌, ◌-◌, true, false, cond, eqb, List, [], ◌∷◌, length, get_or, map, refl, sym, ap, ◌∙◌, subst, arith}
use Rattle.std.specs.Prelude.{sum_by, Option, Some}
use Rattle.std.proofs.lemmas.Bool.Decides.{nat_tests}
use Rattle.std.proofs.lemmas.List.Sums.{sum_by-cons, get_or-le-sum_by}
use Rattle.std.proofs.lemmas.List.{length-map, get_or-map}
use Rattle.strm_blocks.specs.Blocks.{Held, StoreValue, IsInHand, chain_in, times_in, without, with_chain, in_hand, block_at, no_block}
use Rattle.strm_raw.specs.Numbered.{Nodes, row_at, data_at, msg_number, IsMsg}
use Rattle.strm_raw.specs.Roster.{Msg, Roster}
use Rattle.strm_raw.specs.Raw.{ids, times, chain_of, held_of, block_no, value_of, IsRaw, IsHere, msg_in, without_in, with_in, heads, breaks, broken, IsChain, gap, naming}
use Rattle.strm_raw.specs.declared.msg_nodes.MsgLink.{MsgLink}
use Rattle.strm_raw.specs.declared.data_nodes.DataLink.{DataLink}
use Rattle.strm_raw.proofs.Apart.{times-self, gap-self}

-- sums over messages, where one of them is at hand
module _ (i : ℕ) (f : Msg → ℕ) where
  pub sum-without : (q : List Msg) → 0 < heads i q → sum_by f (without_in i q) + f (msg_in i q) ≡ sum_by f q
  sum-without [] some = absurd (omega arith)
  sum-without (m ∷ q) some =
      let s = sum_by-cons (λ (m : Msg). cond (eqb m.head i) 1 0) m q in
      elim (eqb m.head i) as (λ b. (cond b 1 0 + heads i q ≡ heads i (m ∷ q)) → sum_by f (cond b q (m ∷ without_in i q)) + f (cond b m (msg_in i q)) ≡ sum_by f (m ∷ q)) [
        | true ↦ (λ e. let c = sum_by-cons f m q in omega arith)
        | false ↦ (λ e. let ih = sum-without q (omega arith) in let c = sum_by-cons f m q in let d = sum_by-cons f m (without_in i q) in omega arith)
      ] (sym s)

  pub sum-with : (x : Msg) (q : List Msg) → 0 < heads i q → sum_by f (with_in i x q) + f (msg_in i q) ≡ sum_by f q + f x
  sum-with x [] some = absurd (omega arith)
  sum-with x (m ∷ q) some =
      let s = sum_by-cons (λ (m : Msg). cond (eqb m.head i) 1 0) m q in
      elim (eqb m.head i) as (λ b. (cond b 1 0 + heads i q ≡ heads i (m ∷ q)) → sum_by f (cond b (x ∷ q) (m ∷ with_in i x q)) + f (cond b m (msg_in i q)) ≡ sum_by f (m ∷ q) + f x) [
        | true ↦ (λ e. let c = sum_by-cons f m q in let d = sum_by-cons f x q in omega arith)
        | false ↦ (λ e. let ih = sum-with x q (omega arith) in let c = sum_by-cons f m q in let d = sum_by-cons f m (with_in i x q) in omega arith)
      ] (sym s)

pub head-in : (i : ℕ) (q : List Msg) → 0 < heads i q → (msg_in i q).head ≡ i
head-in i [] some = absurd (omega arith)
head-in i (m ∷ q) some =
    let s = sum_by-cons (λ (m : Msg). cond (eqb m.head i) 1 0) m q in
    elim (eqb m.head i) as (λ b. (eqb m.head i ≡ b) → (cond b 1 0 + heads i q ≡ heads i (m ∷ q)) → (cond b m (msg_in i q)).head ≡ i) [
      | true ↦ (λ t e. grind (arith, nat_tests))
      | false ↦ (λ t e. head-in i q (omega arith))
    ] refl (sym s)

module _ (v : Nodes) (i : ℕ) where
  pub times-heads : (q : List Msg) → times_in i (map (held_of v) q) ≡ heads i q
  times-heads [] = refl
  times-heads (m ∷ q) =
      let c = sum_by-cons (λ (x : Held). cond (eqb x.name i) 1 0) (held_of v m) (map (held_of v) q) in
      let d = sum_by-cons (λ (x : Msg). cond (eqb x.head i) 1 0) m q in
      let ih = times-heads q in omega arith

  pub chain-value : (q : List Msg) → 0 < heads i q → chain_in i (map (held_of v) q) ≡ chain_of v (msg_in i q)
  chain-value [] some = absurd (omega arith)
  chain-value (m ∷ q) some =
      let s = sum_by-cons (λ (m : Msg). cond (eqb m.head i) 1 0) m q in
      elim (eqb m.head i) as (λ b. (cond b 1 0 + heads i q ≡ heads i (m ∷ q)) → cond b (chain_of v m) (chain_in i (map (held_of v) q)) ≡ chain_of v (cond b m (msg_in i q))) [
        | true ↦ (λ e. refl)
        | false ↦ (λ e. chain-value q (omega arith))
      ] (sym s)

  pub without-value : (q : List Msg) → without i (map (held_of v) q) ≡ map (held_of v) (without_in i q)
  without-value [] = refl
  without-value (m ∷ q) =
      elim (eqb m.head i) as (λ b. cond b (map (held_of v) q) (held_of v m ∷ without i (map (held_of v) q)) ≡ map (held_of v) (cond b q (m ∷ without_in i q))) [
        | true ↦ refl
        | false ↦ ap (λ r. held_of v m ∷ r) (without-value q)
      ]

  pub with-value : (x : Msg) → x.head ≡ i → (q : List Msg) → with_chain i (chain_of v x) (map (held_of v) q) ≡ map (held_of v) (with_in i x q)
  with-value x same [] = refl
  with-value x same (m ∷ q) =
      elim (eqb m.head i) as (λ b. (eqb m.head i ≡ b) → cond b (record (held_of v m) { chain = chain_of v x } ∷ map (held_of v) q) (held_of v m ∷ with_chain i (chain_of v x) (map (held_of v) q)) ≡ map (held_of v) (cond b (x ∷ q) (m ∷ with_in i x q))) [
        | true ↦ (λ t. let heads : m.head ≡ x.head = grind (arith, nat_tests) in ap (λ k. record { name = k; chain = chain_of v x } ∷ map (held_of v) q) heads)
        | false ↦ (λ t. ap (λ r. held_of v m ∷ r) (with-value x same q))
      ] refl

module _ {v : Nodes} {b : Roster} {first_m : Option MsgLink} {first_d : Option DataLink} {spare_m spare_d : ℕ} (is : IsRaw v first_m first_d spare_m spare_d b)
    (l : MsgLink) (here : IsHere v b l) where
  abbrev i : ℕ
  i = msg_number v.mat l

  pub once : heads i b.hand ≡ 1
  once = sym (times-heads v i b.hand) ∙ here.1

  pub found-some : 0 < heads i b.hand
  found-some = omega (arith, once)

  -- the message
  abbrev pub found : Msg
  found = msg_in i b.hand

  pub found-head : found.head ≡ i
  found-head = head-in i b.hand found-some

  pub found-chain : in_hand (value_of v b) (i) ≡ chain_of v found
  found-chain = chain-value v i b.hand found-some

  pub found-linked : IsChain v.rows i (ids found)
  unfolding breaks
  found-linked =
      let w = sum-without i (broken v.rows) b.hand found-some in
      let c = is.chained in
      let g : gap (Some i) (Some found.head) ≡ 0 = ap (λ k. gap (Some i) (Some k)) found-head ∙ gap-self (Some i) in
      omega arith

  pub found-len : length (in_hand (value_of v b) (i)) ≡ length (ids found)
  found-len = ap length found-chain ∙ length-map (ids found) (block_no v)

  pub found-few : length (ids found) ≤ length v.rows
  found-few = let c = is.counted_m in let w = sum-without i (λ m. length (ids m)) b.hand found-some in omega arith

  pub found-block : (at : ℕ) → at < length (in_hand (value_of v b) (i)) → block_at at (in_hand (value_of v b) (i)) ≡ block_no v (get_or (ids found) at 0)
  found-block at within = ap (λ c. block_at at c) found-chain ∙ get_or-map (block_no v) (ids found) at 0 no_block (omega (arith, found-len))

-- a name that is in hand is the number of a message block
pub in-hand-below : {v : Nodes} {b : Roster} {first_m : Option MsgLink} {first_d : Option DataLink} {spare_m spare_d : ℕ} (is : IsRaw v first_m first_d spare_m spare_d b)
    (i : ℕ) → times_in i (map (held_of v) b.hand) ≡ 1 → i < length v.rows
in-hand-below {v = v} {b = b} is i here =
    let some : 0 < heads i b.hand = omega (arith, times-heads v i b.hand, here) in
    let w = sum-without i (λ m. times i (ids m)) b.hand some in
    let m = msg_in i b.hand in
    let t = ap (λ k. times i (k ∷ m.tail)) (head-in i b.hand some) ∙ times-self i m.tail in
    let o = is.owned_m i in
    grind (arith, nat_tests)

-- a token that is in hand is of a message block, and the link to that block leads to the first one of the message
pub token-below : {v : Nodes} {b : Roster} {first_m : Option MsgLink} {first_d : Option DataLink} {spare_m spare_d : ℕ} (is : IsRaw v first_m first_d spare_m spare_d b)
    (s : StoreValue) → value_of v b ≡ s → (i n : ℕ) → n ≡ i → IsInHand s i → n < length v.rows
token-below {v = v} {b = b} is s view i n same held = subst (λ k. k < length v.rows) (sym same) (in-hand-below is i (subst (λ (s : StoreValue). IsInHand s i) (sym view) held))

pub here-by : (v : Nodes) (b : Roster) (s : StoreValue) → value_of v b ≡ s → (l : MsgLink) (i n : ℕ) → IsMsg v.mat (length v.rows) l → msg_number v.mat l ≡ n → n ≡ i → IsInHand s i → IsHere v b l
here-by v b s view l i n there number same held = (there, subst (λ (x : StoreValue × ℕ). IsInHand x.0 x.1) (λ j. (sym view j, sym (number ∙ same) j)) held)

-- a message in hand has a block
pub first-within : {v : Nodes} {b : Roster} {first_m : Option MsgLink} {first_d : Option DataLink} {spare_m spare_d : ℕ} (is : IsRaw v first_m first_d spare_m spare_d b)
    {s : StoreValue} → value_of v b ≡ s → (n : ℕ) → IsInHand s n → 0 < length (in_hand s n)
first-within {v = v} {b = b} is view n held =
    let some : 0 < heads n b.hand = (let t = subst (λ (s : StoreValue). IsInHand s n) (sym view) held in let h = times-heads v n b.hand in omega arith) in
    let e = ap (λ (s : StoreValue). length (in_hand s n)) (sym view) ∙ ap length (chain-value v n b.hand some) in omega arith

-- the last block of a message in hand
pub last-number : {v : Nodes} {b : Roster} {first_m : Option MsgLink} {first_d : Option DataLink} {spare_m spare_d : ℕ} (is : IsRaw v first_m first_d spare_m spare_d b)
    {s : StoreValue} (view : value_of v b ≡ s) (l : MsgLink) (here : IsHere v b l) {n : ℕ} (name : msg_number v.mat l ≡ n) (most : ℕ) → most ≡ length v.rows
    → (k : ℕ) → ((is : List ℕ) → IsChain v.rows (msg_number v.mat l) is → length is ≤ most → k ≡ get_or is (length is - 1) 0) → k ≡ get_or (ids (found is l here)) (length (in_hand s n) - 1) 0
last-number {v = v} is {s = s} view l here {n = n} name most same k last =
    let few = found-few is l here in
    let len : length (ids (found is l here)) ≡ length (in_hand s n) = sym (found-len is l here) ∙ (λ j. length (in_hand (view j) (name j))) in
    last (ids (found is l here)) (found-linked is l here) (omega arith) ∙ ap (λ i. get_or (ids (found is l here)) (i - 1) 0) len

-- the data block that a block of the message names has a reference
pub found-named : {v : Nodes} {b : Roster} {first_m : Option MsgLink} {first_d : Option DataLink} {spare_m spare_d : ℕ} (is : IsRaw v first_m first_d spare_m spare_d b)
    (l : MsgLink) (here : IsHere v b l) (at : ℕ) → at < length (ids (found is l here))
    → 0 < (data_at (row_at (get_or (ids (found is l here)) at 0) v.rows).number v.datas).references
found-named {v = v} {b = b} is l here at within =
    let m = found is l here in
    let d = (row_at (get_or (ids m) at 0) v.rows).number in
    let r = is.referenced d in
    let w = sum-without (msg_number v.mat l) (naming v.rows d) b.hand (found-some is l here) in
    let le = get_or-le-sum_by (λ j. cond (eqb (row_at j v.rows).number d) 1 0) (ids m) at 0 within in
    let one : cond {A = ℕ} (eqb d d) 1 0 ≡ 1 = grind (arith, nat_tests) in
    omega arith
