-- A message that hangs behind another one.
use Rattle.std.proofs.Common.{ℕ, suc, ◌≡◌, ◌≢◌, ◌≤◌, ◌<◌, ◌+◌, ◌-◌, true, false, cond, eqb, List, [], ◌∷◌, ◌++◌, length, get_or, map, refl, sym, ap, ◌∙◌, arith}
use Rattle.std.proofs.Math.ListN.{set, length-set, length-append}
use Rattle.std.specs.Prelude.{sum_by, Option, Some, option_map}
use Rattle.std.proofs.lemmas.Bool.Decides.{nat_tests}
use Rattle.std.proofs.lemmas.List.{map-append}
use Rattle.std.proofs.lemmas.List.Sums.{sum_by-append}
use Rattle.strm_blocks.specs.Blocks.{without, with_chain, in_hand, dropped, changed}
use Rattle.strm_raw.specs.Numbered.{Nodes, Row, row_at, msg_number, with_row}
use Rattle.strm_raw.specs.Roster.{Msg, Roster}
use Rattle.strm_raw.specs.Raw.{weigh, ids, times, chain_of, held_of, block_no, value_of, naming, breaks, broken, gap, IsRaw, IsHere, next_of, is_there, askew, with_in, without_in, msg_in, heads, joined}
use Rattle.strm_raw.specs.declared.msg_nodes.MsgLink.{MsgLink}
use Rattle.strm_raw.specs.declared.data_nodes.DataLink.{DataLink}
use Rattle.strm_raw.proofs.Apart.{times-cons, times-self, gap-same, gap-self, weigh-apart, weigh-same, map-same, maps-same}
use Rattle.strm_raw.proofs.Finding.{sum-with, sum-without, found, found-some, found-head, found-chain, with-value, without-value}
use Rattle.strm_raw.proofs.Relinking.{row-keeps}
use Rattle.strm_raw.proofs.Relinking as relinking

-- the last of a number and those behind it
abbrev pub last_in : ℕ → List ℕ → ℕ
last_in h [] = h
last_in h (x ∷ xs) = last_in x xs

last-at : (h : ℕ) (xs : List ℕ) → last_in h xs ≡ get_or (h ∷ xs) (length (h ∷ xs) - 1) 0
last-at h [] = refl
last-at h (x ∷ xs) = last-at x xs ∙ (let e : suc (length (x ∷ xs) - 1) ≡ length (h ∷ x ∷ xs) - 1 = omega arith in ap (λ k. get_or (h ∷ x ∷ xs) k 0) e)

last-there : (h : ℕ) (xs : List ℕ) → 0 < times (last_in h xs) (h ∷ xs)
last-there h [] = let t = times-self h [] in omega arith
last-there h (x ∷ xs) = let ih = last-there x xs in let t = times-cons (last_in x xs) h (x ∷ xs) in omega arith

-- where the last link leads on to other links, all lead through both
module _ (next next' : ℕ → Option ℕ) (t j : ℕ) (old : (k : ℕ) → k ≢ t → next' k ≡ next k) (new : next' t ≡ Some j) (ys : List ℕ) (behind : breaks next' (next' j) ys ≡ 0) where
  breaks-joined : (h : ℕ) (xs : List ℕ) → last_in h xs ≡ t → times t (h ∷ xs) ≡ 1 → breaks next (next h) xs ≡ 0 → breaks next' (next' h) (xs ++ j ∷ ys) ≡ 0
  unfolding breaks
  breaks-joined h [] last once z = let here = ap next' last ∙ new in let g = ap (λ o. gap o (Some j)) here ∙ gap-self (Some j) in omega arith
  breaks-joined h (x ∷ xs) last once z =
      let some : 0 < times t (x ∷ xs) = (let l = last-there x xs in let e = ap (λ k. times k (x ∷ xs)) last in omega arith) in
      let c = times-cons t h (x ∷ xs) in
      let other : h ≢ t = (λ e. let one : cond {A = ℕ} (eqb h t) 1 0 ≡ 1 = grind (arith, nat_tests) in absurd (omega arith)) in
      let less : cond {A = ℕ} (eqb h t) 1 0 ≡ 0 = grind (arith, nat_tests) in
      let here : next' h ≡ Some x = old h other ∙ gap-same (next h) (Some x) (omega arith) in
      let g = ap (λ o. gap o (Some x)) here ∙ gap-self (Some x) in
      let ih = breaks-joined x xs last (omega arith) (omega arith) in omega arith

-- another message stands in the hand as before
msg-without : (i j : ℕ) → i ≢ j → (q : List Msg) → msg_in i (without_in j q) ≡ msg_in i q
msg-without i j apart [] = refl
msg-without i j apart (m ∷ q) = elim (eqb m.head j) as (λ b. (eqb m.head j ≡ b) → msg_in i (cond b q (m ∷ without_in j q)) ≡ cond (eqb m.head i) m (msg_in i q)) [
  | true ↦ (λ e. let no : eqb m.head i ≡ false = grind (arith, nat_tests) in sym (ap (λ b. cond b m (msg_in i q)) no))
  | false ↦ (λ e. ap (λ x. cond (eqb m.head i) m x) (msg-without i j apart q))
] refl

module _ {v : Nodes} {b : Roster} {first_m : Option MsgLink} {first_d : Option DataLink} {spare_m spare_d : ℕ} (is : IsRaw v first_m first_d spare_m spare_d b)
    (l : MsgLink) (here : IsHere v b l) (l2 : MsgLink) (here2 : IsHere v b l2) (apart : msg_number v.mat l ≢ msg_number v.mat l2) where
  abbrev i : ℕ
  i = msg_number v.mat l

  abbrev j : ℕ
  j = msg_number v.mat l2

  abbrev m : Msg
  m = found is l here

  abbrev p : Msg
  p = found is l2 here2

  abbrev pub whole : Msg
  whole = joined m p

  abbrev others : List Msg
  others = without_in j b.hand

  abbrev rest : List Msg
  rest = without_in i others

  still : 0 < heads i others
  still =
      let s : sum_by (λ (x : Msg). cond (eqb x.head i) 1 0) others + cond (eqb p.head i) 1 0 ≡ sum_by (λ (x : Msg). cond (eqb x.head i) 1 0) b.hand = sum-without j (λ (x : Msg). cond (eqb x.head i) 1 0) b.hand (found-some is l2 here2) in
      let h = found-head is l2 here2 in let no : cond {A = ℕ} (eqb p.head i) 1 0 ≡ 0 = grind (arith, nat_tests) in
      let f = found-some is l here in omega arith

  same-m : msg_in i others ≡ m
  same-m = msg-without i j apart b.hand

  -- all messages are the two and the rest
  parts : (f : Msg → ℕ) → weigh f b.lists b.hand ≡ weigh f b.lists rest + f m + f p
  parts f = let a = sum-without j f b.hand (found-some is l2 here2) in let c = sum-without i f others still in let e = ap f same-m in omega arith

  abbrev pub joined_hand : List Msg
  joined_hand = with_in i whole others

  parts-joined : (f : Msg → ℕ) → weigh f b.lists joined_hand ≡ weigh f b.lists rest + f whole
  parts-joined f = let a = sum-with i f whole others still in let c = sum-without i f others still in omega arith

  sum-whole : (g : ℕ → ℕ) → sum_by g (ids whole) ≡ sum_by g (ids m) + sum_by g (ids p)
  sum-whole g = sum_by-append g (ids m) (ids p)

  abbrev pub t : ℕ
  t = last_in m.head m.tail

  once : times t (ids m) ≡ 1
  once = let o = is.owned_m t in let s = parts (λ m. times t (ids m)) in let l = last-there m.head m.tail in grind (arith, nat_tests)

  pub last-is : t ≡ get_or (ids m) (length (ids m) - 1) 0
  last-is = last-at m.head m.tail

  pub few : length (ids m) ≤ length v.rows
  few = let c = is.counted_m in let s = parts (λ m. length (ids m)) in omega arith

  out-second : times t (ids p) ≡ 0
  out-second = let o = is.owned_m t in let s = parts (λ m. times t (ids m)) in let e = once in grind (arith, nat_tests)

  out-free : times t b.free_m ≡ 0
  out-free = let o = is.owned_m t in let s = parts (λ m. times t (ids m)) in let e = once in grind (arith, nat_tests)

  out-rest : weigh (λ m. times t (ids m)) b.lists rest ≡ 0
  out-rest = let o = is.owned_m t in let s = parts (λ m. times t (ids m)) in let e = once in grind (arith, nat_tests)

  pub within : t < length v.rows
  within = let o = is.owned_m t in let s = parts (λ m. times t (ids m)) in let e = once in grind (arith, nat_tests)

  abbrev r : Row
  r = record (row_at t v.rows) { next = Some j }

  abbrev pub joined_nodes : Nodes
  joined_nodes = with_row t r v

  abbrev pub joined_roster : Roster
  joined_roster = record b { hand = joined_hand }

  unbroken : (f : Msg → ℕ) → weigh f b.lists b.hand ≡ 0 → (f m ≡ 0) × (f p ≡ 0)
  unbroken f z = let s = parts f in (omega arith, omega arith)

  broken-whole : broken (set v.rows t r) whole ≡ 0
  broken-whole =
      let u = unbroken (broken v.rows) is.chained in
      let second : breaks (next_of (set v.rows t r)) (next_of (set v.rows t r) p.head) p.tail ≡ 0 = relinking.broken-old v t within (Some j) p out-second ∙ u.1 in
      let h = found-head is l2 here2 in
      ap (λ k. breaks (next_of (set v.rows t r)) (next_of (set v.rows t r) m.head) (m.tail ++ k ∷ p.tail)) h
      ∙ breaks-joined (next_of v.rows) (next_of (set v.rows t r)) t j (relinking.next-old v t within (Some j)) (relinking.next-new v t within (Some j)) p.tail (ap (λ k. breaks (next_of (set v.rows t r)) (next_of (set v.rows t r) k) p.tail) (sym h) ∙ second) m.head m.tail refl once u.0

  pub joined-raw : IsRaw joined_nodes first_m first_d spare_m spare_d joined_roster
  joined-raw =
      let len = length-set v.rows t r in
      record {
        same = is.same;
        same_d = is.same_d;
        eight = is.eight;
        most_m = is.most_m;
        most_d = is.most_d;
        few_m = rw len is.few_m;
        few_d = is.few_d;
        counted_m = let c = is.counted_m in let s = parts (λ m. length (ids m)) in let w = parts-joined (λ m. length (ids m)) in let a = length-append (ids m) (ids p) in omega arith;
        counted_d = is.counted_d;
        owned_m = λ k. (let o = is.owned_m k in let s = parts (λ m. times k (ids m)) in let w = parts-joined (λ m. times k (ids m)) in let a = sum-whole (λ x. cond (eqb x k) 1 0) in let n = ap (λ n. is_there k n) len in omega arith);
        owned_d = is.owned_d;
        referenced = λ d. (
            let o = is.referenced d in let s = parts (naming v.rows d) in let w = parts-joined (naming v.rows d) in let a = sum-whole (λ x. cond (eqb (row_at x v.rows).number d) 1 0) in
            let e = weigh-same (naming (set v.rows t r) d) (naming v.rows d) (relinking.naming-same v t within (Some j) d) b.lists joined_hand in omega arith);
        bounded = is.bounded;
        linked_m = relinking.free-old v t within (Some j) (option_map (msg_number v.mat) first_m) b.free_m out-free ∙ is.linked_m;
        linked_d = is.linked_d;
        chained =
            let c = is.chained in let s = parts (broken v.rows) in let w = parts-joined (broken (set v.rows t r)) in
            let a = weigh-apart t (broken (set v.rows t r)) (broken v.rows) (relinking.broken-old v t within (Some j)) b.lists rest out-rest in
            let x = broken-whole in omega arith;
        straight = λ k. row-keeps askew v.rows t r within refl k ∙ is.straight k;
        count_m = rw len is.count_m;
        count_d = is.count_d;
        there_m = rw len is.there_m;
        there_d = is.there_d;
      }

  pub chain-same : (x : Msg) → chain_of joined_nodes x ≡ chain_of v x
  chain-same = relinking.chain-same v t within (Some j) v.datas (λ e. refl)

  chain-whole : chain_of v whole ≡ in_hand (value_of v b) i ++ in_hand (value_of v b) j
  chain-whole = map-append (block_no v) (ids m) (ids p) ∙ (λ k. sym (found-chain is l here) k ++ sym (found-chain is l2 here2) k)

  pub joined-value : value_of joined_nodes joined_roster ≡ changed (dropped (value_of v b) j) i (in_hand (value_of v b) i ++ in_hand (value_of v b) j)
  joined-value =
      let hand : map (held_of v) joined_hand ≡ with_chain i (in_hand (value_of v b) i ++ in_hand (value_of v b) j) (without j (map (held_of v) b.hand)) =
      sym (with-value v i whole (found-head is l here) others) ∙ (λ k. with_chain i (chain-whole k) (sym (without-value v j b.hand) k)) in
      λ k. record {
        lists = maps-same (chain_of joined_nodes) (chain_of v) chain-same b.lists k;
        hand = (map-same (held_of joined_nodes) (held_of v) (relinking.held-same v t within (Some j) v.datas (λ e. refl)) joined_hand ∙ hand) k;
        mblks = v.mblks;
        dblks = v.dblks;
      }
