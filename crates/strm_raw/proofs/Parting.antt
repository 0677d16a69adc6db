-- A message in hand, and what is written into its first block.
use Rattle.std.proofs.Common.{ℕ, ◌≡◌, ◌≤◌, ◌<◌, ◌+◌, cond, eqb, List, [], ◌∷◌, length, drop, get_or, map, refl, sym, ap, ◌∙◌, arith}
use Rattle.std.proofs.Math.ListN.{set, length-set}
use Rattle.std.specs.Prelude.{sum_by, Option, None, Some, option_map}
use Rattle.std.proofs.lemmas.Bool.Decides.{nat_tests}
use Rattle.std.proofs.lemmas.List.Sums.{sum_by-cons}
use Rattle.strm_blocks.specs.Blocks.{Block, in_hand, held, changed, with_chain, IsFreshName}
use Rattle.strm_raw.specs.Numbered.{Nodes, Row, row_at, msg_number, with_row}
use Rattle.strm_raw.specs.Roster.{Msg, Roster}
use Rattle.strm_raw.specs.Raw.{weigh, ids, times, chain_of, held_of, block_no, value_of, naming, breaks, broken, gap, IsRaw, next_of, is_there, askew, IsHere, with_in, without_in, heads, rest_of, alone}
use Rattle.strm_raw.specs.declared.msg_nodes.MsgLink.{MsgLink}
use Rattle.strm_raw.specs.declared.data_nodes.DataLink.{DataLink}
use Rattle.strm_raw.proofs.Apart.{times-cons, times-self, weigh-apart, map-same, maps-same, weigh-same}
use Rattle.strm_raw.proofs.Relinking.{row-keeps}
use Rattle.strm_raw.proofs.Relinking as relinking
use Rattle.strm_raw.proofs.Standing.{begun, ended}
use Rattle.strm_raw.proofs.Finding.{sum-with, sum-without, found, found-some, found-head, found-linked, found-chain, found-len, with-value, times-heads}

-- no more messages begin with a block than have it
pub heads-few : (j : ℕ) (q : List Msg) → heads j q ≤ sum_by (λ m. times j (ids m)) q
heads-few j [] = omega arith
heads-few j (m ∷ q) =
    let ih = heads-few j q in let c = times-cons j m.head m.tail in
    omega (arith, sum_by-cons (λ (m : Msg). cond (eqb m.head j) 1 0) m q, sum_by-cons (λ (m : Msg). times j (ids m)) m q)

module _ {v : Nodes} {b : Roster} {first_m : Option MsgLink} {first_d : Option DataLink} {spare_m spare_d : ℕ} (is : IsRaw v first_m first_d spare_m spare_d b)
    (l : MsgLink) (here : IsHere v b l) where
  abbrev i : ℕ
  i = msg_number v.mat l

  abbrev m : Msg
  m = found is l here

  abbrev others : List Msg
  others = without_in i b.hand

  pub split : (f : Msg → ℕ) → weigh f b.lists b.hand ≡ weigh f b.lists others + f m
  split f = let s = sum-without i f b.hand (found-some is l here) in omega arith

  pub split-with : (f : Msg → ℕ) (x : Msg) → weigh f b.lists (with_in i x b.hand) ≡ weigh f b.lists others + f x
  split-with f x = let s = sum-without i f b.hand (found-some is l here) in let t = sum-with i f x b.hand (found-some is l here) in omega arith

  once-here : times i (ids m) ≡ 1 + times i m.tail
  once-here = ap (λ k. times i (k ∷ m.tail)) (found-head is l here) ∙ times-self i m.tail

  pub out-tail : times i m.tail ≡ 0
  out-tail = let o = is.owned_m i in let s = split (λ m. times i (ids m)) in let e = once-here in let t = (here.0).0 in grind (arith, nat_tests)

  pub out-free : times i b.free_m ≡ 0
  out-free = let o = is.owned_m i in let s = split (λ m. times i (ids m)) in let e = once-here in let t = (here.0).0 in grind (arith, nat_tests)

  pub out-others : weigh (λ m. times i (ids m)) b.lists others ≡ 0
  out-others = let o = is.owned_m i in let s = split (λ m. times i (ids m)) in let e = once-here in let t = (here.0).0 in grind (arith, nat_tests)

  -- the link from the first block leads through the others
  pub tail-linked : breaks (next_of v.rows) (next_of v.rows i) m.tail ≡ 0
  unfolding breaks
  tail-linked =
      let c = found-linked is l here in
      let e = ap (λ k. breaks (next_of v.rows) (next_of v.rows k) m.tail) (found-head is l here) in
      omega arith

  pub last-single : next_of v.rows i ≡ None → length (in_hand (value_of v b) i) ≡ 1
  last-single e =
      let n = ended (next_of v.rows) m.tail (ap (λ o. breaks (next_of v.rows) o m.tail) (sym e) ∙ tail-linked) in
      let len = found-len is l here in omega arith

  -- the first block without a link
  module _ (j : ℕ) (more : next_of v.rows i ≡ Some j) where
    abbrev r : Row
    r = record (row_at i v.rows) { next = None }

    abbrev pub parted_nodes : Nodes
    parted_nodes = with_row i r v

    abbrev pub parted_roster : Roster
    parted_roster = record b { hand = rest_of m ∷ with_in i (alone i) b.hand }

    pub behind-first : (js : List ℕ) × ((m.tail ≡ j ∷ js) × (breaks (next_of v.rows) (next_of v.rows j) js ≡ 0))
    behind-first = begun (next_of v.rows) j m.tail (ap (λ o. breaks (next_of v.rows) o m.tail) (sym more) ∙ tail-linked)

    pub rest-is : rest_of m ≡ record { head = j; tail = behind-first.0 }
    rest-is = ap (λ xs. record { head = get_or xs 0 0; tail = drop 1 xs }) behind-first.1.0

    within : i < length v.rows
    within = (here.0).0

    -- sums over the blocks of the message
    sum-parted : (g : ℕ → ℕ) → sum_by g (ids (alone i)) + sum_by g (ids (rest_of m)) ≡ sum_by g (ids m)
    sum-parted g =
        let a = sum_by-cons g i [] in let c = sum_by-cons g m.head m.tail in
        let h = ap g (found-head is l here) in
        let t = ap (λ xs. sum_by g xs) behind-first.1.0 in
        let e = ap (λ (x : Msg). sum_by g (ids x)) rest-is in
        omega arith

    weigh-parted : (f : Msg → ℕ) → weigh f b.lists parted_roster.hand ≡ weigh f b.lists others + f (alone i) + f (rest_of m)
    weigh-parted f = let s = split-with f (alone i) in omega (arith, sum_by-cons f (rest_of m) (with_in i (alone i) b.hand))

    apart-rest : times i (j ∷ behind-first.0) ≡ 0
    apart-rest = ap (λ xs. times i xs) (sym behind-first.1.0) ∙ out-tail

    broken-rest : broken (set v.rows i r) (rest_of m) ≡ 0
    broken-rest =
        ap (λ (x : Msg). broken (set v.rows i r) x) rest-is
        ∙ relinking.broken-old v i within None (record { head = j; tail = behind-first.0 }) apart-rest
        ∙ behind-first.1.1

    broken-alone : broken (set v.rows i r) (alone i) ≡ 0
    unfolding breaks
    broken-alone = ap (λ o. gap o None) (relinking.next-new v i within None)

    pub parted-raw : IsRaw parted_nodes first_m first_d spare_m spare_d parted_roster
    parted-raw =
        let len = length-set v.rows i r in
        record {
          same = is.same;
          same_d = is.same_d;
          eight = is.eight;
          most_m = is.most_m;
          most_d = is.most_d;
          few_m = rw len is.few_m;
          few_d = is.few_d;
          counted_m =
              let c = is.counted_m in let s = split (λ m. length (ids m)) in let w = weigh-parted (λ m. length (ids m)) in
              let t = ap length behind-first.1.0 in let e = ap (λ (x : Msg). length (ids x)) rest-is in omega arith;
          counted_d = is.counted_d;
          owned_m = λ k. (let o = is.owned_m k in let s = split (λ m. times k (ids m)) in let w = weigh-parted (λ m. times k (ids m)) in let p = sum-parted (λ x. cond (eqb x k) 1 0) in let n = ap (λ n. is_there k n) len in omega arith);
          owned_d = is.owned_d;
          referenced = λ d. (
              let o = is.referenced d in let s = split (naming v.rows d) in let w = weigh-parted (naming v.rows d) in let p = sum-parted (λ x. cond (eqb (row_at x v.rows).number d) 1 0) in
              let e = weigh-same (naming (set v.rows i r) d) (naming v.rows d) (relinking.naming-same v i within None d) b.lists parted_roster.hand in omega arith);
          bounded = is.bounded;
          linked_m = relinking.free-old v i within None (option_map (msg_number v.mat) first_m) b.free_m out-free ∙ is.linked_m;
          linked_d = is.linked_d;
          chained =
              let c = is.chained in let s = split (broken v.rows) in let w = weigh-parted (broken (set v.rows i r)) in
              let a = weigh-apart i (broken (set v.rows i r)) (broken v.rows) (relinking.broken-old v i within None) b.lists others out-others in
              let x = broken-rest in let y = broken-alone in omega arith;
          straight = λ k. row-keeps askew v.rows i r within refl k ∙ is.straight k;
          count_m = rw len is.count_m;
          count_d = is.count_d;
          there_m = rw len is.there_m;
          there_d = is.there_d;
        }

    abbrev rest_chain : List Block
    rest_chain = chain_of v (rest_of m)

    pub parted-value : value_of parted_nodes parted_roster ≡ held (changed (value_of v b) i (block_no v i ∷ [])) j rest_chain
    parted-value =
        let hand : map (held_of v) (with_in i (alone i) b.hand) ≡ with_chain i (block_no v i ∷ []) (map (held_of v) b.hand) =
        sym (with-value v i (alone i) refl b.hand) in
        let name : (rest_of m).head ≡ j = ap (λ (x : Msg). x.head) rest-is in
        λ k. record {
          lists = maps-same (chain_of parted_nodes) (chain_of v) (relinking.chain-same v i within None v.datas (λ e. refl)) b.lists k;
          hand = record { name = name k; chain = relinking.chain-same v i within None v.datas (λ e. refl) (rest_of m) k } ∷ (map-same (held_of parted_nodes) (held_of v) (relinking.held-same v i within None v.datas (λ e. refl)) (with_in i (alone i) b.hand) ∙ hand) k;
          mblks = v.mblks;
          dblks = v.dblks;
        }

    -- the rest is named as no message in hand is
    pub parted-fresh : IsFreshName (value_of v b) j
    parted-fresh =
        let f : sum_by (λ m. cond (eqb m.head j) 1 0) others + cond (eqb m.head j) 1 0 ≡ sum_by (λ m. cond (eqb m.head j) 1 0) b.hand = sum-without i (λ m. cond (eqb m.head j) 1 0) b.hand (found-some is l here) in
        let o = is.owned_m j in let s = split (λ m. times j (ids m)) in
        let c = times-cons j m.head m.tail in let t = ap (λ xs. times j xs) behind-first.1.0 ∙ times-self j behind-first.0 in
        let le = heads-few j others in
        times-heads v j b.hand ∙ grind (arith, nat_tests)

    pub parted-shape : in_hand (value_of v b) i ≡ block_no v i ∷ rest_chain
    parted-shape =
        found-chain is l here
        ∙ (λ k. block_no v (found-head is l here k) ∷ map (block_no v) (behind-first.1.0 k))
        ∙ ap (λ (x : Msg). block_no v i ∷ chain_of v x) (sym rest-is)
