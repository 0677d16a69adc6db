-- What a message block that is given back leaves of a store, and a reference that is given up.
use Rattle.std.proofs.Common.{ℕ, ◌≡◌, ◌<◌, ◌+◌, ◌-◌, cond, eqb, List, [], ◌∷◌, length, refl, sym, ap, ◌∙◌, subst, arith, inl, inr}
use Rattle.std.proofs.Math.ListN.{set, length-set}
use Rattle.std.specs.Prelude.{◌⊎◌, sum_by, Option, Some, option_map}
use Rattle.std.proofs.lemmas.Bool.Decides.{nat_tests}
use Rattle.std.proofs.lemmas.Bool.{cases_eq}
use Rattle.std.proofs.lemmas.List.{get_or-set_same, set-set}
use Rattle.std.proofs.lemmas.List.Sums.{sum_by-cons}
use Rattle.strm_blocks.specs.Blocks.{in_hand, dropped}
use Rattle.strm_raw.specs.Numbered.{Nodes, Row, DataRow, row_at, data_at, no_data, no_bytes, msg_number, data_number, IsData}
use Rattle.strm_raw.specs.Wiped.{AreWiped}
use Rattle.strm_raw.specs.Roster.{Msg, Roster}
use Rattle.strm_raw.specs.Raw.{ids, times, chain_of, held_of, value_of, naming, breaks, broken, IsRaw, next_of, free_after, is_there, askew, IsHere, without_in, GivesLast, GivesOne}
use Rattle.strm_raw.specs.declared.msg_nodes.MsgLink.{MsgLink}
use Rattle.strm_raw.specs.declared.data_nodes.DataLink.{DataLink}
use Rattle.strm_raw.proofs.Apart.{times-cons, weigh-apart, map-same, maps-same, gap-self, weigh-same}
use Rattle.strm_raw.proofs.Stocking.{Stocked, stocked, references-at, free-kept, datum-new}
use Rattle.strm_raw.proofs.Standing.{empty}
use Rattle.strm_raw.proofs.Finding.{found, found-head, found-len, without-value}
use Rattle.strm_raw.proofs.Parting.{split, out-free, out-others}
use Rattle.strm_raw.proofs.Relinking.{row-keeps}
use Rattle.strm_raw.proofs.Relinking as relinking
use Rattle.strm_raw.proofs.Wiping.{Wipes, wiped-set, wiped-named}

-- the data blocks of a store, where one reference to one of them is given up
pub record Drops (v : Nodes) (number : ℕ) (datas : List DataRow) (first_d : Option DataLink) (spare_d : ℕ) (free_d : List ℕ) : Type 0 where
  pub stock : Stocked v datas first_d spare_d free_d
  pub fewer : (e : ℕ) → (data_at e v.datas).references ≡ (data_at e datas).references + cond (eqb number e) 1 0

module _ {v : Nodes} {b : Roster} {first_m : Option MsgLink} {first_d : Option DataLink} {spare_m spare_d : ℕ} (is : IsRaw v first_m first_d spare_m spare_d b)
    (k : DataLink) (there : IsData v.dat (length v.datas) k) where
  abbrev d : ℕ
  d = data_number v.dat k

  within : d < length v.datas
  within = there.0

  module _ (x : DataRow) (same : x.bytes ≡ (data_at d v.datas).bytes) (less : x.references + 1 ≡ (data_at d v.datas).references) where
    fewer : (e : ℕ) → (data_at e v.datas).references ≡ (data_at e (set v.datas d x)).references + cond (eqb d e) 1 0
    fewer e = let r = references-at is d within x same e in elim (cases_eq e d) [
      | inl i ↦ (let o = ap (λ j. (data_at j v.datas).references) i in grind (arith, nat_tests))
      | inr n ↦ grind (arith, nat_tests)
    ]

    out : times d b.free_d ≡ 0
    out = let o = is.owned_d d in grind (arith, nat_tests)

    first-linked : x.next ≡ option_map (data_number v.dat) first_d → breaks (free_after (set v.datas d x)) (Some d) (d ∷ b.free_d) ≡ 0
    unfolding breaks
    first-linked next =
        let g = gap-self (Some d) in
        let e = ap (λ o. breaks (free_after (set v.datas d x)) o b.free_d) (ap (λ (r : DataRow). r.next) (datum-new is d within x same) ∙ next) in
        let a = free-kept is d within x same (option_map (data_number v.dat) first_d) b.free_d out in
        let l = is.linked_d in omega arith

    drops-last : x.next ≡ option_map (data_number v.dat) first_d → x.references ≡ 0 → Drops v d (set v.datas d x) (Some k) (spare_d + 1) (d ∷ b.free_d)
    drops-last next none =
        let t = times-cons d d b.free_d in let self : cond {A = ℕ} (eqb d d) 1 0 ≡ 1 = grind (arith, nat_tests) in
        record {
          stock = stocked is d within x same 0 1 (grind (arith, nat_tests)) (grind (arith, nat_tests)) (Some k) (spare_d + 1) (d ∷ b.free_d) (omega arith) (λ e other. (let t = times-cons e d b.free_d in grind (arith, nat_tests))) (omega arith)
              (first-linked next) (let c = is.count_d in omega arith) there;
          fewer = fewer;
        }

    drops-one : 0 < x.references → Drops v d (set v.datas d x) first_d spare_d b.free_d
    drops-one some = record {
      stock = stocked is d within x same 1 1 (grind (arith, nat_tests)) (grind (arith, nat_tests)) first_d spare_d b.free_d refl (λ e other. refl) refl
          (free-kept is d within x same (option_map (data_number v.dat) first_d) b.free_d out ∙ is.linked_d) is.count_d is.there_d;
      fewer = fewer;
    }

-- a message in hand of one block is given back
module _ {v : Nodes} {b : Roster} {first_m : Option MsgLink} {first_d : Option DataLink} {spare_m spare_d : ℕ} (is : IsRaw v first_m first_d spare_m spare_d b)
    (l : MsgLink) (here : IsHere v b l) (single : length (in_hand (value_of v b) (msg_number v.mat l)) ≡ 1)
    (datas : List DataRow) (first_d' : Option DataLink) (spare_d' : ℕ) (free_d' : List ℕ) (drops : Drops v (row_at (msg_number v.mat l) v.rows).number datas first_d' spare_d' free_d') where
  abbrev i : ℕ
  i = msg_number v.mat l

  abbrev m : Msg
  m = found is l here

  abbrev others : List Msg
  others = without_in i b.hand

  abbrev r : Row
  r = record (row_at i v.rows) { next = option_map (msg_number v.mat) first_m }

  abbrev pub given_nodes : Nodes
  given_nodes = record v { rows = set v.rows i r; datas = datas }

  abbrev pub given_roster : Roster
  given_roster = record b { free_m = i ∷ b.free_m; free_d = free_d'; hand = others }

  inside : i < length v.rows
  inside = (here.0).0

  no-tail : m.tail ≡ []
  no-tail = empty m.tail (omega (arith, found-len is l here, single))

  sum-m : (g : ℕ → ℕ) → sum_by g (ids m) ≡ g i
  sum-m g = let c = sum_by-cons g m.head m.tail in let h = ap g (found-head is l here) in let t = ap (λ xs. sum_by g xs) no-tail in omega arith

  linked-first : breaks (next_of (set v.rows i r)) (Some i) (i ∷ b.free_m) ≡ 0
  unfolding breaks
  linked-first =
      let g = gap-self (Some i) in
      let e = ap (λ o. breaks (next_of (set v.rows i r)) o b.free_m) (relinking.next-new v i inside (option_map (msg_number v.mat) first_m)) in
      let a = relinking.free-old v i inside (option_map (msg_number v.mat) first_m) (option_map (msg_number v.mat) first_m) b.free_m (out-free is l here) in
      let c = is.linked_m in omega arith

  pub given-raw : IsRaw given_nodes (Some l) first_d' (spare_m + 1) spare_d' given_roster
  given-raw =
      let len = length-set v.rows i r in
      record {
        same = is.same;
        same_d = is.same_d;
        eight = is.eight;
        most_m = is.most_m;
        most_d = is.most_d;
        few_m = rw len is.few_m;
        few_d = rw drops.stock.len is.few_d;
        counted_m = let c = is.counted_m in let s = split is l here (λ m. length (ids m)) in let n = ap length no-tail in omega arith;
        counted_d = drops.stock.counted;
        owned_m = λ k. (let o = is.owned_m k in let s = split is l here (λ m. times k (ids m)) in let t = times-cons k i b.free_m in let p = sum-m (λ x. cond (eqb x k) 1 0) in let n = ap (λ n. is_there k n) len in omega arith);
        owned_d = drops.stock.owned;
        referenced = λ e. (
            let o = is.referenced e in let f = drops.fewer e in let s = split is l here (naming v.rows e) in let p = sum-m (λ x. cond (eqb (row_at x v.rows).number e) 1 0) in
            let w = weigh-same (naming (set v.rows i r) e) (naming v.rows e) (relinking.naming-same v i inside (option_map (msg_number v.mat) first_m) e) b.lists others in omega arith);
        bounded = λ e. (let o = is.bounded e in let f = drops.fewer e in omega arith);
        linked_m = linked-first;
        linked_d = drops.stock.linked;
        chained = let c = is.chained in let s = split is l here (broken v.rows) in let a = weigh-apart i (broken (set v.rows i r)) (broken v.rows) (relinking.broken-old v i inside (option_map (msg_number v.mat) first_m)) b.lists others (out-others is l here) in omega arith;
        straight = λ k. row-keeps askew v.rows i r inside refl k ∙ is.straight k;
        count_m = let c = is.count_m in let o = len in omega arith;
        count_d = drops.stock.count;
        there_m = (subst (λ n. i < n) (sym len) inside, (here.0).1);
        there_d = drops.stock.there;
      }

  pub given-value : value_of given_nodes given_roster ≡ dropped (value_of v b) (msg_number v.mat l)
  given-value = λ k. record {
    lists = maps-same (chain_of given_nodes) (chain_of v) (relinking.chain-same v i inside (option_map (msg_number v.mat) first_m) datas drops.stock.bytes) b.lists k;
    hand = (map-same (held_of given_nodes) (held_of v) (relinking.held-same v i inside (option_map (msg_number v.mat) first_m) datas drops.stock.bytes) others ∙ sym (without-value v i b.hand)) k;
    mblks = v.mblks;
    dblks = v.dblks;
  }

-- what giving up a reference leaves: data blocks with the bytes that they had, and with zeros where one is free
pub record Released (v v1 : Nodes) (b b1 : Roster) (number : ℕ) (first_d : Option DataLink) (spare_d : ℕ) : Type 0 where
  pub datas : List DataRow
  pub left : List DataRow
  pub free_d : List ℕ
  pub drops : Drops v number datas first_d spare_d free_d
  pub wipes : Wipes number datas left
  pub wiped : AreWiped v.datas → AreWiped left
  pub memory : v1 ≡ record v { datas = left }
  pub roster : b1 ≡ record b { free_d = free_d }

module _ {v : Nodes} {b : Roster} {first_m : Option MsgLink} {first_d : Option DataLink} {spare_m spare_d : ℕ} (is : IsRaw v first_m first_d spare_m spare_d b)
    (k : DataLink) (there : IsData v.dat (length v.datas) k) (some : 0 < (data_at (data_number v.dat k) v.datas).references) (v1 : Nodes) (b1 : Roster) (first' : Option DataLink) (spare' : ℕ) where
  abbrev n : ℕ
  n = data_number v.dat k

  -- the block as it is freed, with its bytes and with zeros, and with one reference less
  abbrev kept : DataRow
  kept = record { next = option_map (data_number v.dat) first_d; references = 0; bytes = (data_at n v.datas).bytes }

  abbrev gone : DataRow
  gone = record kept { bytes = no_bytes }

  abbrev fewer-one : DataRow
  fewer-one = record (data_at n v.datas) { references = (data_at n v.datas).references - 1 }

  there-now : data_at n (set v.datas n kept) ≡ kept
  there-now = get_or-set_same v.datas n kept no_data there.0

  pub released : GivesLast v v1 b b1 k first_d first' spare_d spare' ⊎ GivesOne v v1 b b1 k first_d first' spare_d spare' → Released v v1 b b1 n first' spare'
  released (inl g) = record {
    datas = set v.datas n kept;
    left = set v.datas n gone;
    free_d = n ∷ b.free_d;
    drops = subst (λ (x : Option DataLink × ℕ). Drops v n (set v.datas n kept) x.0 x.1 (n ∷ b.free_d)) (λ j. (sym g.first_is j, sym g.spare_is j)) (drops-last is k there kept refl (sym g.last) refl refl);
    wipes = inr (ap (λ (r : DataRow). r.references) there-now, sym (ap (λ (r : DataRow). set (set v.datas n kept) n (record r { bytes = no_bytes })) there-now ∙ set-set v.datas n kept gone));
    wiped = λ was. wiped-set v.datas n gone was (λ none. refl);
    memory = g.memory;
    roster = g.roster ∙ ap (λ dat. record b { free_d = data_number dat k ∷ b.free_d }) is.same_d;
  }
  released (inr g) = record {
    datas = set v.datas n fewer-one;
    left = set v.datas n fewer-one;
    free_d = b.free_d;
    drops = subst (λ (x : Option DataLink × ℕ). Drops v n (set v.datas n fewer-one) x.0 x.1 b.free_d) (λ j. (sym g.first_is j, sym g.spare_is j)) (let m = g.more in drops-one is k there fewer-one refl (omega arith) (omega arith));
    wipes = inl refl;
    wiped = λ was. wiped-named v.datas n fewer-one was (let m = g.more in omega arith);
    memory = g.memory;
    roster = g.roster;
  }
