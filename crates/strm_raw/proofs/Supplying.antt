-- What a block that is made leaves of a store: all that it was, and one more block that is linked as free.
use Rattle.std.proofs.Common.{ℕ, ◌≡◌, ◌≤◌, ◌<◌, ◌+◌, cond, eqb, List, [], ◌∷◌, ◌++◌, length, map, refl, sym, ap, ◌∙◌, subst, arith}
use Rattle.std.specs.Prelude.{Option, None, Some, count_by}
use Rattle.std.proofs.lemmas.Bool.Decides.{nat_tests}
use Rattle.std.proofs.lemmas.List.{get_or_past}
use Rattle.std.proofs.lemmas.List.Sums.{sum_by_push}
use Rattle.strm_types.specs.Ranked as ranked
use Rattle.strm_blocks.specs.Blocks.{StoreValue, rank_of, list_at}
use Rattle.strm_raw.specs.Numbered.{Nodes, Row, DataRow, row_at, data_at, no_row, no_data, msg_number, data_number, IsMsg, IsData}
use Rattle.strm_raw.specs.Roster.{Msg, Roster}
use Rattle.strm_raw.specs.Raw.{weigh, ids, times, chain_of, block_no, shown, value_of, breaks, gap, IsRaw, next_of, free_after, is_there, askew}
use Rattle.strm_raw.specs.Made.{GivesMessage, GivesData, given_message}
use Rattle.strm_raw.specs.Lists.{AreListed, IsTied, on, back, ahead_of, behind_of, ends_at, queue_at}
use Rattle.strm_raw.specs.declared.neighbours.KeptEnds.{KeptEnds}
use Rattle.strm_raw.specs.declared.msg_nodes.MsgLink.{MsgLink}
use Rattle.strm_raw.specs.declared.data_nodes.DataLink.{DataLink}
use Rattle.strm_raw.proofs.Apart.{gap-self, times-cons}
use Rattle.strm_raw.proofs.Becoming.{Becomes}
use Rattle.strm_raw.proofs.Made.{more-same, more-len, msg-more}
use Rattle.strm_raw.proofs.Relinking.{map-ext}
use Rattle.strm_raw.proofs.Standing.{empty, none-m, none-d}
use Rattle.strm_raw.proofs.Stocking.{shown-kept}

-- a link to a number that leads to none
one-linked : (next : ℕ → Option ℕ) (i j : ℕ) → i ≡ j → next j ≡ None → breaks next (Some i) (j ∷ []) ≡ 0
unfolding breaks
one-linked next i j same none =
    let g = gap-self (Some j) in
    let e : breaks next (Some i) (j ∷ []) ≡ gap (Some j) (Some j) + gap None None = λ k. gap (Some (same k)) (Some j) + gap (none k) None in
    omega arith

-- what a store is, where its message blocks count as they did
module _ (v : Nodes) (b : Roster) (rows : List Row) (same : (i : ℕ) → row_at i rows ≡ row_at i v.rows) (datas : List DataRow) (alike : (e : ℕ) → data_at e datas ≡ data_at e v.datas) where
  abbrev pub w : Nodes
  w = record v { rows = rows; datas = datas }

  chains-same : chain_of w ≡ chain_of v
  chains-same = λ j m. map-ext (block_no w) (block_no v) (λ i. shown-kept v.datas datas (λ e. ap (λ (r : DataRow). r.bytes) (alike e)) (row_at i rows) ∙ ap (λ (r : Row). shown v.datas r) (same i)) (ids m) j

  pub value-same : (b' : Roster) → b'.lists ≡ b.lists → b'.hand ≡ b.hand → value_of w b' ≡ value_of v b
  value-same b' lists hand = λ j. record {
    lists = map (λ q. map (chains-same j) q) (lists j);
    hand = map (λ (m : Msg). record { name = m.head; chain = chains-same j m }) (hand j);
    mblks = v.mblks;
    dblks = v.dblks;
  }

  ahead-same : ahead_of rows ≡ ahead_of v.rows
  ahead-same = λ j i. (same i j).ahead

  behind-same : behind_of rows ≡ behind_of v.rows
  behind-same = λ j i. (same i j).behind

  pub listed-same : {ends : List KeptEnds} → AreListed v ends b → length v.rows ≤ length rows → (b' : Roster) → b'.lists ≡ b.lists → b'.hand ≡ b.hand → AreListed w ends b'
  listed-same {ends = ends} listed le b' lists hand = record {
    eight = listed.eight;
    first = λ k. msg-more _ _ le v.mat (ends_at k ends).first (listed.first k);
    last = λ k. msg-more _ _ le v.mat (ends_at k ends).last (listed.last k);
    tied = λ k. subst (λ (x : (ℕ → Option ℕ) × (ℕ → Option ℕ) × List (List Msg)). IsTied (on v.mat x.0 (ends_at k ends)) (back v.mat x.1 (ends_at k ends)) None (queue_at k x.2)) (λ j. (sym ahead-same j, sym behind-same j, sym lists j)) (listed.tied k);
    counted = λ k. listed.counted k ∙ ap (λ lists. length (queue_at k lists)) (sym lists);
    ordered = λ k. subst (λ (s : StoreValue). ranked.IsOrdered rank_of (list_at s k)) (sym (value-same b' lists hand)) (listed.ordered k);
  }

module _ {v : Nodes} {b : Roster} {first_m : Option MsgLink} {first_d : Option DataLink} {spare_m spare_d : ℕ} (is : IsRaw v first_m first_d spare_m spare_d b) where
  -- where blocks are free and none is linked, not all are made
  pub room-m : first_m ≡ None → 0 < spare_m → length v.rows < v.mblks
  room-m none some = let z = none-m v b is none in let c = is.count_m in omega arith

  pub room-d : first_d ≡ None → 0 < spare_d → length v.datas < v.dblks
  room-d none some = let z = none-d v b is none in let c = is.count_d in omega arith

  -- one message block more
  module _ (none : first_m ≡ None) (room : length v.rows < v.mblks) (l : MsgLink) (there : IsMsg v.mat (length v.rows + 1) l) (number : msg_number v.mat l ≡ length v.rows) where
    abbrev rows : List Row
    rows = v.rows ++ no_row ∷ []

    same : (i : ℕ) → row_at i rows ≡ row_at i v.rows
    same = more-same v.rows no_row

    len : length rows ≡ length v.rows + 1
    len = more-len v.rows no_row

    none-free : b.free_m ≡ []
    none-free = empty b.free_m (none-m v b is none)

    next-same : next_of rows ≡ next_of v.rows
    next-same = λ j i. (same i j).next

    abbrev number_of : List Row → ℕ → ℕ
    number_of rows i = (row_at i rows).number

    number-same : number_of rows ≡ number_of v.rows
    number-same = λ j i. (same i j).number

    made-m : IsRaw (record v { rows = rows }) (Some l) first_d spare_m spare_d (record b { free_m = length v.rows ∷ [] })
    made-m =
        let no_free = ap length none-free in
        record {
          same = is.same;
          same_d = is.same_d;
          eight = is.eight;
          most_m = is.most_m;
          most_d = is.most_d;
          few_m = omega (arith, len);
          few_d = is.few_d;
          counted_m = let c = is.counted_m in omega (arith, len);
          counted_d = is.counted_d;
          owned_m = λ i. (let o = is.owned_m i in let z = ap (λ xs. times i xs) none-free in let t = times-cons i (length v.rows) [] in let n = ap (λ n. is_there i n) len in grind (arith, nat_tests));
          owned_d = is.owned_d;
          referenced = λ d. is.referenced d ∙ sym (ap (λ (f : ℕ → ℕ). weigh (λ m. count_by (λ i. eqb (f i) d) (ids m)) b.lists b.hand) number-same);
          bounded = is.bounded;
          linked_m = one-linked (next_of rows) (msg_number v.mat l) (length v.rows) number (ap (λ (r : Row). r.next) (same (length v.rows) ∙ get_or_past v.rows (length v.rows) no_row (omega arith)));
          linked_d = is.linked_d;
          chained = ap (λ (f : ℕ → Option ℕ). weigh (λ m. breaks f (f m.head) m.tail) b.lists b.hand) next-same ∙ is.chained;
          straight = λ i. ap (λ (r : Row). askew r) (same i) ∙ is.straight i;
          count_m = let c = is.count_m in omega (arith, len);
          count_d = is.count_d;
          there_m = subst (λ n. IsMsg v.mat n l) (sym len) there;
          there_d = is.there_d;
        }

    pub makes-m : {ends : List KeptEnds} → AreListed v ends b → (v' : Nodes) (b' : Roster) → v' ≡ record v { rows = rows } → b' ≡ given_message l b → Becomes v' ends b' (Some l) first_d spare_m spare_d (value_of v b)
    makes-m {ends = ends} listed v' b' nodes given =
        let roster : b' ≡ record b { free_m = length v.rows ∷ [] } = given ∙ (λ j. record b { free_m = (ap (λ mat. msg_number mat l) is.same ∙ number) j ∷ none-free j }) in
        record {
          raw = subst (λ (x : Nodes × Roster). IsRaw x.0 (Some l) first_d spare_m spare_d x.1) (λ j. (sym nodes j, sym roster j)) made-m;
          listed = subst (λ (x : Nodes × Roster). AreListed x.0 ends x.1) (λ j. (sym nodes j, sym roster j)) (listed-same v b rows same v.datas (λ e. refl) listed (omega (arith, len)) (record b { free_m = length v.rows ∷ [] }) refl refl);
          value = (λ j. value_of (nodes j) (roster j)) ∙ value-same v b rows same v.datas (λ e. refl) (record b { free_m = length v.rows ∷ [] }) refl refl;
        }

  -- one data block more
  module _ (none : first_d ≡ None) (room : length v.datas < v.dblks) (k : DataLink) (there : IsData v.dat (length v.datas + 1) k) (number : data_number v.dat k ≡ length v.datas) where
    abbrev datas : List DataRow
    datas = v.datas ++ no_data ∷ []

    alike : (e : ℕ) → data_at e datas ≡ data_at e v.datas
    alike = more-same v.datas no_data

    len-d : length datas ≡ length v.datas + 1
    len-d = more-len v.datas no_data

    none-data : b.free_d ≡ []
    none-data = empty b.free_d (none-d v b is none)

    past : data_at (length v.datas) v.datas ≡ no_data
    past = get_or_past v.datas (length v.datas) no_data (omega arith)

    made-d : IsRaw (record v { datas = datas }) first_m (Some k) spare_m spare_d (record b { free_d = length v.datas ∷ [] })
    made-d =
        let no_free = ap length none-data in
        record {
          same = is.same;
          same_d = is.same_d;
          eight = is.eight;
          most_m = is.most_m;
          most_d = is.most_d;
          few_m = is.few_m;
          few_d = omega (arith, len-d);
          counted_m = is.counted_m;
          counted_d = let c = is.counted_d in omega (arith, sum_by_push (λ (r : DataRow). cond (eqb r.references 0) 1 0) v.datas no_data);
          owned_m = is.owned_m;
          owned_d = λ e. (
              let o = is.owned_d e in let z = ap (λ xs. times e xs) none-data in let t = times-cons e (length v.datas) [] in let n = ap (λ n. is_there e n) len-d in
              let s = ap (λ (r : DataRow). cond {A = ℕ} (eqb r.references 0) 0 1) (alike e) in grind (arith, nat_tests));
          referenced = λ e. ap (λ (r : DataRow). r.references) (alike e) ∙ is.referenced e;
          bounded = λ e. (let s = ap (λ (r : DataRow). r.references) (alike e) in let o = is.bounded e in omega arith);
          linked_m = is.linked_m;
          linked_d = one-linked (free_after datas) (data_number v.dat k) (length v.datas) number (ap (λ (r : DataRow). r.next) (alike (length v.datas) ∙ past));
          chained = is.chained;
          straight = is.straight;
          count_m = is.count_m;
          count_d = let c = is.count_d in omega (arith, len-d);
          there_m = is.there_m;
          there_d = subst (λ n. IsData v.dat n k) (sym len-d) there;
        }

    pub makes-d : {ends : List KeptEnds} → AreListed v ends b → (v' : Nodes) (b' : Roster) → v' ≡ record v { datas = datas } → b' ≡ record b { free_d = data_number b.dat k ∷ b.free_d } → Becomes v' ends b' first_m (Some k) spare_m spare_d (value_of v b)
    makes-d {ends = ends} listed v' b' nodes given =
        let roster : b' ≡ record b { free_d = length v.datas ∷ [] } = given ∙ (λ j. record b { free_d = (ap (λ dat. data_number dat k) is.same_d ∙ number) j ∷ none-data j }) in
        record {
          raw = subst (λ (x : Nodes × Roster). IsRaw x.0 first_m (Some k) spare_m spare_d x.1) (λ j. (sym nodes j, sym roster j)) made-d;
          listed = subst (λ (x : Nodes × Roster). AreListed x.0 ends x.1) (λ j. (sym nodes j, sym roster j)) (listed-same v b v.rows (λ i. refl) datas alike listed (omega arith) (record b { free_d = length v.datas ∷ [] }) refl refl);
          value = (λ j. value_of (nodes j) (roster j)) ∙ value-same v b v.rows (λ i. refl) datas alike (record b { free_d = length v.datas ∷ [] }) refl refl;
        }

-- a free block is given out next, where one is free
pub gives-m : {v v' : Nodes} {b b' : Roster} {ends : List KeptEnds} {first_m : Option MsgLink} {first_d : Option DataLink} {spare_m spare_d : ℕ} {s : StoreValue} {l : MsgLink} → Becomes v ends b first_m first_d spare_m spare_d s → 0 < spare_m
    → GivesMessage v v' b b' first_m l → Becomes v' ends b' (Some l) first_d spare_m spare_d s
gives-m {v = v} {v' = v'} {b = b} {b' = b'} {ends = ends} {first_m = None} {l = l} was some g =
    let d = makes-m was.raw refl (room-m was.raw refl some) l g.there g.number was.listed v' b' g.nodes g.roster in
    record { raw = d.raw; listed = d.listed; value = d.value ∙ was.value }
gives-m {ends = ends} {first_m = Some first} {first_d = first_d} {spare_m = spare_m} {spare_d = spare_d} was some g = record {
  raw = subst (λ (x : Nodes × Roster × MsgLink). IsRaw x.0 (Some x.2) first_d spare_m spare_d x.1) (λ j. (sym g.nodes j, sym g.roster j, sym g.link j)) was.raw;
  listed = subst (λ (x : Nodes × Roster). AreListed x.0 ends x.1) (λ j. (sym g.nodes j, sym g.roster j)) was.listed;
  value = (λ j. value_of (g.nodes j) (g.roster j)) ∙ was.value;
}

pub gives-d : {v v' : Nodes} {b b' : Roster} {ends : List KeptEnds} {first_m : Option MsgLink} {first_d : Option DataLink} {spare_m spare_d : ℕ} {s : StoreValue} {k : DataLink} → Becomes v ends b first_m first_d spare_m spare_d s → 0 < spare_d
    → GivesData v v' b b' first_d k → Becomes v' ends b' first_m (Some k) spare_m spare_d s
gives-d {v = v} {v' = v'} {b = b} {b' = b'} {ends = ends} {first_d = None} {k = k} was some g =
    let d = makes-d was.raw refl (room-d was.raw refl some) k g.there g.number was.listed v' b' g.nodes g.roster in
    record { raw = d.raw; listed = d.listed; value = d.value ∙ was.value }
gives-d {ends = ends} {first_m = first_m} {first_d = Some first} {spare_m = spare_m} {spare_d = spare_d} was some g = record {
  raw = subst (λ (x : Nodes × Roster × DataLink). IsRaw x.0 first_m (Some x.2) spare_m spare_d x.1) (λ j. (sym g.nodes j, sym g.roster j, sym g.link j)) was.raw;
  listed = subst (λ (x : Nodes × Roster). AreListed x.0 ends x.1) (λ j. (sym g.nodes j, sym g.roster j)) was.listed;
  value = (λ j. value_of (g.nodes j) (g.roster j)) ∙ was.value;
}
