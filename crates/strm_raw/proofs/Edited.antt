-- A block of a message in hand that shows something else.
use Rattle.std.proofs.Common.{ℕ, ◌≡◌, ◌≢◌, ◌≤◌, ◌<◌, ◌+◌, ◌-◌, true, false, cond, eqb, min, List, [], ◌∷◌, length, get_or, take, drop, map, refl, sym, ap, ◌∙◌, subst, arith, inl, inr}
use Rattle.std.proofs.Math.ListN.{set, length-set}
use Rattle.std.specs.Prelude.{sum_by, count_by, Option, option_map}
use Rattle.std.proofs.lemmas.Bool.Decides.{nat_tests}
use Rattle.std.proofs.lemmas.Bool.{cases_eq}
use Rattle.std.proofs.lemmas.List.{get_or-set_same, get_or-set_other, drop_min}
use Rattle.std.proofs.lemmas.List.Sums.{sum_by-cons, get_or-le-sum_by}
use Rattle.strm_blocks.specs.Blocks.{Block, StoreValue, in_hand, block_at, changed, with_block, with_chain, trimmed_head, trimmed_tail}
use Rattle.strm_blocks.proofs.Shown.{length-range, shown-head, shown-tail}
use Rattle.strm_raw.specs.Changes.{changed_by, node_by}
use Rattle.strm_raw.specs.Numbered.{Nodes, Row, DataRow, row_at, row_of, data_at, no_row, msg_number, with_row}
use Rattle.strm_raw.specs.Roster.{Msg, Roster}
use Rattle.strm_raw.specs.Raw.{weigh, ids, times, chain_of, held_of, block_no, shown, value_of, breaks, IsRaw, IsHere, next_of, is_there, askew, msg_in, without_in, heads}
use Rattle.strm_raw.specs.Lists.{AreListed}
use Rattle.strm_raw.specs.declared.neighbours.KeptEnds.{KeptEnds}
use Rattle.strm_raw.specs.declared.changes.Change.{Change}
use Rattle.strm_raw.specs.declared.changes.Change.TheVariants.{Head, Tail, Kind, Band}
use Rattle.strm_raw.specs.declared.msg_nodes.MsgLink.{MsgLink}
use Rattle.strm_raw.specs.declared.msg_nodes.MsgNode.{MsgNode}
use Rattle.strm_raw.specs.declared.data_nodes.DataLink.{DataLink}
use Rattle.strm_raw.proofs.Apart.{hand-apart, lists-apart, map-none, map-one}
use Rattle.strm_raw.proofs.Finding.{sum-without, found, found-some, found-chain, found-len, found-block}
use Rattle.strm_raw.proofs.Relinking.{row-keeps}
use Rattle.strm_raw.proofs.Becoming.{Becomes, row-becomes}

-- what leads on from a message block: to the next one, to its data block and to its neighbours on a list
abbrev pub links : Row → Option ℕ × ℕ × Option ℕ × Option ℕ
links r = (r.next, r.number, r.ahead, r.behind)

-- how many bytes a block shows
pub shown-len : (datas : List DataRow) (r : Row) → askew r ≡ 0 → length (data_at r.number datas).bytes ≡ 256 → length (shown datas r).bytes ≡ r.end - r.start
shown-len datas r straight sized = length-range (data_at r.number datas).bytes r.start r.end (omega arith) (omega arith)

-- the read place moved on, and the write place moved back
module _ (datas : List DataRow) (r : Row) (straight : askew r ≡ 0) (sized : length (data_at r.number datas).bytes ≡ 256) (n m : ℕ) (few : m ≡ min n (r.end - r.start)) where
  abbrev xs : List ℕ
  xs = (shown datas r).bytes

  long : length xs ≡ r.end - r.start
  long = shown-len datas r straight sized

  pub head-is : shown datas (record r { start = r.start + m }) ≡ trimmed_head n (shown datas r)
  head-is =
      let most : m ≡ min n (length xs) = omega (arith, long) in
      ap (λ (bytes : List ℕ). record (shown datas r) { bytes = bytes }) (shown-head (data_at r.number datas).bytes r.start r.end m (omega arith) ∙ ap (λ j. drop j xs) most ∙ drop_min n xs)

  pub tail-is : shown datas (record r { end = r.end - m }) ≡ trimmed_tail n (shown datas r)
  tail-is =
      let left : length xs - m ≡ length xs - n = omega (arith, long) in
      let bytes = shown-tail (data_at r.number datas).bytes r.start r.end m (omega arith) (omega arith) (omega arith) ∙ ap (λ j. take j xs) left in
      let room : 256 - (r.end - m) ≡ 256 - r.end + min n (length xs) = omega (arith, long) in
      λ k. record (shown datas r) { bytes = bytes k; room = room k }

-- a call that changes a block keeps its links and the order of its places
pub changes : (v : Nodes) (change : Change) (node : MsgNode) → let r = row_of v.mat v.dat node in askew r ≡ 0 → length (data_at r.number v.datas).bytes ≡ 256 → (m : ℕ) → m ≡ length (shown v.datas r).bytes
    → let r' = row_of v.mat v.dat (node_by change m node) in (links r' ≡ links r) × ((askew r' ≡ 0) × (shown v.datas r' ≡ changed_by change (shown v.datas r)))
changes v (Head n) node straight sized m all = let len = shown-len v.datas (row_of v.mat v.dat node) straight sized in (refl, (omega arith, head-is v.datas (row_of v.mat v.dat node) straight sized n (min n m) (omega arith)))
changes v (Tail n) node straight sized m all = let len = shown-len v.datas (row_of v.mat v.dat node) straight sized in (refl, (omega arith, tail-is v.datas (row_of v.mat v.dat node) straight sized n (min n m) (omega arith)))
changes v (Kind kind) node straight sized m all = (refl, (straight, refl))
changes v (Band band) node straight sized m all = (refl, (straight, refl))

-- the hand where one message shows another chain
module _ (h : Msg → ℕ) (v v' : Nodes) (same : (m : Msg) → h m ≡ 0 → chain_of v' m ≡ chain_of v m) (i : ℕ) where
  held-same : (m : Msg) → h m ≡ 0 → held_of v' m ≡ held_of v m
  held-same m z = ap (λ (c : List Block). record { name = m.head; chain = c }) (same m z)

  hand-changed : (q : List Msg) → 0 < heads i q → sum_by h (without_in i q) ≡ 0 → map (held_of v') q ≡ with_chain i (chain_of v' (msg_in i q)) (map (held_of v) q)
  hand-changed [] some z = absurd (omega arith)
  hand-changed (m ∷ q) some z =
      let s = sum_by-cons (λ (m : Msg). cond (eqb m.head i) 1 0) m q in
      elim (eqb m.head i) as (λ b. (cond b 1 0 + heads i q ≡ heads i (m ∷ q)) → sum_by h (cond b q (m ∷ without_in i q)) ≡ 0
      → held_of v' m ∷ map (held_of v') q ≡ cond b (record (held_of v m) { chain = chain_of v' (cond b m (msg_in i q)) } ∷ map (held_of v) q) (held_of v m ∷ with_chain i (chain_of v' (cond b m (msg_in i q))) (map (held_of v) q))) [
        | true ↦ (λ e z. λ k. held_of v' m ∷ hand-apart h (held_of v') (held_of v) held-same q z k)
        | false ↦ (λ e z. let c = sum_by-cons h m (without_in i q) in λ k. held-same m (omega arith) k ∷ hand-changed q (omega arith) (omega arith) k)
      ] (sym s) z

module _ {v : Nodes} {b : Roster} {first_m : Option MsgLink} {first_d : Option DataLink} {spare_m spare_d : ℕ} (is : IsRaw v first_m first_d spare_m spare_d b) where
  -- a row with the same link and the same data block in the place of another one
  module _ (t : ℕ) (within : t < length v.rows) (r : Row) (next : r.next ≡ (row_at t v.rows).next) (number : r.number ≡ (row_at t v.rows).number) (straight : askew r ≡ 0) where
    next-same : next_of (set v.rows t r) ≡ next_of v.rows
    next-same = λ k j. row-keeps (λ (x : Row). x.next) v.rows t r within next j k

    straight-all : (j : ℕ) → askew (row_at j (set v.rows t r)) ≡ 0
    straight-all j = elim (cases_eq j t) [
      | inl e ↦ ap (λ k. askew (row_at k (set v.rows t r))) e ∙ ap (λ (x : Row). askew x) (get_or-set_same v.rows t r no_row within) ∙ straight
      | inr other ↦ ap (λ (x : Row). askew x) (get_or-set_other v.rows t j r no_row other) ∙ is.straight j
    ]

    pub row-raw : IsRaw (with_row t r v) first_m first_d spare_m spare_d b
    row-raw =
        let len = length-set v.rows t r in
        record {
          same = is.same;
          same_d = is.same_d;
          eight = is.eight;
          most_m = is.most_m;
          most_d = is.most_d;
          few_m = rw len is.few_m;
          few_d = is.few_d;
          counted_m = is.counted_m ∙ sym len;
          counted_d = is.counted_d;
          owned_m = λ j. is.owned_m j ∙ ap (λ n. is_there j n) (sym len);
          owned_d = is.owned_d;
          referenced = λ d. is.referenced d
              ∙ ap (λ (f : ℕ → ℕ). weigh (λ m. count_by (λ j. eqb (f j) d) (ids m)) b.lists b.hand) (λ k j. sym (row-keeps (λ (x : Row). x.number) v.rows t r within number j) k);
          bounded = is.bounded;
          linked_m = ap (λ (f : ℕ → Option ℕ). breaks f (option_map (msg_number v.mat) first_m) b.free_m) next-same ∙ is.linked_m;
          linked_d = is.linked_d;
          chained = ap (λ (f : ℕ → Option ℕ). weigh (λ m. breaks f (f m.head) m.tail) b.lists b.hand) next-same ∙ is.chained;
          straight = straight-all;
          count_m = rw len is.count_m;
          count_d = is.count_d;
          there_m = rw len is.there_m;
          there_d = is.there_d;
        }

  module _ (l : MsgLink) (here : IsHere v b l) (at : ℕ) (within : at < length (ids (found is l here))) where
    abbrev i : ℕ
    i = msg_number v.mat l

    -- which block it is
    abbrev pub block : ℕ
    block = get_or (ids (found is l here)) at 0

    -- all blocks that count are this one, and the others show the same
    pub one-changed : (hit : ℕ → ℕ) → 0 < hit block → weigh (λ m. sum_by hit (ids m)) b.lists b.hand ≤ 1
        → (v' : Nodes) → v'.mblks ≡ v.mblks → v'.dblks ≡ v.dblks → ((j : ℕ) → hit j ≡ 0 → block_no v' j ≡ block_no v j)
        → value_of v' b ≡ changed (value_of v b) i (with_block at (block_no v' block) (in_hand (value_of v b) i))
    one-changed hit hits few v' mblks dblks same =
        let h : Msg → ℕ = λ m. sum_by hit (ids m) in
        let m = found is l here in
        let w = sum-without i h b.hand (found-some is l here) in
        let le = get_or-le-sum_by hit (ids m) at 0 within in
        let chains : (m : Msg) → h m ≡ 0 → chain_of v' m ≡ chain_of v m = λ m z. map-none hit (block_no v') (block_no v) same (ids m) z in
        let chain : chain_of v' m ≡ with_block at (block_no v' block) (in_hand (value_of v b) i) =
        map-one hit (block_no v') (block_no v) same (ids m) at within hits (omega arith) ∙ ap (λ c. with_block at (block_no v' block) c) (sym (found-chain is l here)) in
        λ k. record {
          lists = lists-apart h (chain_of v') (chain_of v) chains b.lists (omega arith) k;
          hand = (hand-changed h v v' chains i b.hand (found-some is l here) (omega arith) ∙ ap (λ c. with_chain i c (map (held_of v) b.hand)) chain) k;
          mblks = mblks k;
          dblks = dblks k;
        }

    once : 0 < times block (ids (found is l here))
    once = let le = get_or-le-sum_by (λ j. cond (eqb j block) 1 0) (ids (found is l here)) at 0 within in let s : cond {A = ℕ} (eqb block block) 1 0 ≡ 1 = grind (arith, nat_tests) in omega arith

    pub block-there : block < length v.rows
    block-there = let o = is.owned_m block in let w = sum-without i (λ m. times block (ids m)) b.hand (found-some is l here) in let e = once in grind (arith, nat_tests)

    apart : (j : ℕ) → cond {A = ℕ} (eqb j block) 1 0 ≡ 0 → j ≢ block
    apart j z = grind (arith, nat_tests)

    pub row-changed : (r : Row) → value_of (with_row block r v) b ≡ changed (value_of v b) i (with_block at (shown v.datas r) (in_hand (value_of v b) i))
    row-changed r =
        let o = is.owned_m block in let p = block-there in let e = once in
        let few : weigh (λ m. times block (ids m)) b.lists b.hand ≤ 1 = grind (arith, nat_tests) in
        let hits : 0 < cond {A = ℕ} (eqb block block) 1 0 = grind (arith, nat_tests) in
        one-changed (λ j. cond (eqb j block) 1 0) hits few (with_row block r v) refl refl
        (λ j z. ap (λ (x : Row). shown v.datas x) (get_or-set_other v.rows block j r no_row (apart j z)))
        ∙ ap (λ (x : Row). changed (value_of v b) i (with_block at (shown v.datas x) (in_hand (value_of v b) i))) (get_or-set_same v.rows block r no_row block-there)

-- a message in hand of a store, and a link to one of its blocks
module _ {v : Nodes} {b : Roster} {first_m : Option MsgLink} {first_d : Option DataLink} {spare_m spare_d : ℕ} (is : IsRaw v first_m first_d spare_m spare_d b)
    {s : StoreValue} (view : value_of v b ≡ s) (l : MsgLink) (here : IsHere v b l) {n : ℕ} (name : msg_number v.mat l ≡ n) (at : ℕ) (within : at < length (in_hand s n))
    (link : MsgLink) (number : at < length (ids (found is l here)) → msg_number v.mat link ≡ get_or (ids (found is l here)) at 0) where
  pub inside : at < length (ids (found is l here))
  inside = let w = subst (λ (x : StoreValue × ℕ). at < length (in_hand x.0 x.1)) (λ j. (sym view j, sym name j)) within in let len = found-len is l here in omega arith

  pub link-is : msg_number v.mat link ≡ block is l here at inside
  link-is = number inside

  pub block-is : block_at at (in_hand s n) ≡ block_no v (msg_number v.mat link)
  block-is =
      (λ j. block_at at (in_hand (sym view j) (sym name j)))
      ∙ found-block is l here at (omega (arith, found-len is l here, inside))
      ∙ ap (λ k. block_no v k) (sym link-is)

  -- where another row with the same links is written there, which shows another block
  pub edited : {ends : List KeptEnds} → AreListed v ends b → (v' : Nodes) (old r : Row) → old ≡ row_at (msg_number v.mat link) v.rows → links r ≡ links old → askew r ≡ 0
      → v' ≡ with_row (msg_number v.mat link) r v → (f : Block → Block) → shown v.datas r ≡ f (shown v.datas old) → Becomes v' ends b first_m first_d spare_m spare_d (changed s n (with_block at (f (block_at at (in_hand s n))) (in_hand s n)))
  edited listed v' old r row same straight written f shows =
      let t = block is l here at inside in let there = block-there is l here at inside in
      let kept = same ∙ ap links (row ∙ ap (λ k. row_at k v.rows) link-is) in
      let becomes = ap f (ap (λ (x : Row). shown v.datas x) row ∙ sym block-is) in
      row-becomes listed _ _ _ _ (written ∙ ap (λ k. with_row k r v) link-is) refl (row-raw is t there r (λ j. (kept j).0) (λ j. (kept j).1) straight) refl t there r (λ j. (kept j).2) (λ j. (kept j).3) refl refl _
      (row-changed is l here at inside r ∙ (λ j. changed (view j) (name j) (with_block at ((shows ∙ becomes) j) (in_hand (view j) (name j))))) (sym (ap (λ (x : StoreValue). x.lists) view))
