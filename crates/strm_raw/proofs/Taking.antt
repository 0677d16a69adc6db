-- What a message block and a data block that are taken leave of a store.
use Rattle.std.proofs.Common.{ℕ, ◌≡◌, ◌≢◌, ◌≤◌, ◌<◌, ◌+◌, ◌-◌, cond, eqb, List, [], ◌∷◌, length, drop, get_or, map, refl, sym, ap, ◌∙◌, subst, arith, inl, inr}
use Rattle.std.proofs.Math.ListN.{set, length-set}
use Rattle.std.specs.Prelude.{sum_by, Option, None, Some, option_map}
use Rattle.std.proofs.lemmas.Bool.Decides.{nat_tests}
use Rattle.std.proofs.lemmas.Bool.{cases_eq}
use Rattle.std.proofs.lemmas.List.{get_or-set_same, get_or-set_other}
use Rattle.std.proofs.lemmas.List.Sums.{sum_by-cons}
use Rattle.strm_raw.specs.Links.{place}
use Rattle.strm_raw.specs.MsgNodes as messages
use Rattle.strm_blocks.specs.Blocks.{Block, Held, times_in, references, held, IsFreshName, free_m, free_d}
use Rattle.strm_raw.specs.Numbered.{Nodes, Row, DataRow, row_at, data_at, no_row, msg_number, data_number, IsMsgOrNone, IsDataOrNone}
use Rattle.strm_raw.specs.Roster.{Msg, Roster}
use Rattle.strm_raw.specs.Raw.{weigh, ids, times, chain_of, held_of, block_no, shown, value_of, naming, breaks, broken, gap, IsRaw, next_of, free_after, is_there, askew}
use Rattle.strm_raw.specs.declared.msg_nodes.MsgLink.{MsgLink}
use Rattle.strm_raw.specs.declared.data_nodes.DataLink.{DataLink}
use Rattle.strm_raw.specs.Lists.{AreListed}
use Rattle.strm_raw.specs.declared.neighbours.KeptEnds.{KeptEnds}
use Rattle.strm_raw.proofs.Becoming.{Becomes, row-becomes}
use Rattle.strm_raw.proofs.Apart.{apart-head, times-cons, times-self, sum-apart, map-apart, breaks-apart, hand-apart, lists-apart, weigh-apart}
use Rattle.strm_raw.proofs.Stocking.{Stocked, stocked, references-at, free-kept, shown-kept}
use Rattle.strm_raw.proofs.Standing.{begun, free_m-value, free_d-value, stored}

-- a name that no message in hand has, as its node belongs to none
fresh-name : (v : Nodes) (i : ℕ) (hand : List Msg) → sum_by (λ m. times i (ids m)) hand ≡ 0 → times_in i (map (held_of v) hand) ≡ 0
fresh-name v i [] z = refl
fresh-name v i (m ∷ hand) z =
    let s = sum_by-cons (λ (m : Msg). times i (ids m)) m hand in
    let c = sum_by-cons (λ (h : Held). cond (eqb h.name i) 1 0) (held_of v m) (map (held_of v) hand) in
    let other = apart-head i m.head m.tail (omega arith) in
    let n : cond {A = ℕ} (eqb m.head i) 1 0 ≡ 0 = grind (arith, nat_tests) in
    let ih = fresh-name v i hand (omega arith) in
    omega arith

module _ {v : Nodes} {b : Roster} {first_m : Option MsgLink} {first_d : Option DataLink} {spare_m spare_d : ℕ} (is : IsRaw v first_m first_d spare_m spare_d b) where
  -- a free message block stands in no chain, and once among the free ones
  module _ (l : MsgLink) (eq : first_m ≡ Some l) where
    abbrev i : ℕ
    i = msg_number v.mat l

    pub first-m : (rest : List ℕ) × ((b.free_m ≡ i ∷ rest) × (breaks (next_of v.rows) (next_of v.rows i) rest ≡ 0))
    first-m = begun (next_of v.rows) i b.free_m (ap (λ (o : Option MsgLink). breaks (next_of v.rows) (option_map (msg_number v.mat) o) b.free_m) (sym eq) ∙ is.linked_m)

    pub place-m : (i < length v.rows) × (l.at ≡ place messages.node_size v.mat i)
    place-m = subst (λ (o : Option MsgLink). IsMsgOrNone v.mat (length v.rows) o) eq is.there_m

    pub alone-m : (times i first-m.0 ≡ 0) × (weigh (λ m. times i (ids m)) b.lists b.hand ≡ 0)
    alone-m =
        let o = is.owned_m i in let t = ap (λ xs. times i xs) first-m.1.0 ∙ times-self i first-m.0 in let p = place-m.0 in
        (grind (arith, nat_tests), grind (arith, nat_tests))

  module _ (k : DataLink) (eq : first_d ≡ Some k) where
    abbrev d : ℕ
    d = data_number v.dat k

    pub first-d : (rest : List ℕ) × ((b.free_d ≡ d ∷ rest) × (breaks (free_after v.datas) (free_after v.datas d) rest ≡ 0))
    first-d = begun (free_after v.datas) d b.free_d (ap (λ (o : Option DataLink). breaks (free_after v.datas) (option_map (data_number v.dat) o) b.free_d) (sym eq) ∙ is.linked_d)

    pub place-d : d < length v.datas
    place-d = (subst (λ (o : Option DataLink). IsDataOrNone v.dat (length v.datas) o) eq is.there_d).0

    pub alone-d : (times d first-d.0 ≡ 0) × ((data_at d v.datas).references ≡ 0)
    alone-d =
        let o = is.owned_d d in let t = ap (λ xs. times d xs) first-d.1.0 ∙ times-self d first-d.0 in let p = place-d in
        (grind (arith, nat_tests), grind (arith, nat_tests))

-- A free message block gets a row, and stands in hand as a message of its own, where its data block has one reference
-- more and the data blocks are otherwise in order.
pub record Refers (v : Nodes) (number : ℕ) (datas : List DataRow) (first_d : Option DataLink) (spare_d : ℕ) (free_d : List ℕ) : Type 0 where
  pub stock : Stocked v datas first_d spare_d free_d
  pub more : (e : ℕ) → (data_at e datas).references ≡ (data_at e v.datas).references + cond (eqb number e) 1 0
  pub bounded : (e : ℕ) → (data_at e datas).references ≤ 255

module _ {v : Nodes} {b : Roster} {first_m : Option MsgLink} {first_d : Option DataLink} {spare_m spare_d : ℕ} (is : IsRaw v first_m first_d spare_m spare_d b)
    (l : MsgLink) (eq : first_m ≡ Some l) (r : Row) (ends : r.next ≡ None) (straight : askew r ≡ 0)
    (next_m : Option MsgLink) (next_is : option_map (msg_number v.mat) next_m ≡ next_of v.rows (msg_number v.mat l)) (next_there : IsMsgOrNone v.mat (length v.rows) next_m)
    (datas : List DataRow) (first_d' : Option DataLink) (spare_d' : ℕ) (free_d' : List ℕ) (refers : Refers v r.number datas first_d' spare_d' free_d') where
  abbrev n : ℕ
  n = msg_number v.mat l

  abbrev pub with_new : Nodes
  with_new = record v { rows = set v.rows n r; datas = datas }

  abbrev pub roster_new : Roster
  roster_new = record b { free_m = drop 1 b.free_m; free_d = free_d'; hand = record { head = get_or b.free_m 0 0; tail = [] } ∷ b.hand }

  first-is : get_or b.free_m 0 0 ≡ n
  first-is = ap (λ xs. get_or xs 0 0) (first-m is l eq).1.0

  others-are : drop 1 b.free_m ≡ (first-m is l eq).0
  others-are = ap (λ xs. drop 1 xs) (first-m is l eq).1.0

  row-new : row_at n (set v.rows n r) ≡ r
  row-new = get_or-set_same v.rows n r no_row (place-m is l eq).0

  row-old : (j : ℕ) → j ≢ n → row_at j (set v.rows n r) ≡ row_at j v.rows
  row-old j other = get_or-set_other v.rows n j r no_row other

  block-old : (j : ℕ) → j ≢ n → block_no with_new j ≡ block_no v j
  block-old j other = ap (λ (x : Row). shown datas x) (row-old j other) ∙ shown-kept v.datas datas refers.stock.bytes (row_at j v.rows)

  next-old : (j : ℕ) → j ≢ n → next_of (set v.rows n r) j ≡ next_of v.rows j
  next-old j other = ap (λ (x : Row). x.next) (row-old j other)

  chain-old : (m : Msg) → times n (ids m) ≡ 0 → chain_of with_new m ≡ chain_of v m
  chain-old m z = map-apart n (block_no with_new) (block_no v) block-old (ids m) z

  held-old : (m : Msg) → times n (ids m) ≡ 0 → held_of with_new m ≡ held_of v m
  held-old m z = ap (λ (c : List Block). record { name = m.head; chain = c }) (chain-old m z)

  broken-old : (m : Msg) → times n (ids m) ≡ 0 → broken (set v.rows n r) m ≡ broken v.rows m
  broken-old m z =
      ap (λ o. breaks (next_of (set v.rows n r)) o m.tail) (next-old m.head (Rattle.strm_raw.proofs.Apart.apart-head n m.head m.tail z))
      ∙ breaks-apart n (next_of v.rows) (next_of (set v.rows n r)) next-old (next_of v.rows m.head) m.tail (Rattle.strm_raw.proofs.Apart.apart-tail n m.head m.tail z)

  naming-old : (e : ℕ) (m : Msg) → times n (ids m) ≡ 0 → naming (set v.rows n r) e m ≡ naming v.rows e m
  naming-old e m z = sum-apart n _ _ (λ j other. ap (λ (x : Row). cond {A = ℕ} (eqb x.number e) 1 0) (row-old j other)) (ids m) z

  zero-lists : sum_by (λ q. sum_by (λ m. times n (ids m)) q) b.lists ≡ 0
  zero-lists = omega (arith, (alone-m is l eq).1)

  zero-hand : sum_by (λ m. times n (ids m)) b.hand ≡ 0
  zero-hand = omega (arith, (alone-m is l eq).1)

  abbrev new_msg : Msg
  new_msg = record { head = get_or b.free_m 0 0; tail = [] }

  weigh-more : (f : Msg → ℕ) → weigh f b.lists (new_msg ∷ b.hand) ≡ weigh f b.lists b.hand + f new_msg
  weigh-more f = omega (arith, sum_by-cons f new_msg b.hand)

  naming-new : (e : ℕ) → naming (set v.rows n r) e new_msg ≡ cond (eqb r.number e) 1 0
  naming-new e =
      let c = sum_by-cons (λ j. cond (eqb (row_at j (set v.rows n r)).number e) 1 0) (get_or b.free_m 0 0) [] in
      let at : cond {A = ℕ} (eqb (row_at (get_or b.free_m 0 0) (set v.rows n r)).number e) 1 0 ≡ cond (eqb r.number e) 1 0 =
      ap (λ j. cond {A = ℕ} (eqb (row_at j (set v.rows n r)).number e) 1 0) first-is ∙ ap (λ (x : Row). cond {A = ℕ} (eqb x.number e) 1 0) row-new in
      omega arith

  broken-new : broken (set v.rows n r) new_msg ≡ 0
  unfolding breaks
  broken-new =
      let at : next_of (set v.rows n r) (get_or b.free_m 0 0) ≡ None = ap (λ j. next_of (set v.rows n r) j) first-is ∙ ap (λ (x : Row). x.next) row-new ∙ ends in
      ap (λ o. gap o None) at

  straight-all : (j : ℕ) → askew (row_at j (set v.rows n r)) ≡ 0
  straight-all j = elim (cases_eq j n) [
    | inl e ↦ ap (λ k. askew (row_at k (set v.rows n r))) e ∙ ap (λ (x : Row). askew x) row-new ∙ straight
    | inr other ↦ ap (λ (x : Row). askew x) (row-old j other) ∙ is.straight j
  ]

  added : IsRaw with_new next_m first_d' (spare_m - 1) spare_d' roster_new
  added =
      let rest = (first-m is l eq).0 in
      let free = (first-m is l eq).1.0 in
      let len = length-set v.rows n r in
      record {
        same = is.same;
        same_d = is.same_d;
        eight = is.eight;
        most_m = is.most_m;
        most_d = is.most_d;
        few_m = rw len is.few_m;
        few_d = rw refers.stock.len is.few_d;
        counted_m = let c = is.counted_m in let w = weigh-more (λ m. length (ids m)) in let a = ap length free in let o = ap length others-are in omega arith;
        counted_d = refers.stock.counted;
        owned_m = λ j. (
            let o = is.owned_m j in let w = weigh-more (λ m. times j (ids m)) in
            let a = ap (λ xs. times j xs) free ∙ times-cons j n rest in
            let d = ap (λ xs. times j xs) others-are in
            let t = times-cons j (get_or b.free_m 0 0) [] in
            let s : cond {A = ℕ} (eqb (get_or b.free_m 0 0) j) 1 0 ≡ cond (eqb n j) 1 0 = ap (λ k. cond {A = ℕ} (eqb k j) 1 0) first-is in
            let i = ap (λ k. is_there j k) len in
            omega arith);
        owned_d = refers.stock.owned;
        referenced = λ e. (
            let o = is.referenced e in let m = refers.more e in let w = weigh-more (naming (set v.rows n r) e) in let x = naming-new e in
            let s = weigh-apart n (naming (set v.rows n r) e) (naming v.rows e) (naming-old e) b.lists b.hand (alone-m is l eq).1 in
            omega arith);
        bounded = refers.bounded;
        linked_m =
            (λ j. breaks (next_of (set v.rows n r)) (next_is j) (others-are j))
            ∙ breaks-apart n (next_of v.rows) (next_of (set v.rows n r)) next-old (next_of v.rows n) rest (alone-m is l eq).0
            ∙ (first-m is l eq).1.1;
        linked_d = refers.stock.linked;
        chained = let c = is.chained in let w = weigh-more (broken (set v.rows n r)) in let x = broken-new in let s = weigh-apart n (broken (set v.rows n r)) (broken v.rows) broken-old b.lists b.hand (alone-m is l eq).1 in omega arith;
        straight = straight-all;
        count_m = let c = is.count_m in let le = is.few_m in let l = len in let a = ap length free in let o = ap length others-are in omega arith;
        count_d = refers.stock.count;
        there_m = rw len next_there;
        there_d = refers.stock.there;
      }

  added-value : value_of with_new roster_new ≡ held (value_of v b) (msg_number v.mat l) (shown datas r ∷ [])
  added-value =
      let name = first-is in
      let block : block_no with_new (get_or b.free_m 0 0) ≡ shown datas r = ap (λ j. block_no with_new j) first-is ∙ ap (λ (x : Row). shown datas x) row-new in
      λ j. record {
        lists = lists-apart (λ m. times n (ids m)) (chain_of with_new) (chain_of v) chain-old b.lists zero-lists j;
        hand = record { name = name j; chain = block j ∷ [] } ∷ hand-apart (λ m. times n (ids m)) (held_of with_new) (held_of v) held-old b.hand zero-hand j;
        mblks = v.mblks;
        dblks = v.dblks;
      }

  pub added-becomes : {ends : List KeptEnds} (old : List DataRow) → AreListed (record v { datas = old }) ends b → (value_of v b).lists ≡ (value_of (record v { datas = old }) b).lists → (v' : Nodes) (b' : Roster) → v' ≡ with_new → b' ≡ roster_new → r.ahead ≡ (row_at n v.rows).ahead → r.behind ≡ (row_at n v.rows).behind
      → Becomes v' ends b' next_m first_d' (spare_m - 1) spare_d' (held (value_of v b) n (shown datas r ∷ []))
  added-becomes old listed same v' b' nodes roster ahead behind = row-becomes listed v' with_new b' roster_new nodes roster added refl n (place-m is l eq).0 r ahead behind refl refl _ added-value same

  pub added-fresh : IsFreshName (value_of v b) (msg_number v.mat l)
  added-fresh = fresh-name v n b.hand zero-hand

  pub added-room : 0 < free_m (value_of v b)
  added-room = let f = free_m-value v b is in let c = is.count_m in let le = is.few_m in let a = ap length (first-m is l eq).1.0 in omega arith

-- a free data block gets its first reference
module _ {v : Nodes} {b : Roster} {first_m : Option MsgLink} {first_d : Option DataLink} {spare_m spare_d : ℕ} (is : IsRaw v first_m first_d spare_m spare_d b)
    (k : DataLink) (eq : first_d ≡ Some k) (x : DataRow) (one : x.references ≡ 1) (same : x.bytes ≡ (data_at (data_number v.dat k) v.datas).bytes)
    (next_d : Option DataLink) (next_is : option_map (data_number v.dat) next_d ≡ free_after v.datas (data_number v.dat k)) (next_there : IsDataOrNone v.dat (length v.datas) next_d) where
  abbrev dn : ℕ
  dn = data_number v.dat k

  pub refers-first : Refers v dn (set v.datas dn x) next_d (spare_d - 1) (drop 1 b.free_d)
  refers-first =
      let within = place-d is k eq in
      let none = (alone-d is k eq).1 in
      let rest = (first-d is k eq).0 in
      let free = (first-d is k eq).1.0 in
      let others : drop 1 b.free_d ≡ rest = ap (λ xs. drop 1 xs) free in
      let long = ap length free in let less = ap length others in
      let counts : (e : ℕ) → times e b.free_d ≡ cond (eqb dn e) 1 0 + times e (drop 1 b.free_d) = λ e. (let c = ap (λ xs. times e xs) free ∙ times-cons e dn rest in let o = ap (λ xs. times e xs) others in omega arith) in
      let self : cond {A = ℕ} (eqb dn dn) 1 0 ≡ 1 = grind (arith, nat_tests) in
      record {
        stock = stocked is dn within x same 1 0 (grind (arith, nat_tests)) (grind (arith, nat_tests)) next_d (spare_d - 1) (drop 1 b.free_d) (let c = counts dn in omega arith) (λ e other. (let c = counts e in grind (arith, nat_tests))) (omega arith)
            ((λ j. breaks (free_after (set v.datas dn x)) (next_is j) (others j)) ∙ free-kept is dn within x same (free_after v.datas dn) rest (alone-d is k eq).0 ∙ (first-d is k eq).1.1)
            (let c = is.count_d in let le = is.few_d in omega arith) next_there;
        more = λ e. (let r = references-at is dn within x same e in elim (cases_eq e dn) [
          | inl i ↦ (let o = ap (λ j. (data_at j v.datas).references) i ∙ none in grind (arith, nat_tests))
          | inr n ↦ grind (arith, nat_tests)
        ]);
        bounded = λ e. (let r = references-at is dn within x same e in let o = is.bounded e in grind (arith, nat_tests));
      }

  pub fresh-number : references (value_of v b) dn ≡ 0
  fresh-number = stored v b is dn ∙ (alone-d is k eq).1

  pub room-d : 0 < free_d (value_of v b)
  room-d = let f = free_d-value v b is in let c = is.count_d in let le = is.few_d in let a = ap length (first-d is k eq).1.0 in omega arith

-- a data block that has references gets one more
module _ {v : Nodes} {b : Roster} {first_m : Option MsgLink} {first_d : Option DataLink} {spare_m spare_d : ℕ} (is : IsRaw v first_m first_d spare_m spare_d b)
    (dn : ℕ) (within : dn < length v.datas) (some : 0 < (data_at dn v.datas).references) (few : (data_at dn v.datas).references < 255)
    (x : DataRow) (more : x.references ≡ (data_at dn v.datas).references + 1) (same : x.bytes ≡ (data_at dn v.datas).bytes) where
  pub refers-more : Refers v dn (set v.datas dn x) first_d spare_d b.free_d
  refers-more =
      let out : times dn b.free_d ≡ 0 = (let o = is.owned_d dn in grind (arith, nat_tests)) in
      record {
        stock = stocked is dn within x same 1 1 (grind (arith, nat_tests)) (grind (arith, nat_tests)) first_d spare_d b.free_d refl (λ e other. refl) refl (free-kept is dn within x same (option_map (data_number v.dat) first_d) b.free_d out ∙ is.linked_d) is.count_d is.there_d;
        more = λ e. (let r = references-at is dn within x same e in elim (cases_eq e dn) [
          | inl i ↦ (let o = ap (λ j. (data_at j v.datas).references) i in grind (arith, nat_tests))
          | inr n ↦ grind (arith, nat_tests)
        ]);
        bounded = λ e. (let r = references-at is dn within x same e in let o = is.bounded e in grind (arith, nat_tests));
      }
