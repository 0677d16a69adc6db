-- A message that is put on a list, and one that is taken off it.
use Rattle.std.proofs.Common.{ℕ, ◌≡◌, ◌≢◌, ◌≤◌, ◌<◌, ◌+◌, ◌-◌, true, false, cond, eqb, List, [], ◌∷◌, ◌++◌, length, map, refl, sym, ap, ◌∙◌, subst, arith}
use Rattle.std.proofs.Math.ListN.{set}
use Rattle.std.specs.Prelude.{sum_by, Option, None, Some, option_map, unwrap_or}
use Rattle.std.specs.List.{AllByRecursion}
use Rattle.std.proofs.lemmas.Bool.Decides.{nat_tests}
use Rattle.std.proofs.lemmas.List.{append_assoc, length-append, map-append, get_or-set_same}
use Rattle.std.proofs.lemmas.List.Sums.{sum_by-cons, sum_by-append}
use Rattle.strm_types.specs.declared.limits.TheConstants.{LISTS}
use Rattle.strm_types.specs.Ranked as ranked
use Rattle.strm_blocks.specs.Blocks.{Block, rank_of, list_at, held, dropped, placed, IsFreshName}
use Rattle.strm_raw.specs.Numbered.{Nodes, Row, row_at, msg_number, IsMsgOrNone}
use Rattle.strm_raw.specs.Roster.{Msg, Roster}
use Rattle.strm_raw.specs.Raw.{chain_of, value_of, IsRaw, IsHere, heads, msg_in, without_in}
use Rattle.strm_raw.specs.Lists.{AreListed, end_of, begin_of, IsList, IsTied, Ties, Seats, Unseats, on, back, plain, kept, ends_at, queue_at, ahead_of, behind_of, seat_in, unseated, seated}
use Rattle.strm_raw.specs.declared.neighbours.Ends.{Ends}
use Rattle.strm_raw.specs.declared.neighbours.KeptEnds.{KeptEnds}
use Rattle.strm_raw.specs.declared.msg_nodes.MsgLink.{MsgLink}
use Rattle.strm_raw.specs.declared.data_nodes.DataLink.{DataLink}
use Rattle.strm_raw.proofs.Becoming.{Becomes}
use Rattle.strm_raw.proofs.Finding.{found-head, found-some, sum-without, times-heads, without-value}
use Rattle.strm_raw.proofs.Tied.{heads-cons, heads-append, list-behind, list-ahead, tied-in, tied-out, off-end, off-begin, some-none}
use Rattle.strm_raw.proofs.Moved.{once-queue, apart-queues, apart-hand, apart-lists, queue-value, moved-raw, moved-value, moved-chains, moved-listed}

-- members that are left are in order
module _ {A : Type 0} (rank : A → ℕ) (m : A) (ys : List A) where
  all-without : (bound : ℕ) (xs : List A) → AllByRecursion (λ x. rank x ≤ bound) (xs ++ m ∷ ys) → AllByRecursion (λ x. rank x ≤ bound) (xs ++ ys)
  all-without bound [] all = all.1
  all-without bound (x ∷ xs) all = (all.0, all-without bound xs all.1)

  order-without : (xs : List A) → ranked.IsOrdered rank (xs ++ m ∷ ys) → ranked.IsOrdered rank (xs ++ ys)
  order-without [] o = o.1
  order-without (x ∷ xs) o = (all-without (rank x) xs o.0, order-without xs o.1)

-- the message of a list that begins with a block, and the others
module _ (m : Msg) (ys : List Msg) where
  pub msg-between : (xs : List Msg) → heads m.head xs ≡ 0 → msg_in m.head (xs ++ m ∷ ys) ≡ m
  msg-between [] z = let yes : eqb m.head m.head ≡ true = grind (arith, nat_tests) in ap (λ t. cond t m (msg_in m.head ys)) yes
  msg-between (x ∷ xs) z =
      let c = heads-cons m.head x xs in let no : eqb x.head m.head ≡ false = grind (arith, nat_tests) in
      ap (λ t. cond t x (msg_in m.head (xs ++ m ∷ ys))) no ∙ msg-between xs (omega arith)

  pub without-between : (xs : List Msg) → heads m.head xs ≡ 0 → without_in m.head (xs ++ m ∷ ys) ≡ xs ++ ys
  without-between [] z = let yes : eqb m.head m.head ≡ true = grind (arith, nat_tests) in ap (λ t. cond t ys (m ∷ without_in m.head ys)) yes
  without-between (x ∷ xs) z =
      let c = heads-cons m.head x xs in let no : eqb x.head m.head ≡ false = grind (arith, nat_tests) in
      ap (λ t. cond t (xs ++ m ∷ ys) (x ∷ without_in m.head (xs ++ m ∷ ys))) no ∙ ap (λ r. x ∷ r) (without-between xs (omega arith))

-- the place in front of a message, and that behind all
pub seat-last : (j : ℕ) (x : Msg) (q : List Msg) → heads j q ≡ 0 → seat_in j x q ≡ q ++ x ∷ []
seat-last j x [] z = refl
seat-last j x (m ∷ q) z =
    let c = heads-cons j m q in let no : eqb m.head j ≡ false = grind (arith, nat_tests) in
    ap (λ t. cond t (x ∷ m ∷ q) (m ∷ seat_in j x q)) no ∙ ap (λ r. m ∷ r) (seat-last j x q (omega arith))

pub seat-before : (x y : Msg) (xs ys : List Msg) → heads y.head xs ≡ 0 → seat_in y.head x (xs ++ y ∷ ys) ≡ xs ++ x ∷ y ∷ ys
seat-before x y [] ys z = let yes : eqb y.head y.head ≡ true = grind (arith, nat_tests) in ap (λ t. cond t (x ∷ y ∷ ys) (y ∷ seat_in y.head x ys)) yes
seat-before x y (m ∷ xs) ys z =
    let c = heads-cons y.head m xs in let no : eqb m.head y.head ≡ false = grind (arith, nat_tests) in
    ap (λ t. cond t (x ∷ m ∷ (xs ++ y ∷ ys)) (m ∷ seat_in y.head x (xs ++ y ∷ ys))) no ∙ ap (λ r. m ∷ r) (seat-before x y xs ys (omega arith))

module _ {v : Nodes} {ends : List KeptEnds} {b : Roster} {first_m : Option MsgLink} {first_d : Option DataLink} {spare_m spare_d : ℕ} (is : IsRaw v first_m first_d spare_m spare_d b) (listed : AreListed v ends b)
    (k : ℕ) (within : k < LISTS) where
  -- one that is on the list is taken off it
  module _ (xs : List Msg) (m : Msg) (ys : List Msg) (shape : queue_at k b.lists ≡ xs ++ m ∷ ys)
      (rows : List Row) (e : Ends) (ties : Ties v.mat v.rows rows (ends_at k ends) e (behind_of v.rows m.head) (ahead_of v.rows m.head))
      (count : e.count ≡ (ends_at k ends).count - 1) (first : IsMsgOrNone v.mat (length v.rows) e.first) (last : IsMsgOrNone v.mat (length v.rows) e.last) where
    once : (i : ℕ) → heads i (xs ++ m ∷ ys) ≤ 1
    once i = subst (λ (q : List Msg). heads i q ≤ 1) shape (once-queue is i k)

    some : 0 < heads m.head (queue_at k b.lists)
    some = let h = heads-append m.head xs (m ∷ ys) in let c = heads-cons m.head m ys in let s = ap (λ q. heads m.head q) shape in grind (arith, nat_tests)

    front : heads m.head xs ≡ 0
    front = let o = once m.head in let h = heads-append m.head xs (m ∷ ys) in let c = heads-cons m.head m ys in grind (arith, nat_tests)

    old : IsList v (ends_at k ends) (xs ++ m ∷ ys)
    old = subst (λ (q : List Msg). IsList v (ends_at k ends) q) shape (listed.tied k)

    -- its neighbours
    back-is : behind_of v.rows m.head ≡ end_of None xs
    back-is = list-behind v (ends_at k ends) xs m ys old

    on-is : ahead_of v.rows m.head ≡ begin_of ys
    on-is = list-ahead v (ends_at k ends) xs m ys old

    tied : Ties v.mat v.rows rows (ends_at k ends) e (end_of None xs) (begin_of ys)
    tied = subst (λ (x : Option ℕ × Option ℕ). Ties v.mat v.rows rows (ends_at k ends) e x.0 x.1) (λ j. (back-is j, on-is j)) ties

    all : (f : Msg → ℕ) → sum_by f (xs ++ ys) + sum_by f (m ∷ b.hand) ≡ sum_by f (queue_at k b.lists) + sum_by f b.hand
    all f =
        let s = ap (λ q. sum_by f q) shape in let a = sum_by-append f xs (m ∷ ys) in let c = sum_by-append f xs ys in
        omega (arith, sum_by-cons f m ys, sum_by-cons f m b.hand)

    pub off-raw : IsRaw (record v { rows = rows }) first_m first_d spare_m spare_d (record b { lists = set b.lists k (xs ++ ys); hand = m ∷ b.hand })
    off-raw = moved-raw is listed k within rows tied.len tied.plain (xs ++ ys) (m ∷ b.hand) all

    chains : map (chain_of v) (queue_at k b.lists) ≡ map (chain_of v) xs ++ chain_of v m ∷ map (chain_of v) ys
    chains = ap (λ q. map (chain_of v) q) shape ∙ map-append (chain_of v) xs (m ∷ ys)

    pub off-shape : list_at (value_of v b) k ≡ map (chain_of v) xs ++ chain_of v m ∷ map (chain_of v) ys
    off-shape = queue-value v b.lists k ∙ chains

    pub off-value : value_of (record v { rows = rows }) (record b { lists = set b.lists k (xs ++ ys); hand = m ∷ b.hand }) ≡ held (placed (value_of v b) k (map (chain_of v) xs ++ map (chain_of v) ys)) m.head (chain_of v m)
    off-value =
        moved-value is listed k within rows tied.len tied.plain (xs ++ ys) (m ∷ b.hand) all
        ∙ ap (λ (q : List (List Block)). held (placed (value_of v b) k q) m.head (chain_of v m)) (map-append (chain_of v) xs ys)

    pub off-fresh : IsFreshName (value_of v b) m.head
    off-fresh = times-heads v m.head b.hand ∙ apart-hand is m.head k some

    off-order : ranked.IsOrdered rank_of (map (chain_of v) (xs ++ ys))
    off-order = subst (λ (q : List (List Block)). ranked.IsOrdered rank_of q) (sym (map-append (chain_of v) xs ys))
        (order-without rank_of (chain_of v m) (map (chain_of v) ys) (map (chain_of v) xs) (subst (λ (q : List (List Block)). ranked.IsOrdered rank_of q) off-shape (listed.ordered k)))

    fewer : e.count ≡ length (xs ++ ys)
    fewer = omega (arith, count, listed.counted k, ap length shape, length-append xs (m ∷ ys), length-append xs ys)

    -- the other lists have none of its neighbours
    none-here : (i j : ℕ) → j ≢ k → 0 < heads i (queue_at j b.lists) → heads i (xs ++ m ∷ ys) ≡ 0
    none-here i j other s = ap (λ q. heads i q) (sym shape) ∙ apart-queues is i j k other s

    pub off-listed : AreListed (record v { rows = rows }) (set ends k (kept e)) (record b { lists = set b.lists k (xs ++ ys); hand = m ∷ b.hand })
    off-listed = moved-listed is listed k within rows tied.len tied.plain (xs ++ ys) (m ∷ b.hand) all e first last
        (tied-out (on v.mat (ahead_of v.rows) (ends_at k ends)) (back v.mat (behind_of v.rows) (ends_at k ends)) (on v.mat (ahead_of rows) e) (back v.mat (behind_of rows) e) m None xs ys tied.on_at tied.back_at tied.on_else tied.back_else once refl old) fewer off-order
        (λ i j other s. (let z = none-here i j other s in let h = heads-append i xs (m ∷ ys) in tied.on_else (Some i) (λ e. off-end None (Some i) xs (λ n. some-none i (sym n)) (omega arith) (sym e))))
        (λ i j other s. (let z = none-here i j other s in let h = heads-append i xs (m ∷ ys) in let c = heads-cons i m ys in tied.back_else (Some i) (off-begin i ys (omega arith))))

    -- so does a call that takes it off
    module _ {v' : Nodes} {ends' : List KeptEnds} {b' : Roster} (l : MsgLink) (name : m.head ≡ msg_number v.mat l) (nodes : v' ≡ record v { rows = rows }) (ends_are : ends' ≡ set ends k (kept e)) (roster_is : b' ≡ unseated k l b) where
      roster : b' ≡ record b { lists = set b.lists k (xs ++ ys); hand = m ∷ b.hand }
      roster =
          let i : msg_number b.mat l ≡ m.head = ap (λ mat. msg_number mat l) is.same ∙ sym name in
          roster_is
          ∙ (λ j. record b { lists = set b.lists k (without_in (i j) (shape j)); hand = msg_in (i j) (shape j) ∷ b.hand })
          ∙ (λ j. record b { lists = set b.lists k (without-between m ys xs front j); hand = msg-between m ys xs front j ∷ b.hand })

      pub unseated-becomes : Becomes v' ends' b' first_m first_d spare_m spare_d (held (placed (value_of v b) k (map (chain_of v) xs ++ map (chain_of v) ys)) (msg_number v.mat l) (chain_of v m))
      unseated-becomes = record {
        raw = subst (λ (x : Nodes × Roster). IsRaw x.0 first_m first_d spare_m spare_d x.1) (λ j. (sym nodes j, sym roster j)) off-raw;
        listed = subst (λ (x : Nodes × List KeptEnds × Roster). AreListed x.0 x.1 x.2) (λ j. (sym nodes j, sym ends_are j, sym roster j)) off-listed;
        value = (λ j. value_of (nodes j) (roster j)) ∙ off-value ∙ ap (λ n. held (placed (value_of v b) k (map (chain_of v) xs ++ map (chain_of v) ys)) n (chain_of v m)) name;
      }

      pub unseated-queue : queue_at k b'.lists ≡ xs ++ ys
      unseated-queue = ap (λ (x : Roster). queue_at k x.lists) roster ∙ get_or-set_same b.lists k (xs ++ ys) [] (let e = is.eight in omega arith)

      pub unseated-chains : chain_of v' ≡ chain_of v
      unseated-chains = ap (λ (w : Nodes). chain_of w) nodes ∙ moved-chains is listed k within rows tied.len tied.plain (xs ++ ys) (m ∷ b.hand) all

      pub unseated-fresh : IsFreshName (value_of v b) (msg_number v.mat l)
      unseated-fresh = subst (λ n. IsFreshName (value_of v b) n) name off-fresh

  -- one that is in hand is put on it
  module _ (l : MsgLink) (here : IsHere v b l) (xs ys : List Msg) (shape : queue_at k b.lists ≡ xs ++ ys)
      (rows : List Row) (e : Ends) (seats : Seats v.mat v.rows rows (ends_at k ends) e (end_of None xs) (msg_number v.mat l) (begin_of ys))
      (first : IsMsgOrNone v.mat (length v.rows) e.first) (last : IsMsgOrNone v.mat (length v.rows) e.last)
      (order : ranked.IsOrdered rank_of (map (chain_of v) (xs ++ msg_in (msg_number v.mat l) b.hand ∷ ys))) where
    abbrev i : ℕ
    i = msg_number v.mat l

    abbrev x : Msg
    x = msg_in i b.hand

    name : x.head ≡ i
    name = found-head is l here

    once-in : (j : ℕ) → heads j (xs ++ ys) ≤ 1
    once-in j = subst (λ (q : List Msg). heads j q ≤ 1) shape (once-queue is j k)

    off : heads i (xs ++ ys) ≡ 0
    off = ap (λ q. heads i q) (sym shape) ∙ apart-lists is i k (found-some is l here)

    off-xs : heads i xs ≡ 0
    off-xs = let h = heads-append i xs ys in let o = off in omega arith

    off-ys : heads i ys ≡ 0
    off-ys = let h = heads-append i xs ys in let o = off in omega arith

    -- its place isn't that before it, nor that behind it
    not-before : Some i ≢ end_of None xs
    not-before = λ e. off-end None (Some i) xs (λ n. some-none i (sym n)) off-xs (sym e)

    not-behind : Some i ≢ begin_of ys
    not-behind = off-begin i ys off-ys

    len : length rows ≡ length v.rows
    len = seats.rear.len ∙ seats.front.len

    same : (j : ℕ) → plain (row_at j rows) ≡ plain (row_at j v.rows)
    same j = seats.rear.plain j ∙ seats.front.plain j

    all-in : (f : Msg → ℕ) → sum_by f (xs ++ x ∷ ys) + sum_by f (without_in i b.hand) ≡ sum_by f (queue_at k b.lists) + sum_by f b.hand
    all-in f =
        let s = ap (λ q. sum_by f q) shape in let a = sum_by-append f xs (x ∷ ys) in let c = sum_by-append f xs ys in let w = sum-without i f b.hand (found-some is l here) in
        omega (arith, sum_by-cons f x ys)

    on-else : (p : Option ℕ) → p ≢ end_of None xs → p ≢ Some i → on v.mat (ahead_of rows) e p ≡ on v.mat (ahead_of v.rows) (ends_at k ends) p
    on-else p before here = seats.rear.on_else p here ∙ seats.front.on_else p before

    back-else : (p : Option ℕ) → p ≢ begin_of ys → p ≢ Some i → back v.mat (behind_of rows) e p ≡ back v.mat (behind_of v.rows) (ends_at k ends) p
    back-else p behind here = seats.rear.back_else p behind ∙ seats.front.back_else p here

    tied-here : IsTied (on v.mat (ahead_of rows) e) (back v.mat (behind_of rows) e) None (xs ++ x ∷ ys)
    tied-here =
        let at = ap (λ (n : ℕ). Some n) name in
        tied-in (on v.mat (ahead_of v.rows) (ends_at k ends)) (back v.mat (behind_of v.rows) (ends_at k ends)) (on v.mat (ahead_of rows) e) (back v.mat (behind_of rows) e) x None xs ys
        (seats.rear.on_else (end_of None xs) (λ e. not-before (sym e)) ∙ seats.front.on_at ∙ sym at)
        (ap (λ p. back v.mat (behind_of rows) e p) at ∙ seats.rear.back_else (Some i) not-behind ∙ seats.front.back_at)
        (ap (λ p. on v.mat (ahead_of rows) e p) at ∙ seats.rear.on_at)
        (seats.rear.back_at ∙ sym at)
        (λ p before here. on-else p before (λ s. here (s ∙ sym at)))
        (λ p behind here. back-else p behind (λ s. here (s ∙ sym at)))
        once-in refl (ap (λ n. heads n (xs ++ ys)) name ∙ off) (λ n. some-none x.head (sym n))
        (subst (λ (q : List Msg). IsList v (ends_at k ends) q) shape (listed.tied k))

    pub on-raw : IsRaw (record v { rows = rows }) first_m first_d spare_m spare_d (record b { lists = set b.lists k (xs ++ x ∷ ys); hand = without_in i b.hand })
    on-raw = moved-raw is listed k within rows len same (xs ++ x ∷ ys) (without_in i b.hand) all-in

    pub on-value : value_of (record v { rows = rows }) (record b { lists = set b.lists k (xs ++ x ∷ ys); hand = without_in i b.hand }) ≡ placed (dropped (value_of v b) i) k (map (chain_of v) (xs ++ x ∷ ys))
    on-value =
        moved-value is listed k within rows len same (xs ++ x ∷ ys) (without_in i b.hand) all-in
        ∙ (λ j. record (placed (value_of v b) k (map (chain_of v) (xs ++ x ∷ ys))) { hand = sym (without-value v i b.hand) j })

    hand-elsewhere : (n j : ℕ) → 0 < heads n (queue_at j b.lists) → Some n ≢ Some i
    hand-elsewhere n j s e =
        let same : n ≡ i = ap (λ (o : Option ℕ). unwrap_or o 0) e in
        let z = apart-hand is n j s in let h = ap (λ m. heads m b.hand) same in let f = found-some is l here in absurd (omega arith)

    none-there : (n j : ℕ) → j ≢ k → 0 < heads n (queue_at j b.lists) → heads n (xs ++ ys) ≡ 0
    none-there n j other s = ap (λ q. heads n q) (sym shape) ∙ apart-queues is n j k other s

    more : e.count ≡ length (xs ++ x ∷ ys)
    more = omega (arith, seats.count, listed.counted k, ap length shape, length-append xs (x ∷ ys), length-append xs ys)

    pub on-listed : AreListed (record v { rows = rows }) (set ends k (kept e)) (record b { lists = set b.lists k (xs ++ x ∷ ys); hand = without_in i b.hand })
    on-listed = moved-listed is listed k within rows len same (xs ++ x ∷ ys) (without_in i b.hand) all-in e first last tied-here more order
        (λ n j other s. (let z = none-there n j other s in let h = heads-append n xs ys in on-else (Some n) (λ e. off-end None (Some n) xs (λ m. some-none n (sym m)) (omega arith) (sym e)) (hand-elsewhere n j s)))
        (λ n j other s. (let z = none-there n j other s in let h = heads-append n xs ys in back-else (Some n) (off-begin n ys (omega arith)) (hand-elsewhere n j s)))

-- what a call leaves that takes a message off a list
pub record TakenOff (v v' : Nodes) (ends' : List KeptEnds) (b b' : Roster) (first_m : Option MsgLink) (first_d : Option DataLink) (spare_m spare_d k i : ℕ) (xs : List Msg) (m : Msg) (ys : List Msg) : Type 0 where
  pub becomes : Becomes v' ends' b' first_m first_d spare_m spare_d (held (placed (value_of v b) k (map (chain_of v) xs ++ map (chain_of v) ys)) i (chain_of v m))
  pub fresh : IsFreshName (value_of v b) i
  pub shape : list_at (value_of v b) k ≡ map (chain_of v) xs ++ chain_of v m ∷ map (chain_of v) ys
  pub queue : queue_at k b'.lists ≡ xs ++ ys
  pub chains : chain_of v' ≡ chain_of v

pub taken-off : {v v' : Nodes} {ends ends' : List KeptEnds} {b b' : Roster} {first_m : Option MsgLink} {first_d : Option DataLink} {spare_m spare_d : ℕ} (is : IsRaw v first_m first_d spare_m spare_d b) (listed : AreListed v ends b)
    (k : ℕ) (within : k < LISTS) (l : MsgLink) (xs : List Msg) (m : Msg) (ys : List Msg) → queue_at k b.lists ≡ xs ++ m ∷ ys → m.head ≡ msg_number v.mat l → Unseats v v' ends ends' b b' k l
    → TakenOff v v' ends' b b' first_m first_d spare_m spare_d k (msg_number v.mat l) xs m ys
taken-off {v = v} {v' = v'} {ends = ends} is listed k within l xs m ys shape name u =
    let ties = subst (λ n. Ties v.mat v.rows v'.rows (ends_at k ends) u.after (behind_of v.rows n) (ahead_of v.rows n)) (sym name) u.tied in
    record {
      becomes = unseated-becomes is listed k within xs m ys shape v'.rows u.after ties u.count u.first u.last l name u.nodes u.ends_are u.roster_is;
      fresh = unseated-fresh is listed k within xs m ys shape v'.rows u.after ties u.count u.first u.last l name u.nodes u.ends_are u.roster_is;
      shape = off-shape is listed k within xs m ys shape v'.rows u.after ties u.count u.first u.last;
      queue = unseated-queue is listed k within xs m ys shape v'.rows u.after ties u.count u.first u.last l name u.nodes u.ends_are u.roster_is;
      chains = unseated-chains is listed k within xs m ys shape v'.rows u.after ties u.count u.first u.last l name u.nodes u.ends_are u.roster_is;
    }

-- a list with nothing on it
pub no-queue : (v : Nodes) (b : Roster) (k : ℕ) → queue_at k b.lists ≡ [] → list_at (value_of v b) k ≡ []
no-queue v b k e = queue-value v b.lists k ∙ ap (λ q. map (chain_of v) q) e

no-chain : (f : Msg → List Block) (q : List Msg) → map f q ≡ [] → q ≡ []
no-chain f [] e = refl
no-chain f (m ∷ q) e = absurd (let some : f m ∷ map f q ≡ [] = e in cc)

pub queue-none : (v : Nodes) (b : Roster) (k : ℕ) → list_at (value_of v b) k ≡ [] → queue_at k b.lists ≡ []
queue-none v b k e = no-chain (chain_of v) (queue_at k b.lists) (sym (queue-value v b.lists k) ∙ e)

-- where the roster puts a message
number-of-next : (f : MsgLink → ℕ) (o : Option MsgLink) (l : MsgLink) → f (unwrap_or o l) ≡ unwrap_or (option_map f o) (f l)
number-of-next f None l = refl
number-of-next f (Some k) l = refl

seat-is : (i : ℕ) (x : Msg) (xs ys : List Msg) → ((j : ℕ) → heads j (xs ++ ys) ≤ 1) → heads i (xs ++ ys) ≡ 0 → seat_in (unwrap_or (begin_of ys) i) x (xs ++ ys) ≡ xs ++ x ∷ ys
seat-is i x xs [] once off = seat-last i x (xs ++ []) off ∙ append_assoc xs [] (x ∷ [])
seat-is i x xs (y ∷ ys) once off =
    let o = once y.head in let h = heads-append y.head xs (y ∷ ys) in let c = heads-cons y.head y ys in
    seat-before x y xs ys (grind (arith, nat_tests))

-- what a call leaves that puts a message on a list
module _ {v v' : Nodes} {ends ends' : List KeptEnds} {b b' : Roster} {first_m : Option MsgLink} {first_d : Option DataLink} {spare_m spare_d : ℕ} (is : IsRaw v first_m first_d spare_m spare_d b) (listed : AreListed v ends b)
    (k : ℕ) (within : k < LISTS) (l : MsgLink) (here : IsHere v b l) (xs ys : List Msg) (shape : queue_at k b.lists ≡ xs ++ ys) where
  pub put-on : (e : Ends) (before after : Option ℕ) → before ≡ end_of None xs → after ≡ begin_of ys → Seats v.mat v.rows v'.rows (ends_at k ends) e before (msg_number v.mat l) after
      → IsMsgOrNone v.mat (length v.rows) e.first → IsMsgOrNone v.mat (length v.rows) e.last → v' ≡ record v { rows = v'.rows } → ends' ≡ set ends k (kept e)
      → (o : Option MsgLink) → option_map (msg_number v.mat) o ≡ after → (n : ℕ) → n ≡ msg_number v.mat l → b' ≡ seated k n (unwrap_or o l) b
      → (q : List (List Block)) → map (chain_of v) (xs ++ msg_in (msg_number v.mat l) b.hand ∷ ys) ≡ q → ranked.IsOrdered rank_of q
      → Becomes v' ends' b' first_m first_d spare_m spare_d (placed (dropped (value_of v b) (msg_number v.mat l)) k q)
  put-on e before after before_is after_is seats first last nodes ends_are o o_is n n_is roster_is q q_is order =
      let i = msg_number v.mat l in
      let x = msg_in i b.hand in
      let seats' = subst (λ (p : Option ℕ × Option ℕ). Seats v.mat v.rows v'.rows (ends_at k ends) e p.0 i p.1) (λ j. (before_is j, after_is j)) seats in
      let order' = subst (λ (q : List (List Block)). ranked.IsOrdered rank_of q) (sym q_is) order in
      let once : (j : ℕ) → heads j (xs ++ ys) ≤ 1 = λ j. subst (λ (q : List Msg). heads j q ≤ 1) shape (once-queue is j k) in
      let off = ap (λ q. heads i q) (sym shape) ∙ apart-lists is i k (found-some is l here) in
      let next : msg_number b.mat (unwrap_or o l) ≡ unwrap_or (begin_of ys) i =
      ap (λ mat. msg_number mat (unwrap_or o l)) is.same ∙ number-of-next (msg_number v.mat) o l ∙ ap (λ p. unwrap_or p i) (o_is ∙ after_is) in
      let roster : b' ≡ record b { lists = set b.lists k (xs ++ x ∷ ys); hand = without_in i b.hand } =
      roster_is
      ∙ (λ j. record b { lists = set b.lists k (seat_in (next j) (msg_in (n_is j) b.hand) (shape j)); hand = without_in (n_is j) b.hand })
      ∙ (λ j. record b { lists = set b.lists k (seat-is i x xs ys once off j); hand = without_in i b.hand }) in
      record {
        raw = subst (λ (w : Nodes × Roster). IsRaw w.0 first_m first_d spare_m spare_d w.1) (λ j. (sym nodes j, sym roster j)) (on-raw is listed k within l here xs ys shape v'.rows e seats' first last order');
        listed = subst (λ (w : Nodes × List KeptEnds × Roster). AreListed w.0 w.1 w.2) (λ j. (sym nodes j, sym ends_are j, sym roster j)) (on-listed is listed k within l here xs ys shape v'.rows e seats' first last order');
        value = (λ j. value_of (nodes j) (roster j)) ∙ on-value is listed k within l here xs ys shape v'.rows e seats' first last order' ∙ ap (λ q. placed (dropped (value_of v b) i) k q) q_is;
      }
