-- The walk to the place on a list where a message belongs, and what is put there.
use Rattle.std.proofs.Common.{ℕ, ◌≡◌, ◌≤◌, ◌<◌, ◌-◌, true, false, List, [], ◌∷◌, ◌++◌, length, map, refl, sym, ap, ◌∙◌, subst, arith}
use Rattle.std.specs.Prelude.{sum_by, Option, None, Some, option_map, MatchOption, nat_le, nat_lt}
use Rattle.std.specs.List.{AllByRecursion}
use Rattle.std.proofs.lemmas.Bool.Decides.{nat_tests}
use Rattle.std.proofs.lemmas.List.{append-nil, append_assoc, length-append}
use Rattle.std.proofs.lemmas.List.Sums.{sum_by-cons}
use Rattle.strm_types.specs.Ranked as ranked
use Rattle.strm_types.proofs.Ranked.{Ordered-put, Ordered-put_back, put-map, put_back-map}
use Rattle.strm_blocks.specs.Blocks.{Block, rank_of}
use Rattle.strm_raw.specs.Numbered.{Nodes, row_at, msg_number, IsMsgOrNone}
use Rattle.strm_raw.specs.Roster.{Msg, Roster}
use Rattle.strm_raw.specs.Raw.{ids, chain_of, IsRaw}
use Rattle.strm_raw.specs.Lists.{IsList, queue_at, along, pick, ahead_of, behind_of, end_of, begin_of}
use Rattle.strm_raw.specs.Places.{rank_at, msg_rank, Passes, Stops, RanksAt, StopsAt, passed_in, left_in, place_in, put_by}
use Rattle.strm_raw.specs.declared.neighbours.Course.{Course}
use Rattle.strm_raw.specs.declared.neighbours.Course.TheVariants.{On, Back}
use Rattle.strm_raw.specs.declared.neighbours.Ends.{Ends}
use Rattle.strm_raw.specs.declared.msg_nodes.MsgLink.{MsgLink}
use Rattle.strm_raw.specs.declared.data_nodes.DataLink.{DataLink}
use Rattle.strm_raw.proofs.Standing.{empty}
use Rattle.strm_raw.proofs.Tied.{list-begin, list-end, list-behind, list-ahead, a-first, a-last}
use Rattle.strm_raw.proofs.Moved.{one-queue}

-- a list has no more messages than there are message blocks
pub messages-few : (q : List Msg) → length q ≤ sum_by (λ m. length (ids m)) q
messages-few [] = omega arith
messages-few (m ∷ q) = let ih = messages-few q in omega (arith, sum_by-cons (λ (m : Msg). length (ids m)) m q)

pub queue-few : {v : Nodes} {b : Roster} {first_m : Option MsgLink} {first_d : Option DataLink} {spare_m spare_d : ℕ} → IsRaw v first_m first_d spare_m spare_d b → (k : ℕ) → length (queue_at k b.lists) ≤ length v.rows
queue-few {b = b} is k =
    let c = is.counted_m in let f = messages-few (queue_at k b.lists) in
    let o = one-queue (λ q. sum_by (λ m. length (ids m)) q) refl b.lists k in omega arith

-- a walk in a course past the messages of a list that pass a test
module _ (c : Course) (v : Nodes) (e : Ends) (passes stops : ℕ → Type 0) where
  pub record Passed (q : List Msg) (p : Option ℕ) (left : ℕ) : Type 0 where
    pub front : List Msg
    pub rear : List Msg
    pub joined : q ≡ front ++ rear
    pub place : p ≡ place_in c front rear
    pub passed : AllByRecursion (λ m. passes m.head) (passed_in c front rear)
    pub short : length (left_in c front rear) ≤ left

  pub record Walking (o : Option MsgLink) (left : ℕ) : Type 0 where
    pub there : IsMsgOrNone v.mat (length v.rows) o
    pub parts : (q : List Msg) → IsList v e q → length q ≤ length v.rows → Passed q (option_map (msg_number v.mat) o) left

all-more : (passes : ℕ → Type 0) (xs : List Msg) (m : Msg) → AllByRecursion (λ m. passes m.head) xs → passes m.head → AllByRecursion (λ m. passes m.head) (xs ++ m ∷ [])
all-more passes [] m all here = (here, tt)
all-more passes (x ∷ xs) m all here = (all.0, all-more passes xs m all.1 here)

at-end : (c : Course) (front rear : List Msg) → length (left_in c front rear) ≡ 0 → place_in c front rear ≡ None
at-end On front rear z = ap begin_of (empty rear z)
at-end Back front rear z = ap (λ xs. end_of None xs) (empty front z)

module _ {v : Nodes} {e : Ends} {passes stops : ℕ → Type 0} where
  begins : (c : Course) (p : Option ℕ) → p ≡ along c v e None → (q : List Msg) → IsList v e q → (n : ℕ) → length q ≤ n → Passed c v e passes stops q p n
  begins On p is q t n few = record { front = []; rear = q; joined = refl; place = is ∙ list-begin v e q t; passed = tt; short = few }
  begins Back p is q t n few = record { front = q; rear = []; joined = sym (append-nil q); place = is ∙ list-end v e q t; passed = tt; short = few }

  goes-past : (c : Course) (i : ℕ) (p' : Option ℕ) (left : ℕ) → passes i → p' ≡ along c v e (Some i) → (q : List Msg) → IsList v e q → Passed c v e passes stops q (Some i) left → Passed c v e passes stops q p' (left - 1)
  goes-past On i p' left pass step q t p =
      let f = a-first p.rear i (sym p.place) in
      let joined = p.joined ∙ ap (λ ys. p.front ++ ys) f.1.1.0 in
      let len = ap length f.1.1.0 in
      record {
        front = p.front ++ f.0 ∷ [];
        rear = f.1.0;
        joined = joined ∙ sym (append_assoc p.front (f.0 ∷ []) f.1.0);
        place = step ∙ ap (λ i. (row_at i v.rows).ahead) (sym f.1.1.1) ∙ list-ahead v e p.front f.0 f.1.0 (subst (λ (q : List Msg). IsList v e q) joined t);
        passed = all-more passes p.front f.0 p.passed (subst passes (sym f.1.1.1) pass);
        short = let s = p.short in omega arith;
      }
  goes-past Back i p' left pass step q t p =
      let f = a-last p.front i (sym p.place) in
      let joined = p.joined ∙ ap (λ xs. xs ++ p.rear) f.1.1.0 ∙ append_assoc f.0 (f.1.0 ∷ []) p.rear in
      let len = ap length f.1.1.0 ∙ length-append f.0 (f.1.0 ∷ []) in
      record {
        front = f.0;
        rear = f.1.0 ∷ p.rear;
        joined = joined;
        place = step ∙ ap (λ i. (row_at i v.rows).behind) (sym f.1.1.1) ∙ list-behind v e f.0 f.1.0 p.rear (subst (λ (q : List Msg). IsList v e q) joined t);
        passed = (subst passes (sym f.1.1.1) pass, p.passed);
        short = let s = p.short in omega arith;
      }

  module _ {c : Course} {o : Option MsgLink} where
    pub begins-at : IsMsgOrNone v.mat (length v.rows) o → option_map (msg_number v.mat) o ≡ along c v e None → (n : ℕ) → n ≡ length v.rows → Walking c v e passes stops o n
    begins-at there is n all = record { there = there; parts = λ q t few. begins c _ is q t n (omega arith) }

    module _ {left : ℕ} (w : Walking c v e passes stops o left) where
      pub steps-past : (l : MsgLink) → o ≡ Some l → passes (msg_number v.mat l) → (next : Option MsgLink) → option_map (msg_number v.mat) next ≡ along c v e (Some (msg_number v.mat l)) → IsMsgOrNone v.mat (length v.rows) next
          → Walking c v e passes stops next (left - 1)
      steps-past l eq pass next step there = record {
        there = there;
        parts = λ q t few. goes-past c (msg_number v.mat l) _ left pass step q t (subst (λ (o : Option MsgLink). Passed c v e passes stops q (option_map (msg_number v.mat) o) left) eq (w.parts q t few));
      }

      pub stops-at : MatchOption (option_map (msg_number v.mat) o) (Unit {0}) stops → (q : List Msg) → IsList v e q → length q ≤ length v.rows → StopsAt c passes stops q (option_map (msg_number v.mat) o)
      stops-at stop q t few = let p = w.parts q t few in record { front = p.front; rear = p.rear; joined = p.joined; place = p.place; passed = p.passed; stopped = stop }

      pub stops-none : o ≡ None → (q : List Msg) → IsList v e q → length q ≤ length v.rows → StopsAt c passes stops q None
      stops-none none q t few = subst (λ (o : Option MsgLink). StopsAt c passes stops q (option_map (msg_number v.mat) o)) none
          (stops-at (subst (λ (o : Option MsgLink). MatchOption (option_map (msg_number v.mat) o) (Unit {0}) stops) (sym none) tt) q t few)

      pub stops-here : (l : MsgLink) → o ≡ Some l → stops (msg_number v.mat l) → (q : List Msg) → IsList v e q → length q ≤ length v.rows → StopsAt c passes stops q (Some (msg_number v.mat l))
      stops-here l eq stop q t few = subst (λ (o : Option MsgLink). StopsAt c passes stops q (option_map (msg_number v.mat) o)) eq
          (stops-at (subst (λ (o : Option MsgLink). MatchOption (option_map (msg_number v.mat) o) (Unit {0}) stops) (sym eq) stop) q t few)

      pub stops-last : left ≤ 0 → (q : List Msg) → IsList v e q → length q ≤ length v.rows → StopsAt c passes stops q (option_map (msg_number v.mat) o)
      stops-last zero q t few =
          let x = w.parts q t few in let s = x.short in
          stops-at (subst (λ (o : Option ℕ). MatchOption o (Unit {0}) stops) (sym (x.place ∙ at-end c x.front x.rear (omega arith))) tt) q t few

-- the next one in a course, of the two neighbours of a message
pub next-there : (c : Course) (v : Nodes) (e : Ends) (i : ℕ) (x y next : Option MsgLink) → next ≡ pick c x y → option_map (msg_number v.mat) x ≡ ahead_of v.rows i → option_map (msg_number v.mat) y ≡ behind_of v.rows i
    → IsMsgOrNone v.mat (length v.rows) x → IsMsgOrNone v.mat (length v.rows) y → (option_map (msg_number v.mat) next ≡ along c v e (Some i)) × IsMsgOrNone v.mat (length v.rows) next
next-there On v e i x y next is ahead behind there_x there_y = (ap (λ (o : Option MsgLink). option_map (msg_number v.mat) o) is ∙ ahead, subst (λ (o : Option MsgLink). IsMsgOrNone v.mat (length v.rows) o) (sym is) there_x)
next-there Back v e i x y next is ahead behind there_x there_y = (ap (λ (o : Option MsgLink). option_map (msg_number v.mat) o) is ∙ behind, subst (λ (o : Option MsgLink). IsMsgOrNone v.mat (length v.rows) o) (sym is) there_y)

-- a put between members of at least a rank and members of a lower one, and a put back between higher ones and lower ones
module _ {A : Type 0} (rank : A → ℕ) (m : A) where
  put-between : (xs ys : List A) → AllByRecursion (λ x. rank m ≤ rank x) xs → AllByRecursion (λ x. rank x < rank m) ys → ranked.put rank m (xs ++ ys) ≡ xs ++ m ∷ ys
  put-between [] [] high low = refl
  put-between [] (y ∷ ys) high low = let no : nat_le (rank m) (rank y) ≡ false = (let l : rank y < rank m = low.0 in grind (arith, nat_tests)) in rw no refl
  put-between (x ∷ xs) ys high low = let yes : nat_le (rank m) (rank x) ≡ true = (let h : rank m ≤ rank x = high.0 in grind (arith, nat_tests)) in rw yes (ap (λ q. x ∷ q) (put-between xs ys high.1 low))

  -- no higher rank comes first
  abbrev Lower : List A → Type 0
  Lower [] = Unit {0}
  Lower (y ∷ ys) = rank y ≤ rank m

  put_back-between : (xs ys : List A) → AllByRecursion (λ x. rank m < rank x) xs → Lower ys → ranked.put_back rank m (xs ++ ys) ≡ xs ++ m ∷ ys
  put_back-between [] [] high low = refl
  put_back-between [] (y ∷ ys) high low = let no : nat_lt (rank m) (rank y) ≡ false = (let l : rank y ≤ rank m = low in grind (arith, nat_tests)) in rw no refl
  put_back-between (x ∷ xs) ys high low = let yes : nat_lt (rank m) (rank x) ≡ true = (let h : rank m < rank x = high.0 in grind (arith, nat_tests)) in rw yes (ap (λ q. x ∷ q) (put_back-between xs ys high.1 low))

module _ (v : Nodes) (x : Msg) (q : List Msg) (order : ranked.IsOrdered rank_of (map (chain_of v) q)) where
  abbrev rank : Msg → ℕ
  rank m = msg_rank v.rows m

  -- the messages themselves are in order
  bounded : (n : ℕ) (q : List Msg) → AllByRecursion (λ chain. rank_of chain ≤ n) (map (chain_of v) q) → AllByRecursion (λ m. rank m ≤ n) q
  bounded n [] all = tt
  bounded n (m ∷ q) all = (all.0, bounded n q all.1)

  in-order : (q : List Msg) → ranked.IsOrdered rank_of (map (chain_of v) q) → ranked.IsOrdered rank q
  in-order [] o = tt
  in-order (m ∷ q) o = (bounded (rank m) q o.0, in-order q o.1)

  -- all have the rank that the last one has, or more
  high-all : (xs ys : List Msg) → ranked.IsOrdered rank (xs ++ ys) → MatchOption (end_of None xs) (Unit {0}) (λ i. rank x ≤ rank_at v.rows i) → AllByRecursion (λ m. rank x ≤ rank m) xs
  high-all [] ys o last = tt
  high-all (m ∷ []) ys o last = (last, tt)
  high-all (m ∷ w ∷ xs) ys o last =
      let ih = high-all (w ∷ xs) ys o.1 last in
      let here : rank x ≤ rank w = ih.0 in let above : rank w ≤ rank m = o.0.0 in
      (omega arith, ih)

  low-first : (ys : List Msg) → MatchOption (begin_of ys) (Unit {0}) (λ i. rank_at v.rows i ≤ rank x) → Lower rank x ys
  low-first [] low = tt
  low-first (y ∷ ys) low = low

  -- the place is that of the rank
  between : (c : Course) (xs ys : List Msg) → ranked.IsOrdered rank (xs ++ ys) → AllByRecursion (λ m. Passes c (rank x) (rank m)) (passed_in c xs ys) → MatchOption (place_in c xs ys) (Unit {0}) (λ i. Stops c (rank x) (rank_at v.rows i))
      → put_by c rank x (xs ++ ys) ≡ xs ++ x ∷ ys
  between On xs ys o passed stopped = put_back-between rank x xs ys passed (low-first ys stopped)
  between Back xs ys o passed stopped = put-between rank x xs ys (high-all xs ys o stopped) passed

  mapped : (c : Course) (q : List Msg) → map (chain_of v) (put_by c rank x q) ≡ put_by c rank_of (chain_of v x) (map (chain_of v) q)
  mapped On q = put_back-map (chain_of v) rank rank_of (λ m. refl) x q
  mapped Back q = put-map (chain_of v) rank rank_of (λ m. refl) x q

  stays-ordered : (c : Course) (z : List (List Block)) → ranked.IsOrdered rank_of z → ranked.IsOrdered rank_of (put_by c rank_of (chain_of v x) z)
  stays-ordered On z o = Ordered-put_back rank_of (chain_of v x) z o
  stays-ordered Back z o = Ordered-put rank_of (chain_of v x) z o

  module _ (c : Course) (p : Option ℕ) (w : RanksAt c v.rows (rank x) q p) where
    pub puts-there : map (chain_of v) (w.front ++ x ∷ w.rear) ≡ put_by c rank_of (chain_of v x) (map (chain_of v) q)
    puts-there =
        let o = subst (λ (q : List Msg). ranked.IsOrdered rank q) w.joined (in-order q order) in
        let stopped = subst (λ (p : Option ℕ). MatchOption p (Unit {0}) (λ i. Stops c (rank x) (rank_at v.rows i))) w.place w.stopped in
        ap (λ q. map (chain_of v) q) (sym (between c w.front w.rear o w.passed stopped) ∙ ap (λ q. put_by c rank x q) (sym w.joined)) ∙ mapped c q

    -- and the list stays in order
    pub order-there : ranked.IsOrdered rank_of (map (chain_of v) (w.front ++ x ∷ w.rear))
    order-there = subst (λ (q : List (List Block)). ranked.IsOrdered rank_of q) (sym puts-there) (stays-ordered c (map (chain_of v) q) order)
