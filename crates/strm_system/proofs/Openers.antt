-- Openers in a row, one for each system.
use Rattle.std.proofs.Common.{◌≡◌, ℕ, zero, suc, ◌<◌, List, [], ◌∷◌, ◌++◌, get_or, set, take, length, refl, sym, ap, ◌∙◌, subst, arith, append_assoc, append-nil, length-append}
use Rattle.std.proofs.Math.Seq.{take-length}
use Rattle.std.proofs.lemmas.List.{length-map}
use Rattle.std.proofs.lemmas.Simd.{map-map}
use Rattle.std.specs.Prelude.{IfOk, OnErr, MatchResult, Result, Ok, Err, Option, None, Some, map, slice_get}
use Rattle.atomic_table.specs.Seated.{TableId}
use Rattle.strm_minors.specs.Openers.{Gains, Holding, Holds, Loses, opening, past}
use Rattle.strm_locks.specs.Systems.{Plan}
use Rattle.strm_system.specs.Hosts.{AreOf, Finds, FindsNone, HoldsAt, Releases, all_opening}

abbrev value_or : {A : Type 0} → A → Option A → A
value_or d None = d
value_or d (Some x) = x

abbrev table_in : Holding → TableId
table_in o = o.table

abbrev table_at : Plan → TableId
table_at s = s.minors.table

pub opener_at : (xs : List Holding) (n : ℕ) (d : Holding) → n < length xs → d ≡ get_or xs n d → slice_get xs n ≡ Some d
opener_at [] n d small is = absurd (omega arith)
opener_at (x ∷ xs) zero d small is = ap (λ (y : Holding). let o : Option Holding = Some y in o) (sym is)
opener_at (x ∷ xs) (suc n) d small is = opener_at xs n d (omega arith) is

same_table : (xs : List Holding) (ss : List Plan) (n : ℕ) (o : Holding) (s : Plan) → map table_in xs ≡ map table_at ss → slice_get xs n ≡ Some o → slice_get ss n ≡ Some s → o.table ≡ s.minors.table
same_table [] ss n o s same at there = absurd (cc)
same_table (x ∷ xs) [] n o s same at there = absurd (cc)
same_table (x ∷ xs) (y ∷ ys) zero o s same at there =
    sym (ap (λ (z : Option Holding). table_in (value_or o z)) at) ∙ ap (λ (ts : List TableId). get_or ts 0 o.table) same ∙ ap (λ (z : Option Plan). table_at (value_or s z)) there
same_table (x ∷ xs) (y ∷ ys) (suc n) o s same at there = same_table xs ys n o s (ap (λ (ts : List TableId). rest ts) same) at there
  where
    rest : List TableId → List TableId
    rest [] = []
    rest (t ∷ ts) = ts

pub opener_of : (host : List Plan) (openers : List Holding) (n : ℕ) (o : Holding) (s : Plan) → AreOf host openers → slice_get openers n ≡ Some o → slice_get host n ≡ Some s → o.table ≡ s.minors.table
opener_of host openers n o s own at there = same_table openers host n o s own at there

pub within : (host : List Plan) (openers : List Holding) (n : ℕ) → AreOf host openers → n < length host → n < length openers
within host openers n own small = let x = ap (λ (ts : List TableId). length ts) own in omega (arith, x, length-map openers table_in, length-map host table_at)

stay : (xs : List Holding) (n : ℕ) (o q : Holding) → slice_get xs n ≡ Some o → q.table ≡ o.table → map table_in (set xs n q) ≡ map table_in xs
stay [] n o q at is = refl
stay (x ∷ xs) zero o q at is = ap (λ (t : TableId). t ∷ map table_in xs) (is ∙ sym (ap (λ (z : Option Holding). table_in (value_or o z)) at))
stay (x ∷ xs) (suc n) o q at is = ap (λ (ts : List TableId). x.table ∷ ts) (stay xs n o q at is)

pub still_of : (host : List Plan) (openers : List Holding) (n : ℕ) (o q : Holding) → AreOf host openers → slice_get openers n ≡ Some o → q.table ≡ o.table → AreOf host (set openers n q)
still_of host openers n o q own at is = stay openers n o q at is ∙ own

-- what a claim found at one system, by its opener there

set_here : (xs : List Holding) (n : ℕ) (o q : Holding) → slice_get xs n ≡ Some o → slice_get (set xs n q) n ≡ Some q
set_here [] n o q at = absurd (cc)
set_here (x ∷ xs) zero o q at = refl
set_here (x ∷ xs) (suc n) o q at = set_here xs n o q at

pub held_by : (host : List Plan) (old : List Holding) (system minor : ℕ) (new : List Holding) → Finds host old system minor new → HoldsAt new system minor
held_by host old system minor new f = (f.behind, ap (λ (xs : List Holding). slice_get xs system) f.others ∙ set_here old system f.before f.behind f.here, f.claimed.gained)

-- what a claim did to the openers, by what it did to the one of its system, as they lie in their list
module _ (host : List Plan) (old items : List Holding) (same : items ≡ old) (n : ℕ) (here new : Holding) (at : slice_get items n ≡ Some here) where
  here_in : slice_get old n ≡ Some here
  here_in = sym (ap (λ (xs : List Holding). slice_get xs n) same) ∙ at

  set_in : (o : Holding) → set items n o ≡ set old n o
  set_in o = ap (λ (xs : List Holding). set xs n o) same

  pub found_by : {E : Type 0} (plan : Plan) → slice_get host n ≡ Some plan → (r : Result ℕ E) → IfOk r (λ m. m < length plan.locks) → IfOk r (λ m. Gains (past m here) new m)
      → OnErr r (new ≡ past (length plan.locks) here) → MatchResult r (λ m. Finds host old n m (set items n new)) (λ _. FindsNone host old n (set items n new))
  found_by plan there (Ok m) small gains none = record { plan = plan; there = there; within = small; before = here; behind = new; here = here_in; claimed = gains; others = set_in new }
  found_by plan there (Err e) small gains none = record { plan = plan; there = there; before = here; here = here_in; others = ap (λ (o : Holding). set items n o) none ∙ set_in (past (length plan.locks) here) }

  pub table_stays : {E : Type 0} (k : ℕ) (r : Result ℕ E) → IfOk r (λ m. Gains (past m here) new m) → OnErr r (new ≡ past k here) → new.table ≡ here.table
  table_stays k (Ok m) gains none = gains.table
  table_stays k (Err e) gains none = ap table_in none

  pub held_here : (m : ℕ) → HoldsAt old n m → Holds here m
  held_here m h = subst (λ (o : Holding). Holds o m) (ap (value_or here) (sym h.1 ∙ here_in)) h.2

  pub released : (m : ℕ) → Loses here new m → Releases old n m (set items n new)
  released m lost = record { before = here; behind = new; here = here_in; lost = lost; others = set_in new }

-- an opener is cut in two system by system, from 0 on

pub empty : (xs : List Holding) → length xs ≡ 0 → xs ≡ []
empty [] is = refl
empty (x ∷ xs) is = absurd (omega arith)

next_of : (kept rest : List Holding) (here : Holding) → slice_get (kept ++ here ∷ rest) (length kept) ≡ Some here
next_of [] rest here = refl
next_of (x ∷ xs) rest here = next_of xs rest here

take_on : (xs : List Plan) (n : ℕ) (x : Plan) → slice_get xs n ≡ Some x → all_opening (take (suc n) xs) ≡ all_opening (take n xs) ++ opening x.minors ∷ []
take_on [] n x at = absurd (cc)
take_on (y ∷ ys) zero x at = ap (λ (p : Option Plan). opening (plan_or x p).minors ∷ []) at
  where
    plan_or : Plan → Option Plan → Plan
    plan_or d None = d
    plan_or d (Some p) = p
take_on (y ∷ ys) (suc n) x at = ap (λ os. opening y.minors ∷ os) (take_on ys n x at)

module _ (host : List Plan) (openers kept rest : List Holding) (here : Holding) (n : ℕ) (own : AreOf host openers) (front : kept ++ here ∷ rest ≡ openers) (many : length kept ≡ n) where
  pub turn_within : n < length host
  turn_within =
      let a = ap (λ (ts : List TableId). length ts) own in
      let b = ap (λ (xs : List Holding). length xs) front in
      omega (arith, a, b, many, length-append kept (here ∷ rest), length-map openers table_in, length-map host table_at)

  pub turn_of : (s : Plan) → slice_get host n ≡ Some s → here.table ≡ s.minors.table
  turn_of s there = opener_of host openers n here s own (subst (λ k. slice_get openers k ≡ Some here) many (subst (λ xs. slice_get xs (length kept) ≡ Some here) front (next_of kept rest here))) there

  pub turn_kept : (new : List Holding) (first : Holding) → new ≡ kept ++ first ∷ [] → first ≡ here → new ++ rest ≡ openers
  turn_kept new first is same = ap (λ xs. xs ++ rest) is ∙ ap (λ o. (kept ++ o ∷ []) ++ rest) same ∙ append_assoc kept (here ∷ []) rest ∙ front

pub turn_opened : (host : List Plan) (old new : List Holding) (n m : ℕ) (s : Plan) (second : Holding) → slice_get host n ≡ Some s → old ≡ all_opening (take n host) → new ≡ old ++ second ∷ [] → second ≡ opening s.minors → m ≡ suc n
    → new ≡ all_opening (take m host)
turn_opened host old new n m s second there was is fresh next = is ∙ (λ k. was k ++ fresh k ∷ []) ∙ sym (take_on host n s there) ∙ ap (λ k. all_opening (take k host)) (sym next)

pub all_turned : (host : List Plan) (openers kept : List Holding) (n : ℕ) → AreOf host openers → kept ++ [] ≡ openers → length kept ≡ n → kept ≡ openers × (n ≡ length host)
all_turned host openers kept n own front many =
    let same : kept ≡ openers = sym (append-nil kept) ∙ front in
    let a = ap (λ (ts : List TableId). length ts) own in
    let b = ap (λ (xs : List Holding). length xs) same in (
      same,
      omega (arith, a, b, many, length-map openers table_in, length-map host table_at),
    )

pub all_fresh : (host : List Plan) (new : List Holding) (n : ℕ) → n ≡ length host → new ≡ all_opening (take n host) → new ≡ all_opening host
all_fresh host new n is now = now ∙ ap (λ k. all_opening (take k host)) is ∙ ap (λ xs. all_opening xs) (take-length host)

pub fresh_own : (host : List Plan) → AreOf host (all_opening host)
fresh_own host = map-map table_in (λ (s : Plan). opening s.minors) host
