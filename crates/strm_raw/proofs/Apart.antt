-- What is said of messages that a node doesn't belong to stays, whatever is written into that node.
use Rattle.std.proofs.Common.{ℕ, zero, suc, ◌≡◌, ◌≢◌, ◌≤◌, ◌<◌, ◌+◌, cond, eqb, List, [], ◌∷◌, length, get_or, map, refl, ap, ◌∙◌, arith}
use Rattle.std.proofs.Math.ListN.{set}
use Rattle.std.specs.Prelude.{sum_by, Option, None, Some}
use Rattle.std.proofs.lemmas.Bool.Decides.{nat_tests}
use Rattle.std.proofs.lemmas.List.Sums.{sum_by-cons, get_or-le-sum_by}
use Rattle.strm_raw.specs.Roster.{Msg}
use Rattle.strm_raw.specs.Raw.{times, ids, weigh, gap, breaks}

-- links that are the same
pub gap-same : (a b : Option ℕ) → gap a b ≡ 0 → a ≡ b
gap-same None None e = refl
gap-same None (Some j) e = absurd (omega arith)
gap-same (Some i) None e = absurd (omega arith)
gap-same (Some i) (Some j) e = let same : i ≡ j = grind (arith, nat_tests) in ap Some same

pub gap-self : (a : Option ℕ) → gap a a ≡ 0
gap-self None = refl
gap-self (Some i) = grind (arith, nat_tests)

pub times-cons : (i j : ℕ) (xs : List ℕ) → times i (j ∷ xs) ≡ cond (eqb j i) 1 0 + times i xs
times-cons i j xs = sum_by-cons (λ x. cond (eqb x i) 1 0) j xs

pub times-self : (i : ℕ) (xs : List ℕ) → times i (i ∷ xs) ≡ 1 + times i xs
times-self i xs = let t = times-cons i i xs in grind (arith, nat_tests)

pub apart-head : (i j : ℕ) (xs : List ℕ) → times i (j ∷ xs) ≡ 0 → j ≢ i
apart-head i j xs z = let t = times-cons i j xs in grind (arith, nat_tests)

pub apart-tail : (i j : ℕ) (xs : List ℕ) → times i (j ∷ xs) ≡ 0 → times i xs ≡ 0
apart-tail i j xs z = let t = times-cons i j xs in omega arith

module _ (i : ℕ) where
  pub sum-apart : (f g : ℕ → ℕ) → ((j : ℕ) → j ≢ i → f j ≡ g j) → (xs : List ℕ) → times i xs ≡ 0 → sum_by f xs ≡ sum_by g xs
  sum-apart f g same [] z = refl
  sum-apart f g same (j ∷ xs) z =
      let here = same j (apart-head i j xs z) in let ih = sum-apart f g same xs (apart-tail i j xs z) in
      omega (arith, sum_by-cons f j xs, sum_by-cons g j xs)

  pub map-apart : {B : Type 0} (f g : ℕ → B) → ((j : ℕ) → j ≢ i → f j ≡ g j) → (xs : List ℕ) → times i xs ≡ 0 → map f xs ≡ map g xs
  map-apart f g same [] z = refl
  map-apart f g same (j ∷ xs) z = λ k. same j (apart-head i j xs z) k ∷ map-apart f g same xs (apart-tail i j xs z) k

  pub breaks-apart : (next next' : ℕ → Option ℕ) → ((j : ℕ) → j ≢ i → next' j ≡ next j) → (from : Option ℕ) (xs : List ℕ) → times i xs ≡ 0 → breaks next' from xs ≡ breaks next from xs
  unfolding breaks
  breaks-apart next next' same from [] z = refl
  breaks-apart next next' same from (j ∷ xs) z =
      ap (λ n. gap from (Some j) + n) (ap (λ o. breaks next' o xs) (same j (apart-head i j xs z)) ∙ breaks-apart next next' same (next j) xs (apart-tail i j xs z))

  module _ (f g : Msg → ℕ) (same : (m : Msg) → times i (ids m) ≡ 0 → f m ≡ g m) where
    sum-hand : (q : List Msg) → sum_by (λ m. times i (ids m)) q ≡ 0 → sum_by f q ≡ sum_by g q
    sum-hand [] z = refl
    sum-hand (m ∷ q) z =
        let s = sum_by-cons (λ (m : Msg). times i (ids m)) m q in
        let here = same m (omega arith) in let ih = sum-hand q (omega arith) in
        omega (arith, sum_by-cons f m q, sum_by-cons g m q)

    sum-lists : (lists : List (List Msg)) → sum_by (λ q. sum_by (λ m. times i (ids m)) q) lists ≡ 0 → sum_by (λ q. sum_by f q) lists ≡ sum_by (λ q. sum_by g q) lists
    sum-lists [] z = refl
    sum-lists (q ∷ lists) z =
        let s = sum_by-cons (λ (q : List Msg). sum_by (λ m. times i (ids m)) q) q lists in
        let here = sum-hand q (omega arith) in let ih = sum-lists lists (omega arith) in
        omega (arith, sum_by-cons (λ (q : List Msg). sum_by f q) q lists, sum_by-cons (λ (q : List Msg). sum_by g q) q lists)

    pub weigh-apart : (lists : List (List Msg)) (hand : List Msg) → weigh (λ m. times i (ids m)) lists hand ≡ 0 → weigh f lists hand ≡ weigh g lists hand
    weigh-apart lists hand z = let a = sum-lists lists (omega arith) in let b = sum-hand hand (omega arith) in omega arith

-- numbers over a list none of which counts, and where one counts alone
module _ (hit : ℕ → ℕ) {B : Type 0} (f g : ℕ → B) (same : (j : ℕ) → hit j ≡ 0 → f j ≡ g j) where
  pub map-none : (xs : List ℕ) → sum_by hit xs ≡ 0 → map f xs ≡ map g xs
  map-none [] z = refl
  map-none (j ∷ xs) z = let s = sum_by-cons hit j xs in λ k. same j (omega arith) k ∷ map-none xs (omega arith) k

  pub map-one : (xs : List ℕ) (at : ℕ) → at < length xs → 0 < hit (get_or xs at 0) → sum_by hit xs ≤ 1 → map f xs ≡ set (map g xs) at (f (get_or xs at 0))
  map-one [] at within hits few = absurd (omega arith)
  map-one (j ∷ xs) zero within hits few = let s = sum_by-cons hit j xs in λ k. f j ∷ map-none xs (omega arith) k
  map-one (j ∷ xs) (suc at) within hits few =
      let s = sum_by-cons hit j xs in let le = get_or-le-sum_by hit xs at 0 (omega arith) in
      λ k. same j (omega arith) k ∷ map-one xs at (omega arith) hits (omega arith) k

-- lists over messages that have none of something
module _ (h : Msg → ℕ) {B : Type 0} (f g : Msg → B) (same : (m : Msg) → h m ≡ 0 → f m ≡ g m) where
  pub hand-apart : (q : List Msg) → sum_by h q ≡ 0 → map f q ≡ map g q
  hand-apart [] z = refl
  hand-apart (m ∷ q) z =
      let s = sum_by-cons h m q in
      λ k. same m (omega arith) k ∷ hand-apart q (omega arith) k

  pub lists-apart : (lists : List (List Msg)) → sum_by (λ q. sum_by h q) lists ≡ 0 → map (λ q. map f q) lists ≡ map (λ q. map g q) lists
  lists-apart [] z = refl
  lists-apart (q ∷ lists) z =
      let s = sum_by-cons (λ (q : List Msg). sum_by h q) q lists in
      λ k. hand-apart q (omega arith) k ∷ lists-apart lists (omega arith) k

-- sums and lists over any messages
module _ {B : Type 0} (f g : Msg → B) (same : (m : Msg) → f m ≡ g m) where
  pub map-same : (q : List Msg) → map f q ≡ map g q
  map-same [] = refl
  map-same (m ∷ q) = λ k. same m k ∷ map-same q k

  pub maps-same : (lists : List (List Msg)) → map (λ q. map f q) lists ≡ map (λ q. map g q) lists
  maps-same [] = refl
  maps-same (q ∷ lists) = λ k. map-same q k ∷ maps-same lists k

module _ (f g : Msg → ℕ) (same : (m : Msg) → f m ≡ g m) where
  sum-same : (q : List Msg) → sum_by f q ≡ sum_by g q
  sum-same [] = refl
  sum-same (m ∷ q) = let s = same m in let ih = sum-same q in omega (arith, sum_by-cons f m q, sum_by-cons g m q)

  sums-same : (lists : List (List Msg)) → sum_by (λ q. sum_by f q) lists ≡ sum_by (λ q. sum_by g q) lists
  sums-same [] = refl
  sums-same (q ∷ lists) = let s = sum-same q in let ih = sums-same lists in omega (arith, sum_by-cons (λ (q : List Msg). sum_by f q) q lists, sum_by-cons (λ (q : List Msg). sum_by g q) q lists)

  pub weigh-same : (lists : List (List Msg)) (hand : List Msg) → weigh f lists hand ≡ weigh g lists hand
  weigh-same lists hand = let a = sums-same lists in let b = sum-same hand in omega arith
