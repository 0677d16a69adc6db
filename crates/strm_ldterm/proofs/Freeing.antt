-- A message in hand that is put back on a queue frees no block.
use Rattle.strm_ldterm.proofs.Prelude.{ℕ, ◌≡◌, ◌≤◌, ◌<◌, ◌+◌, List, length, refl, sym, subst, arith, sum-put_back, total-placed, total-dropped}
use Rattle.strm_ldterm.proofs.Prelude.{used-is, references-is, free_m-is, free_d-more}
use Rattle.strm_ldterm.specs.Prelude.{Block, StoreValue, IsInHand, list_at, in_hand, placed, dropped, put_back, names_of, total, free_m, free_d}
use Rattle.strm_ldterm.specs.Prelude.{least_free, FreesNone}
use Rattle.std.proofs.Math.Nat.{le-min, min-le_left, min-le_right}
use Rattle.std.specs.Prelude.{sum_by}
use Rattle.strm_blocks.specs.Blocks.{rank_of}

pub none-freed : (s : StoreValue) → FreesNone s s
none-freed s = (omega arith, omega arith)

pub none-freed-both : (s t u : StoreValue) → FreesNone s t → FreesNone t u → FreesNone s u
none-freed-both s t u first second =
    let m = first.0 in let d = first.1 in let m' = second.0 in let d' = second.1 in
    (omega arith, omega arith)

module _ (s : StoreValue) (k i : ℕ) (within : k < length s.lists) (is_in : IsInHand s i) where
  -- a list that gains the message in hand
  module _ (list : List (List Block)) (gains : (f : List Block → ℕ) → sum_by f list ≡ f (in_hand s i) + sum_by f (list_at s k)) where
    same : (f : List Block → ℕ) → total f (placed (dropped s i) k list) ≡ total f s
    same f = omega (arith, total-placed f (dropped s i) k list within, total-dropped f s i is_in, gains f)

    gained : FreesNone s (placed (dropped s i) k list)
    gained = (
      omega (arith, free_m-is s, free_m-is after, used-is s, used-is after, same length),
      free_d-more after s refl (λ d. omega (arith, references-is s d, references-is after d, same (names_of d))),
    )
      where
        after : StoreValue
        after = placed (dropped s i) k list

  pub back-none : (new : StoreValue) → new ≡ placed (dropped s i) k (put_back (in_hand s i) (list_at s k)) → FreesNone s new
  back-none new is = subst (FreesNone s) (sym is) (gained (put_back (in_hand s i) (list_at s k)) (λ f. sum-put_back rank_of f (in_hand s i) (list_at s k)))

-- blocks that are few stay few
pub stays-few : (s t : StoreValue) (n : ℕ) → FreesNone s t → least_free s < n → least_free t < n
stays-few s t n none few =
    let m = none.0 in
    let d = none.1 in
    let one = min-le_left (free_m t) (free_d t) in
    let other = min-le_right (free_m t) (free_d t) in
    let low : least_free t ≤ least_free s = le-min (omega arith) (omega arith) in
    omega arith
