-- What a test counts of the cells of a queue, after each operation.
use Rattle.std.proofs.Common.{ℕ, ◌≡◌, ◌+◌, ◌-◌, Bool, true, false, cond, List, [], ◌∷◌, ◌++◌, length, take, drop, refl, sym, ap, ◌∙◌, arith}
use Rattle.std.specs.Prelude.{count_by, ◌==◌, ◌||◌, nat_lt}
use Rattle.std.proofs.lemmas.List.{take-append-drop, nil_from_length}
use Rattle.std.proofs.Math.Seq.{take-append-add}
use Rattle.std.proofs.lemmas.Bool.Decides.{nat_tests}
use Rattle.std.proofs.lemmas.List.Sums.{sum_by-cons, sum_by-append}
use Rattle.strm_types.specs.Message.{Message, rank_of, cells_of, size_of, weight_of, data_message}
use Rattle.strm_types.specs.Queue.{put, put_back, weight}
use Rattle.strm_types.specs.Head.{Taken, rest_of, gathered, head_read}
use Rattle.strm_types.proofs.Ranked.{sum-put, sum-put_back}

module _ {C : Type 0} (p : C → Bool) where
  pub weight-put : (m : Message C) (q : List (Message C)) → weight p (put m q) ≡ weight_of p m + weight p q
  weight-put = sum-put rank_of (weight_of p)

  pub weight-put_back : (m : Message C) (q : List (Message C)) → weight p (put_back m q) ≡ weight_of p m + weight p q
  weight-put_back = sum-put_back rank_of (weight_of p)

  pub weight-take : (m : Message C) (q : List (Message C)) → weight p (m ∷ q) ≡ weight_of p m + weight p q
  weight-take = sum_by-cons (weight_of p)

  pub weight-data : (cells : List C) → weight_of p (data_message cells) ≡ count_by p cells
  unfolding weight_of data_message cells_of
  weight-data cells = refl

  pub count-join : (xs ys : List C) → count_by p (xs ++ ys) ≡ count_by p xs + count_by p ys
  count-join = sum_by-append (λ x. cond (p x) 1 0)

  -- the cells that a chunk and the chunks behind it take are the first ones
  pub first-cells : (cells : List C) (more : ℕ) → count_by p (take (length (take 256 cells) + more) cells) ≡ count_by p (take 256 cells) + count_by p (take more (drop 256 cells))
  first-cells cells more =
      ap (λ xs. count_by p (take (length (take 256 cells) + more) xs)) (sym (take-append-drop 256 cells))
      ∙ ap (λ xs. count_by p xs) (take-append-add (take 256 cells) (drop 256 cells) more)
      ∙ count-join (take 256 cells) (take more (drop 256 cells))

  weight-rest : (n : ℕ) (m : Message C) → count_by p (take n (cells_of m)) + weight_of p (rest_of n m) ≡ weight_of p m
  unfolding weight_of cells_of
  weight-rest n m = sym (count-join (take n (cells_of m)) (drop n (cells_of m))) ∙ ap (λ xs. count_by p xs) (take-append-drop n (cells_of m))

  pub weight-whole : (m : Message C) → count_by p (cells_of m) ≡ weight_of p m
  unfolding weight_of
  weight-whole m = refl

  gathered-at : (n : ℕ) (m : Message C) (q : List (Message C)) (stop part : Bool)
      → count_by p (gathered (n - size_of m) q).given + weight p (gathered (n - size_of m) q).left ≡ weight p q
      → count_by p (cond {A = Taken C} stop (record { given = []; left = m ∷ q }) (cond {A = Taken C} part (record { given = take n (cells_of m); left = put_back (rest_of n m) q }) (record { given = cells_of m ++ (gathered (n - size_of m) q).given; left = (gathered (n - size_of m) q).left }))).given
      + weight p (cond {A = Taken C} stop (record { given = []; left = m ∷ q }) (cond {A = Taken C} part (record { given = take n (cells_of m); left = put_back (rest_of n m) q }) (record { given = cells_of m ++ (gathered (n - size_of m) q).given; left = (gathered (n - size_of m) q).left }))).left ≡ weight p (m ∷ q)
  gathered-at n m q true part ih = omega arith
  gathered-at n m q false true ih = omega (arith, weight-rest n m, weight-put_back (rest_of n m) q, weight-take m q)
  gathered-at n m q false false ih = omega (arith, ih, weight-whole m, weight-take m q, count-join (cells_of m) (gathered (n - size_of m) q).given)

  weight-gathered : (n : ℕ) (q : List (Message C)) → count_by p (gathered n q).given + weight p (gathered n q).left ≡ weight p q
  weight-gathered n [] = refl
  weight-gathered n (m ∷ q) = gathered-at n m q (n == 0 || size_of m == 0) (nat_lt n (size_of m)) (weight-gathered (n - size_of m) q)

  weightless : (m : Message C) → size_of m ≡ 0 → weight_of p m ≡ 0
  unfolding size_of weight_of
  weightless m none =
      let empty : length (cells_of m) ≡ 0 = omega arith in ap (λ xs. count_by p xs) (nil_from_length (cells_of m) empty)

  head_read-at : (n : ℕ) (m : Message C) (q : List (Message C)) (none empty : Bool) → (size_of m == 0) ≡ empty
      → count_by p (cond {A = Taken C} none (record { given = []; left = m ∷ q }) (cond {A = Taken C} empty (record { given = []; left = q }) (gathered n (m ∷ q)))).given
      + weight p (cond {A = Taken C} none (record { given = []; left = m ∷ q }) (cond {A = Taken C} empty (record { given = []; left = q }) (gathered n (m ∷ q)))).left ≡ weight p (m ∷ q)
  head_read-at n m q true empty is = omega arith
  head_read-at n m q false true is =
      let size : size_of m ≡ 0 = grind (arith, nat_tests) in omega (arith, weightless m size, weight-take m q)
  head_read-at n m q false false is = weight-gathered n (m ∷ q)

  -- a read gives what it takes away
  pub weight-read : (n : ℕ) (q : List (Message C)) → count_by p (head_read n q).given + weight p (head_read n q).left ≡ weight p q
  weight-read n [] = refl
  weight-read n (m ∷ q) = head_read-at n m q (n == 0) (size_of m == 0) refl
