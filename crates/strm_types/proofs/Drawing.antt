-- What a read draws, case by case.
use Rattle.std.proofs.Common.{ℕ, zero, suc, ◌≡◌, ◌+◌, ◌-◌, Bool, true, false, cond, List, [], ◌∷◌, ◌++◌, length, take, drop, refl, sym, ap, ◌∙◌, arith}
use Rattle.std.specs.Prelude.{count_by}
use Rattle.std.proofs.lemmas.List.{take-append-drop}
use Rattle.std.proofs.lemmas.List.Sums.{sum_by-cons, sum_by-append}
use Rattle.strm_types.specs.declared.modes.ControlMode.{ControlMode}
use Rattle.strm_types.specs.declared.modes.ControlMode.TheVariants.{Refuse, Data, Discard}
use Rattle.strm_types.specs.Message.{Message, part, cells_of, weight_of}
use Rattle.strm_types.specs.Queue.{weight}
use Rattle.strm_types.specs.Reads.{no_cells, part_left, rest_with, rest_after, offered, control_gone, all_cells}

-- which of its five ends a step of a read comes to
abbrev pub ended : {A : Type 0} → Bool → Bool → Bool → Bool → Bool → A → A → A → A → A → A
ended stop pass empty begun short s p e f w = cond stop s (cond pass p (cond empty (cond begun s e) (cond short f w)))

-- what holds of each end holds of the one that is come to
pub of-each : {A : Type 0} (P : A → Type 0) (stop pass empty begun short : Bool) (s p e f w : A)
    → P s → (pass ≡ true → P p) → (empty ≡ true → P e) → (short ≡ true → P f) → (short ≡ false → P w) → P (ended stop pass empty begun short s p e f w)
of-each P true pass empty begun short s p e f w on_s on_p on_e on_f on_w = on_s
of-each P false true empty begun short s p e f w on_s on_p on_e on_f on_w = on_p refl
of-each P false false true true short s p e f w on_s on_p on_e on_f on_w = on_s
of-each P false false true false short s p e f w on_s on_p on_e on_f on_w = on_e refl
of-each P false false false begun true s p e f w on_s on_p on_e on_f on_w = on_f refl
of-each P false false false begun false s p e f w on_s on_p on_e on_f on_w = on_w refl

-- and what is made of it
pub ended-agrees : {A B : Type 0} (g : A → B) (stop pass empty begun short : Bool) (s p e f w : A) (s' p' e' f' w' : B)
    → g s ≡ s' → g p ≡ p' → g e ≡ e' → g f ≡ f' → g w ≡ w' → g (ended stop pass empty begun short s p e f w) ≡ ended stop pass empty begun short s' p' e' f' w'
ended-agrees g true pass empty begun short s p e f w s' p' e' f' w' on_s on_p on_e on_f on_w = on_s
ended-agrees g false true empty begun short s p e f w s' p' e' f' w' on_s on_p on_e on_f on_w = on_p
ended-agrees g false false true true short s p e f w s' p' e' f' w' on_s on_p on_e on_f on_w = on_s
ended-agrees g false false true false short s p e f w s' p' e' f' w' on_s on_p on_e on_f on_w = on_e
ended-agrees g false false false begun true s p e f w s' p' e' f' w' on_s on_p on_e on_f on_w = on_f
ended-agrees g false false false begun false s p e f w s' p' e' f' w' on_s on_p on_e on_f on_w = on_w

pub no-cells-none : {C : Type 0} (cells : List C) → no_cells cells ≡ true → cells ≡ []
no-cells-none [] is = refl
no-cells-none (c ∷ cells) is = absurd (cc)

-- the rest of two lists
pub drop-join : {C : Type 0} (n : ℕ) (xs ys : List C) → drop n (xs ++ ys) ≡ drop n xs ++ drop (n - length xs) ys
drop-join zero xs ys = ap (λ k. xs ++ drop k ys) (let e : 0 ≡ 0 - length xs = omega arith in e)
drop-join (suc n) [] ys = ap (λ k. drop k ys) (let e : suc n ≡ suc n - 0 = omega arith in e)
drop-join (suc n) (x ∷ xs) ys = drop-join n xs ys ∙ ap (λ k. drop n xs ++ drop k ys) (let e : n - length xs ≡ suc n - suc (length xs) = omega arith in e)

pub part-left : {C : Type 0} (cells : List C) → part (part_left cells) ≡ cells
part-left [] = refl
part-left (c ∷ cells) = refl

module _ {C : Type 0} where
  -- the cells of a rest
  pub cells-rest_with : (control body : List C) (m : Message C) → cells_of (rest_with control body m) ≡ control ++ body
  unfolding cells_of
  cells-rest_with [] body m = refl
  cells-rest_with (c ∷ control) body m = ap (λ xs. c ∷ control ++ xs) (part-left body)

  pub cells-rest_after : (n : ℕ) (m : Message C) → cells_of (rest_after n m) ≡ drop n (cells_of m)
  unfolding cells_of
  cells-rest_after n m =
      cells-rest_with (drop n (part m.control)) (drop (n - length (part m.control)) (part m.body)) m
      ∙ sym (drop-join n (part m.control) (part m.body))

  module _ (p : C → Bool) where
    pub count-joined : (xs ys : List C) → count_by p (xs ++ ys) ≡ count_by p xs + count_by p ys
    count-joined = sum_by-append (λ x. cond (p x) 1 0)

    pub weight-joined : (xs ys : List (Message C)) → weight p (xs ++ ys) ≡ weight p xs + weight p ys
    weight-joined = sum_by-append (weight_of p)

    pub weight-one : (m : Message C) (q : List (Message C)) → weight p (m ∷ q) ≡ weight_of p m + weight p q
    weight-one = sum_by-cons (weight_of p)

    pub weight-cells : (m : Message C) → weight_of p m ≡ count_by p (cells_of m)
    unfolding weight_of
    weight-cells m = refl

    pub weight-all : (q : List (Message C)) → count_by p (all_cells q) ≡ weight p q
    weight-all [] = refl
    weight-all (m ∷ q) = omega (arith, count-joined (cells_of m) (all_cells q), weight-all q, weight-cells m, weight-one m q)

    -- what a read could give of a message, and the control part that goes, is all of it
    pub weight-offered : (control : ControlMode) (m : Message C) → count_by p (control_gone control m) + count_by p (offered control m) ≡ weight_of p m
    unfolding weight_of cells_of
    weight-offered Refuse m = omega arith
    weight-offered Data m = omega arith
    weight-offered Discard m = sym (count-joined (part m.control) (part m.body))

    -- what is given of a message and what stays of it
    pub weight-rest_after : (n : ℕ) (m : Message C) → count_by p (take n (cells_of m)) + weight_of p (rest_after n m) ≡ count_by p (cells_of m)
    weight-rest_after n m =
        ap (λ k. count_by p (take n (cells_of m)) + k) (weight-cells (rest_after n m) ∙ ap (λ xs. count_by p xs) (cells-rest_after n m))
        ∙ sym (count-joined (take n (cells_of m)) (drop n (cells_of m))) ∙ ap (λ xs. count_by p xs) (take-append-drop n (cells_of m))

    pub weight-parted : (n : ℕ) (xs : List C) → count_by p (take n xs) + count_by p (drop n xs) ≡ count_by p xs
    weight-parted n xs = sym (count-joined (take n xs) (drop n xs)) ∙ ap (λ ys. count_by p ys) (take-append-drop n xs)
