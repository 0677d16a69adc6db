-- Bytes that are taken from the front of a list, and what is left of it.
use Rattle.std.proofs.Common.{◌≡◌, ℕ, zero, suc, ◌-◌, ◌≤◌, List, [], ◌∷◌, ◌++◌, length, take, drop, refl, sym, ap, ◌∙◌, subst, append-nil, length-drop, arith}
use Rattle.std.proofs.Math.Seq.{take-append_seam, take-length, drop-append_seam}

-- what stands from a place to the end
pub to_end : {C : Type 0} (at : ℕ) (bytes : List C) → take (length bytes - at) (drop at bytes) ≡ drop at bytes
to_end at bytes = ap (λ n. take n (drop at bytes)) (sym (length-drop at bytes)) ∙ take-length (drop at bytes)

-- a full run is the first so many bytes, and what is left is the rest
pub full_run : {C : Type 0} (run rest whole : List C) (n : ℕ) → run ++ rest ≡ whole → length run ≡ n → (run ≡ take n whole) × (rest ≡ drop n whole)
full_run run rest whole n split full = (
  sym (ap (λ m. take m whole) (sym full) ∙ ap (take (length run)) (sym split) ∙ take-append_seam run rest),
  sym (ap (λ m. drop m whole) (sym full) ∙ ap (drop (length run)) (sym split) ∙ drop-append_seam run rest),
)

-- all bytes are a run, where they aren't more
take_all : {C : Type 0} (bytes : List C) (n : ℕ) → length bytes ≤ n → (bytes ≡ take n bytes) × ([] ≡ drop n bytes)
take_all [] zero few = (refl, refl)
take_all [] (suc n) few = (refl, refl)
take_all (b ∷ bytes) zero few = absurd (omega arith)
take_all (b ∷ bytes) (suc n) few = let less = take_all bytes n (omega arith) in (ap (λ l. b ∷ l) less.0, less.1)

-- the last run is all bytes that are left
pub last_run : {C : Type 0} (run rest whole : List C) (n : ℕ) → run ++ rest ≡ whole → rest ≡ [] → length run ≤ n → (run ≡ take n whole) × (rest ≡ drop n whole)
last_run run rest whole n split none few =
    let all : run ≡ whole = sym (append-nil run) ∙ ap (λ l. run ++ l) (sym none) ∙ split in
    let taken = take_all run n few in
    (subst (λ l. run ≡ take n l) all taken.0, none ∙ subst (λ l. [] ≡ drop n l) all taken.1)

-- the first ones of the first ones
pub take-twice : {C : Type 0} (n m : ℕ) (l : List C) → n ≤ m → take n (take m l) ≡ take n l
take-twice zero m l few = refl
take-twice (suc n) zero l few = absurd (omega (arith, few))
take-twice (suc n) (suc m) [] few = refl
take-twice (suc n) (suc m) (x ∷ l) few = ap (λ k. x ∷ k) (take-twice n m l (omega (arith, few)))
