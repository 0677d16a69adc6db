-- Bytes that are looked at by vectors: a mask that is computed lane by lane holds what a test says of each byte.
use Rattle.std.proofs.Common.{◌≡◌, ◌≤◌, ◌<◌, ◌+◌, ◌%◌, ◌^◌, ℕ, zero, suc, Bool, true, false, not, ◌&&◌, ◌⊎◌, inl, inr, cond, eqb, ltb, T, List, [], ◌∷◌, map, length, take, get_or, refl, sym, ap, ap₂, subst, ◌∙◌, arith, w8, Fits, not-suc-le-zero}
use Rattle.std.specs.List.{AllByRecursion, prefix_len}
use Rattle.std.proofs.lemmas.Bool.{cases_order}
use Rattle.std.proofs.lemmas.List.{length-map}
use Rattle.std.proofs.lemmas.Simd.{mask_l-mod, run_in_chunk_fails}
use Rattle.strm_ldterm.proofs.Marks.{all-more}
use lib.Bits.{bit_or}
use lib.Lanes.{chunk, zip2, mask_l, top, Each1}

-- a fact of each number below n, by computation
abbrev upto : (ℕ → Bool) → ℕ → Bool
upto p zero = true
upto p (suc n) = p n && upto p n

both : (a b : Bool) → T (a && b) → T a × T b
both true b h = (tt, h)
both false b h = absurd h

upto-sound : (p : ℕ → Bool) (n : ℕ) → T (upto p n) → (i : ℕ) → i < n → T (p i)
upto-sound p zero h i lt = absurd (not-suc-le-zero lt)
upto-sound p (suc n) h i lt = go (upto-sound p n (both (p n) (upto p n) h).1 i) (cases_order i n)
  where
    go : (i < n → T (p i)) → (i ≡ n) ⊎ ((i < n) ⊎ (n < i)) → T (p i)
    go below (inl e) = subst (λ x. T (p x)) (sym e) (both (p n) (upto p n) h).0
    go below (inr (inl l)) = below l
    go below (inr (inr g)) = let no : ⊥ = omega arith in absurd no

abbrev same : Bool → Bool → Bool
same true b = b
same false b = not b

same-is : (a b : Bool) → T (same a b) → a ≡ b
same-is true true h = refl
same-is false false h = refl
same-is true false h = absurd h
same-is false true h = absurd h

-- what a lane of a comparison holds
abbrev pub hit : ℕ → ℕ → ℕ
hit a b = cond (eqb a b) 255 0

abbrev pub below : ℕ → ℕ → ℕ
below a b = cond (ltb a b) 255 0

zip2-map : (f g : ℕ → ℕ) (xs : List ℕ) → zip2 bit_or (map f xs) (map g xs) ≡ map (λ x. bit_or (f x) (g x)) xs
zip2-map f g [] = refl
zip2-map f g (x ∷ xs) = ap (λ r. bit_or (f x) (g x) ∷ r) (zip2-map f g xs)

pub either : (f g : ℕ → ℕ) (v : List ℕ) {a b : List ℕ} → a ≡ map f v → b ≡ map g v → zip2 bit_or a b ≡ map (λ x. bit_or (f x) (g x)) v
either f g v p q = ap₂ (zip2 bit_or) p q ∙ zip2-map f g v

each-byte : (f : ℕ → ℕ) (p : ℕ → Bool) → T (upto (λ x. same (top 7 (f x)) (p x)) 256) → (v : List ℕ) → Each1 (Fits w8) v → map (top 7) (map f v) ≡ map p v
each-byte f p all [] fits = refl
each-byte f p all (x ∷ xs) fits = ap₂ (λ a b. a ∷ b) (same-is _ _ (upto-sound (λ y. same (top 7 (f y)) (p y)) 256 all x fits.0.fits)) (each-byte f p all xs fits.1)

pub masked : (f : ℕ → ℕ) (p : ℕ → Bool) (v z : List ℕ) → length v ≤ 64 → Each1 (Fits w8) v → z ≡ map f v → T (upto (λ x. same (top 7 (f x)) (p x)) 256)
    → mask_l (map (top 7) z) % 2 ^ 64 ≡ mask_l (map p v)
masked f p v z short fits e all =
    ap (λ l. mask_l l % 2 ^ 64) (ap (map (top 7)) e ∙ each-byte f p all v fits) ∙ mask_l-mod (map p v) 64 (omega (arith, length-map v p))

-- all of the first bytes, and some more
pub all-on : (P : ℕ → Type 0) (bytes : List ℕ) (at r : ℕ) → at + r ≤ length bytes → AllByRecursion P (take at bytes)
    → ((k : ℕ) → at ≤ k → k < at + r → P (get_or bytes k 0)) → AllByRecursion P (take (at + r) bytes)
all-on P bytes at zero within all each = let e : at ≡ at + zero = omega arith in subst (λ n. AllByRecursion P (take n bytes)) e all
all-on P bytes at (suc r) within all each =
    let e : at + r + 1 ≡ at + suc r = omega arith in
    subst (λ n. AllByRecursion P (take n bytes)) e
    (all-more P bytes (at + r) (omega arith) (all-on P bytes at r (omega arith) all (λ k low high. each k low (omega arith))) (each (at + r) (omega arith) (omega arith)))

-- those in front of the first lane that passes a test fail it
pub none-on : (p : ℕ → Bool) (bytes : List ℕ) (at n r : ℕ) → at + n ≤ length bytes → at + r ≤ length bytes → r ≡ prefix_len (λ x. not (p x)) (chunk at n bytes)
    → AllByRecursion (λ b. p b ≡ false) (take at bytes) → AllByRecursion (λ b. p b ≡ false) (take (at + r) bytes)
none-on p bytes at n r room within counted all = all-on (λ b. p b ≡ false) bytes at r within all (run_in_chunk_fails p bytes at n r 0 room counted)
