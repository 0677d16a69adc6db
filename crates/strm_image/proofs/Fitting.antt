-- When values fit formats that are put together: what the combinators ask.
use Rattle.strm_image.proofs.Prelude.{◌≡◌, ℕ, zero, suc, ◌<◌, true, List, [], ◌∷◌, ◌++◌, length, refl, subst, arith, ◌^◌, replicate, and_from, eq-eqb}
use Rattle.strm_image.proofs.Prelude.{lt-ltb, flat_map-cons}
use Rattle.std.specs.List.{AllByRecursion, flat_map, list_all}
use Rattle.strm_image.specs.Format.{Format, byte, u16, u32, u64, bytes_of, octets_of, chain, counted, fit_from}

-- ---- numbers

pub u16_fits : (n : ℕ) → n < 2 ^ 16 → u16.fits n ≡ true
u16_fits n lt = lt-ltb n 65536 (omega (arith, lt))

pub u32_fits : (n : ℕ) → n < 2 ^ 32 → u32.fits n ≡ true
u32_fits n lt = lt-ltb n 4294967296 (omega (arith, lt))

pub u64_fits : (n : ℕ) → n < 2 ^ 64 → u64.fits n ≡ true
u64_fits n lt = lt-ltb n 18446744073709551616 (omega (arith, lt))

-- ---- lists

pub bytes_fit : (count : Format ℕ) (bytes : List ℕ) → count.fits (length bytes) ≡ true → (counted count bytes_of).fits bytes ≡ true
bytes_fit count bytes few = and_from _ _ few (eq-eqb _ _ refl)

each_fits : (bytes : List ℕ) → AllByRecursion (λ b. b < 256) bytes → list_all byte.fits bytes ≡ true
each_fits [] small = refl
each_fits (b ∷ bytes) small = and_from _ _ (lt-ltb b 256 small.0) (each_fits bytes small.1)

pub octets_fit : (count : Format ℕ) (bytes : List ℕ) → count.fits (length bytes) ≡ true → AllByRecursion (λ b. b < 256) bytes
    → (counted count octets_of).fits bytes ≡ true
octets_fit count bytes few small = and_from _ _ few (and_from _ _ (eq-eqb _ _ refl) (each_fits bytes small))

module _ {A S : Type 0} (next : A → S → S) (f : S → Format A) where
  pub counted_fits : (count : Format ℕ) (s : S) (xs : List A) → count.fits (length xs) ≡ true → fit_from next f s xs ≡ true → (counted count (chain next f s)).fits xs ≡ true
  counted_fits count s xs few fits = and_from _ _ few (and_from _ _ (eq-eqb _ _ refl) fits)

  -- A chain fits where what holds of its state and of all values makes the first one fit, and holds of the next state and of the others.
  pub chain_fits : (Holds : S → List A → Type 0) → ((s : S) (x : A) (xs : List A) → Holds s (x ∷ xs) → ((f s).fits x ≡ true) × Holds (next x s) xs)
      → (s : S) (xs : List A) → Holds s xs → fit_from next f s xs ≡ true
  chain_fits Holds step s [] h = refl
  chain_fits Holds step s (x ∷ xs) h = let one = step s x xs h in and_from _ _ one.0 (chain_fits Holds step (next x s) xs one.1)

-- ---- what holds of each

module _ {A : Type 0} where
  pub all_front : (P : A → Type 0) (xs ys : List A) → AllByRecursion P (xs ++ ys) → AllByRecursion P xs
  all_front P [] ys all = tt
  all_front P (x ∷ xs) ys all = (all.0, all_front P xs ys all.1)

  pub all_back : (P : A → Type 0) (xs ys : List A) → AllByRecursion P (xs ++ ys) → AllByRecursion P ys
  all_back P [] ys all = all
  all_back P (x ∷ xs) ys all = all_back P xs ys all.1

  pub all_both : (P Q R : A → Type 0) → ((x : A) → P x → Q x → R x) → (xs : List A) → AllByRecursion P xs → AllByRecursion Q xs → AllByRecursion R xs
  all_both P Q R join [] p q = tt
  all_both P Q R join (x ∷ xs) p q = (join x p.0 q.0, all_both P Q R join xs p.1 q.1)

pub all_alike : {A : Type 0} (P : A → Type 0) (n : ℕ) (x : A) → P x → AllByRecursion P (replicate n x)
all_alike P zero x p = tt
all_alike P (suc n) x p = (p, all_alike P n x p)

-- what holds of all that is in the lists of each holds of each one's
pub all_flat : {A B : Type 0} (P : B → Type 0) (f : A → List B) (xs : List A) → AllByRecursion P (flat_map f xs) → AllByRecursion (λ x. AllByRecursion P (f x)) xs
all_flat P f [] all = tt
all_flat P f (x ∷ xs) all =
    let both = subst (AllByRecursion P) (flat_map-cons f x xs) all in
    (all_front P (f x) (flat_map f xs) both, all_flat P f xs (all_back P (f x) (flat_map f xs) both))
