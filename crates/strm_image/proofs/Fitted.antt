-- What values have that fit formats put together: what the combinators tell, the other way round of Fitting.
use Rattle.strm_image.proofs.Prelude.{◌≡◌, ℕ, ◌<◌, true, List, [], ◌∷◌, ◌++◌, length, sym, subst, arith, ◌^◌, and_parts, ltb-true, flat_map-cons}
use Rattle.std.specs.List.{AllByRecursion, flat_map, list_all}
use Rattle.strm_image.specs.Format.{Format, byte, u16, u32, u64, bytes_of, octets_of, chain, counted, fit_from}

-- ---- numbers

pub u16_below : (n : ℕ) → u16.fits n ≡ true → n < 2 ^ 16
u16_below n fits = let lt : n < 65536 = ltb-true n 65536 fits in omega (arith, lt)

pub u32_below : (n : ℕ) → u32.fits n ≡ true → n < 2 ^ 32
u32_below n fits = let lt : n < 4294967296 = ltb-true n 4294967296 fits in omega (arith, lt)

pub u64_below : (n : ℕ) → u64.fits n ≡ true → n < 2 ^ 64
u64_below n fits = let lt : n < 18446744073709551616 = ltb-true n 18446744073709551616 fits in omega (arith, lt)

-- ---- lists

pub bytes_count : (count : Format ℕ) (bytes : List ℕ) → (counted count bytes_of).fits bytes ≡ true → count.fits (length bytes) ≡ true
bytes_count count bytes fits = (and_parts (count.fits (length bytes)) _ fits).0

each_below : (bytes : List ℕ) → list_all byte.fits bytes ≡ true → AllByRecursion (λ b. b < 256) bytes
each_below [] fits = tt
each_below (b ∷ bytes) fits = let a = and_parts (byte.fits b) (list_all byte.fits bytes) fits in (ltb-true b 256 a.0, each_below bytes a.1)

pub octets_parts : (count : Format ℕ) (bytes : List ℕ) → (counted count octets_of).fits bytes ≡ true
    → (count.fits (length bytes) ≡ true) × AllByRecursion (λ b. b < 256) bytes
octets_parts count bytes fits =
    let a = and_parts (count.fits (length bytes)) _ fits in
    (a.0, each_below bytes (and_parts _ (list_all byte.fits bytes) a.1).1)

module _ {A S : Type 0} (next : A → S → S) (f : S → Format A) where
  pub counted_parts : (count : Format ℕ) (s : S) (xs : List A) → (counted count (chain next f s)).fits xs ≡ true → (count.fits (length xs) ≡ true) × (fit_from next f s xs ≡ true)
  counted_parts count s xs fits = let a = and_parts (count.fits (length xs)) _ fits in (a.0, (and_parts _ (fit_from next f s xs) a.1).1)

  -- Of a chain that fits holds what holds of none, and of one more where that one fits and it holds of those behind it.
  pub chain_holds : (Holds : S → List A → Type 0) → ((s : S) → Holds s []) → ((s : S) (x : A) (xs : List A) → (f s).fits x ≡ true → Holds (next x s) xs → Holds s (x ∷ xs))
      → (s : S) (xs : List A) → fit_from next f s xs ≡ true → Holds s xs
  chain_holds Holds none more s [] fits = none s
  chain_holds Holds none more s (x ∷ xs) fits =
      let a = and_parts ((f s).fits x) (fit_from next f (next x s) xs) fits in
      more s x xs a.0 (chain_holds Holds none more (next x s) xs a.1)

-- ---- what holds of each

module _ {A : Type 0} where
  pub all_join : (P : A → Type 0) (xs ys : List A) → AllByRecursion P xs → AllByRecursion P ys → AllByRecursion P (xs ++ ys)
  all_join P [] ys front back = back
  all_join P (x ∷ xs) ys front back = (front.0, all_join P xs ys front.1 back)

  pub all_so : (P Q : A → Type 0) → ((x : A) → P x → Q x) → (xs : List A) → AllByRecursion P xs → AllByRecursion Q xs
  all_so P Q so [] all = tt
  all_so P Q so (x ∷ xs) all = (so x all.0, all_so P Q so xs all.1)

pub all_flattened : {A B : Type 0} (P : B → Type 0) (f : A → List B) (xs : List A) → AllByRecursion (λ x. AllByRecursion P (f x)) xs → AllByRecursion P (flat_map f xs)
all_flattened P f [] all = tt
all_flattened P f (x ∷ xs) all = subst (AllByRecursion P) (sym (flat_map-cons f x xs)) (all_join P (f x) (flat_map f xs) all.0 (all_flattened P f xs all.1))
