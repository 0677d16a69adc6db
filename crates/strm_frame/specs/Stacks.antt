-- The modules of a stream, beside a store.
use Rattle.std.specs.Prelude.{ℕ, ◌≤◌, ◌<◌, List, [], ◌∷◌, map, sum_by, Option, None, Some}
use Rattle.std.specs.List.{AllByRecursion}
use Rattle.strm_blocks.specs.Blocks.{StoreValue}

-- what they stand for
abbrev pub all_in : {X P : Type 0} → (StoreValue → X → P) → StoreValue → List X → List P
all_in plain s xs = map (plain s) xs

-- what all together own or keep
abbrev pub all_of : {X : Type 0} → (X → ℕ → ℕ) → List X → ℕ → ℕ
all_of f xs k = sum_by (λ x. f x k) xs

-- the lists of each come behind those of the ones below it
abbrev pub LieInOrder : {X : Type 0} → (X → ℕ → ℕ) → List X → Type 0
LieInOrder owns [] = Unit {0}
LieInOrder owns (x ∷ xs) = ((j k : ℕ) → 0 < all_of owns xs j → 0 < owns x k → j < k) × LieInOrder owns xs

-- Each module fits the store, and no list is of two; a module's come behind those of the modules below it.
pub record AreHeld {X : Type 0} (IsHeld : StoreValue → X → Type 0) (owns : X → ℕ → ℕ) (s : StoreValue) (xs : List X) : Type 0 where
  pub each : AllByRecursion (IsHeld s) xs
  pub apart : (k : ℕ) → all_of owns xs k ≤ 1
  pub order : LieInOrder owns xs

-- a place is that of one of so many modules, where it is one: from 1 up
abbrev pub IsPlace : ℕ → Option ℕ → Type 0
IsPlace many None = Unit {0}
IsPlace many (Some place) = (0 < place) × (place ≤ many)
