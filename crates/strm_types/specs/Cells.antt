-- Cells: what stands for a byte. Definitions that move bytes are written over any cells, and serve plain bytes, which
-- code has, and bytes with their origin, which show that none is lost or doubled.
use Rattle.std.specs.Prelude.{◌≡◌, ℕ, suc, List, [], ◌∷◌, map}
use Rattle.strm_types.specs.declared.names.Dir.{Dir}

-- what is asked of cells: the byte of one; the same cell with another byte; the nth that was written in a direction, and
-- the nth that was made in it, as an echo is
pub record Cells (C : Type 0) : Type 0 where
  pub byte : C → ℕ
  pub mapped : ℕ → C → C
  pub written : Dir → ℕ → ℕ → C
  pub made : Dir → ℕ → ℕ → C

-- cells that have the bytes that they were given
pub record AreCells {C : Type 0} (cells : Cells C) : Type 0 where
  pub byte_mapped : (b : ℕ) (c : C) → cells.byte (cells.mapped b c) ≡ b
  pub byte_written : (dir : Dir) (n b : ℕ) → cells.byte (cells.written dir n b) ≡ b
  pub byte_made : (dir : Dir) (n b : ℕ) → cells.byte (cells.made dir n b) ≡ b

-- plain bytes
abbrev pub plain : Cells ℕ
plain = record { byte = λ c. c; mapped = λ b c. b; written = λ dir n b. b; made = λ dir n b. b }

-- where a byte comes from: the nth that was written in a direction, the nth that was made there, or the nth that stood
-- there when the journal began
pub data Origin : Type 0 where
  Written : Dir → ℕ → Origin
  Made : Dir → ℕ → Origin
  Base : Dir → ℕ → Origin

-- a byte with its origin
pub record Tagged : Type 0 where
  pub byte : ℕ
  pub origin : Origin

abbrev pub tagged : Cells Tagged
tagged = record {
  byte = λ c. c.byte;
  mapped = λ b c. record c { byte = b };
  written = λ dir n b. record { byte = b; origin = Written dir n };
  made = λ dir n b. record { byte = b; origin = Made dir n };
}

module _ {C : Type 0} (cells : Cells C) where
  -- the cells of bytes that are written in a direction, the first of them as the nth there
  abbrev pub cells_written : Dir → ℕ → List ℕ → List C
  cells_written dir n [] = []
  cells_written dir n (b ∷ bytes) = cells.written dir n b ∷ cells_written dir (suc n) bytes

  -- the cells of bytes that are made in a direction, as an echo is, the first of them as the nth there
  abbrev pub cells_made : Dir → ℕ → List ℕ → List C
  cells_made dir n [] = []
  cells_made dir n (b ∷ bytes) = cells.made dir n b ∷ cells_made dir (suc n) bytes

  -- the bytes of cells: their origins are forgotten
  abbrev pub bytes_of : List C → List ℕ
  bytes_of = map cells.byte
