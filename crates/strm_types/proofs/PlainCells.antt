-- Plain bytes are cells, and so are bytes with their origin.
use Rattle.std.proofs.Common.{ℕ, suc, ◌≡◌, List, [], ◌∷◌, refl, ap, ◌∙◌}
use Rattle.strm_types.specs.declared.names.Dir.{Dir}
use Rattle.strm_types.specs.Cells.{Cells, AreCells, plain, tagged, cells_written, bytes_of}

pub plain-cells : AreCells plain
plain-cells = record { byte_mapped = λ b c. refl; byte_written = λ dir n b. refl; byte_made = λ dir n b. refl }

pub tagged-cells : AreCells tagged
tagged-cells = record { byte_mapped = λ b c. refl; byte_written = λ dir n b. refl; byte_made = λ dir n b. refl }

-- what is written are the bytes themselves
pub written-plain : (dir : Dir) (n : ℕ) (bytes : List ℕ) → cells_written plain dir n bytes ≡ bytes
written-plain dir n [] = refl
written-plain dir n (b ∷ bytes) = ap (λ rest. b ∷ rest) (written-plain dir (suc n) bytes)

-- they have no origin to forget
pub bytes-plain : (xs : List ℕ) → bytes_of plain xs ≡ xs
bytes-plain [] = refl
bytes-plain (x ∷ xs) = ap (λ rest. x ∷ rest) (bytes-plain xs)

-- cells of written bytes have these bytes
pub written-bytes : {C : Type 0} (cells : Cells C) → AreCells cells → (dir : Dir) (n : ℕ) (bytes : List ℕ) → bytes_of cells (cells_written cells dir n bytes) ≡ bytes
written-bytes cells are dir n [] = refl
written-bytes cells are dir n (b ∷ bytes) = ap (λ rest. cells.byte (cells.written dir n b) ∷ rest) (written-bytes cells are dir (suc n) bytes) ∙ ap (λ c. c ∷ bytes) (are.byte_written dir n b)
