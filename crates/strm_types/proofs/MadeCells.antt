-- Cells that are made: how many they are, and the bytes that they have.
use Rattle.std.proofs.Common.{ℕ, suc, ◌≡◌, ◌+◌, List, [], ◌∷◌, ◌++◌, length, map, refl, sym, ap, ◌∙◌, arith}
use Rattle.strm_types.specs.declared.names.Dir.{Dir}
use Rattle.strm_types.specs.Cells.{Cells, AreCells, cells_made, plain}
use Rattle.strm_types.specs.Deliver.{Fate, Goes, Comes}
use Rattle.strm_types.specs.Input.{made_of}

pub made-both : {C : Type 0} (a b : List (Fate C)) → made_of (a ++ b) ≡ made_of a + made_of b
made-both [] b = omega arith
made-both (Comes dir cells ∷ a) b = let more = made-both a b in omega arith
made-both (Goes dir rule cells ∷ a) b = let more = made-both a b in omega arith

pub made-long : {C : Type 0} (cells : Cells C) (dir : Dir) (n : ℕ) (bytes : List ℕ) → length (cells_made cells dir n bytes) ≡ length bytes
made-long cells dir n [] = refl
made-long cells dir n (b ∷ bytes) = let more = made-long cells dir (suc n) bytes in omega arith

pub made-forget : {C : Type 0} (cells : Cells C) → AreCells cells → (dir : Dir) (n : ℕ) (bytes : List ℕ) → cells_made plain dir n bytes ≡ map cells.byte (cells_made cells dir n bytes)
made-forget cells are dir n [] = refl
made-forget cells are dir n (b ∷ bytes) = ap (λ rest. b ∷ rest) (made-forget cells are dir (suc n) bytes) ∙ ap (λ c. c ∷ map cells.byte (cells_made cells dir (suc n) bytes)) (sym (are.byte_made dir n b))

-- plain bytes are themselves, and so the same whichever cells they are
pub made-plain : (dir : Dir) (n : ℕ) (bytes : List ℕ) → cells_made plain dir n bytes ≡ bytes
made-plain dir n [] = refl
made-plain dir n (x ∷ bytes) = ap (λ rest. x ∷ rest) (made-plain dir (suc n) bytes)

pub made-same : (dir : Dir) (a b : ℕ) (bytes : List ℕ) → cells_made plain dir a bytes ≡ cells_made plain dir b bytes
made-same dir a b bytes = made-plain dir a bytes ∙ sym (made-plain dir b bytes)
