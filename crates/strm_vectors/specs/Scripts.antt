-- How a script stands in one field of a line.
use Rattle.std.specs.Prelude.{ℕ, Bool, List, [], ◌∷◌, ◌++◌, ◌==◌, if◌then◌else◌, flat_map}

-- the end of a line is `\n`, and a backslash `\\`
abbrev pub spelling : ℕ → List ℕ
spelling byte = if byte == 10 then 92 ∷ 110 ∷ [] else (if byte == 92 then 92 ∷ 92 ∷ [] else byte ∷ [])

unfoldable pub spelled : List ℕ → List ℕ
spelled script = flat_map spelling script

-- what a field spells up to a byte, where a backslash waits for the next one
abbrev pub so_far : List ℕ → Bool → List ℕ
so_far script behind = spelled script ++ (if behind then 92 ∷ [] else [])
