-- What words name.
use Rattle.std.specs.Prelude.{ℕ, ◌==◌, is_some, Bool, if◌then◌else◌, List, [], ◌∷◌, Option, None, Some}
use Rattle.std.specs.Borrow.{Bor}

-- the second step on what the first found
abbrev pub and_then : {A B : Type 0} → (A → Option B) → Option A → Option B
and_then f None = None
and_then f (Some x) = f x

-- the first that is there
abbrev pub either_of : {A : Type 0} → Option A → Option A → Option A
either_of None second = second
either_of (Some first) second = Some first

-- what follows a word at the front of a text
abbrev pub after : List ℕ → List ℕ → Option (List ℕ)
after [] line = Some line
after (w ∷ word) [] = None
after (w ∷ word) (b ∷ line) = if w == b then after word line else None

-- a value, where nothing follows
abbrev pub at_end : {A : Type 0} → A → List ℕ → Option A
at_end x [] = Some x
at_end x (_ ∷ _) = None

-- a value, where the line is a word and no more
abbrev pub whole : {A : Type 0} → List ℕ → A → List ℕ → Option A
whole word x line = and_then (at_end x) (after word line)

-- whether a text is a word and no more
abbrev pub is_whole : List ℕ → List ℕ → Bool
is_whole word text = is_some (whole word text text)

-- what a word names: the value of the first row that has it
abbrev pub named : {A : Type 0} → List (List ℕ × A) → List ℕ → Option A
named [] word = None
named (row ∷ rows) word = if is_whole row.0 word then Some row.1 else named rows word

-- a row of the code
abbrev pub row_of : {A : Type 0} → Bor (List ℕ) × A → List ℕ × A
row_of row = (row.0.now, row.1)
