-- What the crate's values stand for.
use Rattle.std.specs.Prelude.{ℕ, List}
use Rattle.std.specs.Borrow.{Bor}
use Rattle.strm_script.specs.ScriptReading.{Front}

-- a value and the text behind it
abbrev pub front_of : {A : Type 0} → A × Bor (List ℕ) → Front A
front_of found = record { value = found.0; rest = found.1.now }

-- what a value stands for, and the text behind it
abbrev pub front_as : {A B : Type 0} → (A → B) → A × Bor (List ℕ) → Front B
front_as f found = record { value = f found.0; rest = found.1.now }

-- a word and the text behind it
abbrev pub words_of : Bor (List ℕ) × Bor (List ℕ) → Front (List ℕ)
words_of found = record { value = found.0.now; rest = found.1.now }
