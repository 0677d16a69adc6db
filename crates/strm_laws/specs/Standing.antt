-- Which typed bytes stand (termio(7I): "Canonical Mode Input Processing"). The edits of a line are listed newest first, and each is
-- numbered by how many came before it. A byte stands while no later edit takes it.
use Rattle.std.specs.Prelude.{ℕ, zero, suc, ◌+◌, Bool, true, false, not, ◌&&◌, ◌||◌, ◌==◌, nat_lt, nat_le, if◌then◌else◌, List, [], ◌∷◌, ◌++◌, length, Option, None, Some}
use Rattle.strm_laws.specs.Prelude.{LINE_MAX, Edit, Types, ErasesByte, ErasesWord, ErasesAll}

-- whether a number below another one passes a test, and how many do
abbrev pub some_below : ℕ → (ℕ → Bool) → Bool
some_below zero test = false
some_below (suc n) test = test n || some_below n test

abbrev pub count_below : ℕ → (ℕ → Bool) → ℕ
count_below zero test = 0
count_below (suc n) test = (if test n then 1 else 0) + count_below n test

module _ {C : Type 0} where
  -- the byte that an edit has typed
  abbrev pub typed_by : Edit C → Option C
  typed_by (Types c) = Some c
  typed_by _ = None

  -- the byte that the edit of a number has typed
  abbrev pub typed_at : ℕ → List (Edit C) → Option C
  typed_at n [] = None
  typed_at n (edit ∷ before) = if n == length before then typed_by edit else typed_at n before

  abbrev pub passes : (C → Bool) → Option C → Bool
  passes test None = false
  passes test (Some c) = test c

module _ {C : Type 0} (blank : C → Bool) where
  -- whether the byte of an edit is a blank
  abbrev pub blank_at : ℕ → List (Edit C) → Bool
  blank_at n edits = passes blank (typed_at n edits)

  -- Whether the byte of a number stands. A byte is added where fewer than 255 stand. ERASE takes the last one: those stay behind
  -- which another one stands. WERASE takes those from which on no blank stands before another byte. KILL takes all.
  abbrev pub stands : List (Edit C) → ℕ → Bool
  stands [] n = false
  stands (Types c ∷ before) n = if n == length before then nat_lt (count_below (length before) (stands before)) LINE_MAX else stands before n
  stands (ErasesByte ∷ before) n = stands before n && some_below (length before) (λ k. nat_lt n k && stands before k)
  stands (ErasesWord ∷ before) n =
      stands before n && some_below (length before) (λ k.
      stands before k && (not (blank_at k before) && some_below k (λ j. nat_le n j && (stands before j && blank_at j before))))
  stands (ErasesAll ∷ before) n = false

  -- a byte that was typed, where it stands
  abbrev pub where_stands : Bool → Option C → List C
  where_stands true (Some c) = c ∷ []
  where_stands _ _ = []

  -- the bytes that stand, of those below a number
  abbrev pub standing_below : ℕ → List (Edit C) → List C
  standing_below zero edits = []
  standing_below (suc n) edits = standing_below n edits ++ where_stands (stands edits n) (typed_at n edits)

  -- the bytes that stand, in the order in which they were typed
  abbrev pub standing_line : List (Edit C) → List C
  standing_line edits = standing_below (length edits) edits
