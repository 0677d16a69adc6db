-- The unfinished line of input, and what is typed into it (termio(7I): "Canonical Mode Input Processing", ERASE, WERASE, KILL).
use Rattle.std.specs.Prelude.{ℕ, ◌-◌, Bool, not, ◌&&◌, ◌||◌, ◌==◌, nat_lt, if◌then◌else◌, List, [], ◌∷◌, ◌++◌, length, take}
use Rattle.strm_types.specs.declared.keys.TheConstants.{LINE_MAX}
use Rattle.strm_types.specs.Queue.{is_none_left}

-- What a key does to the line: a byte is added, where there is room; the last byte goes; the last word goes; all of it goes.
pub data Edit (C : Type 0) : Type 0 where
  Types : C → Edit C
  ErasesByte : Edit C
  ErasesWord : Edit C
  ErasesAll : Edit C

-- blanks part words: space and TAB
abbrev pub is_blank : ℕ → Bool
is_blank b = b == 32 || b == 9

module _ {C : Type 0} where
  -- whether a line has room for a byte; a delimiter doesn't count
  abbrev pub has_room : List C → Bool
  has_room line = nat_lt (length line) LINE_MAX

  -- without the last byte
  abbrev pub without_last : List C → List C
  without_last line = take (length line - 1) line

  -- without the last ones that pass a test
  abbrev pub without_end : (C → Bool) → List C → List C
  without_end test [] = []
  without_end test (c ∷ line) =
      let rest = without_end test line in
      if is_none_left rest && test c then [] else c ∷ rest

  -- without the blanks at the end, and the word before them
  abbrev pub without_word : (C → Bool) → List C → List C
  without_word blank line = without_end (λ c. not (blank c)) (without_end blank line)

  -- the line behind an edit
  abbrev pub edited : (C → Bool) → Edit C → List C → List C
  edited blank (Types c) line = if has_room line then line ++ c ∷ [] else line
  edited blank ErasesByte line = without_last line
  edited blank ErasesWord line = without_word blank line
  edited blank ErasesAll line = []

  -- the line behind several edits, the newest one first
  abbrev pub line_of : (C → Bool) → List (Edit C) → List C
  line_of blank [] = []
  line_of blank (edit ∷ before) = edited blank edit (line_of blank before)
