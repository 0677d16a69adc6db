-- What edits do to a line, and which typed bytes stand, as worked out by hand from termio(7I).
use Rattle.std.proofs.Common.{ℕ, ◌≡◌, ◌==◌, ◌&&◌, nat_lt, nat_le, length, if◌then◌else◌, Bool, true, false, List, [], ◌∷◌, ◌++◌, map, refl, replicate}
use Rattle.std.specs.Prelude.{None, Some}
use Rattle.strm_types.specs.Lines.{Edit, Types, ErasesByte, ErasesWord, ErasesAll, is_blank, has_room, edited, line_of}
use Rattle.strm_laws.specs.Standing.{some_below, count_below, typed_at, blank_at, stands, standing_below, standing_line}

-- space and TAB, and bytes beside them: LF, VT, CR, 0, 31, 33, the space with its top bit
pub blanks : map is_blank (32 ∷ 9 ∷ 10 ∷ 11 ∷ 13 ∷ 0 ∷ 8 ∷ 31 ∷ 33 ∷ 160 ∷ []) ≡ true ∷ true ∷ replicate 8 false
blanks = refl

-- 255 bytes at most
pub room : map (λ n. has_room {C = ℕ} (replicate n 97)) (0 ∷ 1 ∷ 254 ∷ 255 ∷ 256 ∷ []) ≡ true ∷ true ∷ true ∷ false ∷ false ∷ []
room = refl

pub typed-into-the-last-place : edited is_blank (Types 98) (replicate 254 97) ≡ replicate 254 97 ++ 98 ∷ []
typed-into-the-last-place = refl

pub typed-into-a-full-line : edited is_blank (Types 98) (replicate 255 97) ≡ replicate 255 97
typed-into-a-full-line = refl

pub erased : map (edited is_blank ErasesByte) ([] ∷ (97 ∷ []) ∷ (97 ∷ 98 ∷ 99 ∷ []) ∷ (97 ∷ 32 ∷ []) ∷ []) ≡ [] ∷ [] ∷ (97 ∷ 98 ∷ []) ∷ (97 ∷ []) ∷ []
erased = refl

-- an empty line, blanks alone, one word, blanks at its end, two words, a word behind blanks, TABs and spaces, blanks before the first word
pub words-erased : map (edited is_blank ErasesWord) (
    []
    ∷ (32 ∷ 9 ∷ [])
    ∷ (97 ∷ 98 ∷ [])
    ∷ (97 ∷ 98 ∷ 32 ∷ 32 ∷ [])
    ∷ (97 ∷ 98 ∷ 32 ∷ 99 ∷ 100 ∷ [])
    ∷ (97 ∷ 98 ∷ 32 ∷ 99 ∷ 100 ∷ 32 ∷ [])
    ∷ (97 ∷ 9 ∷ 32 ∷ 98 ∷ 32 ∷ 9 ∷ [])
    ∷ (32 ∷ 32 ∷ 99 ∷ [])
    ∷ [])
    ≡ [] ∷ [] ∷ [] ∷ [] ∷ (97 ∷ 98 ∷ 32 ∷ []) ∷ (97 ∷ 98 ∷ 32 ∷ []) ∷ (97 ∷ 9 ∷ 32 ∷ []) ∷ (32 ∷ 32 ∷ []) ∷ []
words-erased = refl

pub killed : map (edited is_blank ErasesAll) ([] ∷ (97 ∷ 32 ∷ 98 ∷ []) ∷ []) ≡ [] ∷ [] ∷ []
killed = refl

-- Lists of edits, the newest one first.
abbrev edits : List (List (Edit ℕ))
edits =
    []
    -- a b
    ∷ (Types 98 ∷ Types 97 ∷ [])
    -- ERASE of an empty line, a
    ∷ (Types 97 ∷ ErasesByte ∷ [])
    -- a b ERASE c
    ∷ (Types 99 ∷ ErasesByte ∷ Types 98 ∷ Types 97 ∷ [])
    -- a b c ERASE ERASE
    ∷ (ErasesByte ∷ ErasesByte ∷ Types 99 ∷ Types 98 ∷ Types 97 ∷ [])
    -- a ERASE ERASE b
    ∷ (Types 98 ∷ ErasesByte ∷ ErasesByte ∷ Types 97 ∷ [])
    -- a b KILL c d
    ∷ (Types 100 ∷ Types 99 ∷ ErasesAll ∷ Types 98 ∷ Types 97 ∷ [])
    -- a KILL
    ∷ (ErasesAll ∷ Types 97 ∷ [])
    -- a SP b WERASE
    ∷ (ErasesWord ∷ Types 98 ∷ Types 32 ∷ Types 97 ∷ [])
    -- a SP b TAB WERASE c
    ∷ (Types 99 ∷ ErasesWord ∷ Types 9 ∷ Types 98 ∷ Types 32 ∷ Types 97 ∷ [])
    -- SP TAB WERASE
    ∷ (ErasesWord ∷ Types 9 ∷ Types 32 ∷ [])
    -- SP a WERASE
    ∷ (ErasesWord ∷ Types 97 ∷ Types 32 ∷ [])
    -- a SP b ERASE WERASE: the space goes, and the word before it
    ∷ (ErasesWord ∷ ErasesByte ∷ Types 98 ∷ Types 32 ∷ Types 97 ∷ [])
    -- a b SP c WERASE WERASE
    ∷ (ErasesWord ∷ ErasesWord ∷ Types 99 ∷ Types 32 ∷ Types 98 ∷ Types 97 ∷ [])
    -- a SP b SP SP WERASE ERASE d
    ∷ (Types 100 ∷ ErasesByte ∷ ErasesWord ∷ Types 32 ∷ Types 32 ∷ Types 98 ∷ Types 32 ∷ Types 97 ∷ [])
    -- a KILL WERASE b
    ∷ (Types 98 ∷ ErasesWord ∷ ErasesAll ∷ Types 97 ∷ [])
    -- a SP ERASE b WERASE: the space that was taken parts no words
    ∷ (ErasesWord ∷ Types 98 ∷ ErasesByte ∷ Types 32 ∷ Types 97 ∷ [])
    -- a b KILL c d ERASE: what was taken once doesn't come back
    ∷ (ErasesByte ∷ Types 100 ∷ Types 99 ∷ ErasesAll ∷ Types 98 ∷ Types 97 ∷ [])
    -- a KILL b SP c WERASE
    ∷ (ErasesWord ∷ Types 99 ∷ Types 32 ∷ Types 98 ∷ ErasesAll ∷ Types 97 ∷ [])
    ∷ []

-- the lines that they lead to
abbrev lines : List (List ℕ)
lines =
    []
    ∷ (97 ∷ 98 ∷ [])
    ∷ (97 ∷ [])
    ∷ (97 ∷ 99 ∷ [])
    ∷ (97 ∷ [])
    ∷ (98 ∷ [])
    ∷ (99 ∷ 100 ∷ [])
    ∷ []
    ∷ (97 ∷ 32 ∷ [])
    ∷ (97 ∷ 32 ∷ 99 ∷ [])
    ∷ []
    ∷ (32 ∷ [])
    ∷ []
    ∷ []
    ∷ (97 ∷ 100 ∷ [])
    ∷ (98 ∷ [])
    ∷ []
    ∷ (99 ∷ [])
    ∷ (98 ∷ 32 ∷ [])
    ∷ []

pub lines-edited : map (line_of is_blank) edits ≡ lines
lines-edited = refl

pub lines-that-stand : map (standing_line is_blank) edits ≡ lines
lines-that-stand = refl

-- one script: "ab cd ", WERASE, NL
abbrev script : List (Edit ℕ)
script = Types 10 ∷ ErasesWord ∷ Types 32 ∷ Types 100 ∷ Types 99 ∷ Types 32 ∷ Types 98 ∷ Types 97 ∷ []

pub script-edited : line_of is_blank script ≡ 97 ∷ 98 ∷ 32 ∷ 10 ∷ []
script-edited = refl

pub script-stands : standing_line is_blank script ≡ 97 ∷ 98 ∷ 32 ∷ 10 ∷ []
script-stands = refl

-- a, b, the space and NL stand, as numbers 0, 1, 2 and 7; beyond the last one none does
pub numbers-that-stand : map (stands is_blank script) (0 ∷ 1 ∷ 2 ∷ 3 ∷ 4 ∷ 5 ∷ 6 ∷ 7 ∷ 8 ∷ [])
    ≡ true ∷ true ∷ true ∷ false ∷ false ∷ false ∷ false ∷ true ∷ false ∷ []
numbers-that-stand = refl

pub bytes-typed : map (λ n. typed_at n script) (0 ∷ 2 ∷ 6 ∷ 7 ∷ 8 ∷ []) ≡ Some 97 ∷ Some 32 ∷ None ∷ Some 10 ∷ None ∷ []
bytes-typed = refl

pub blanks-typed : map (λ n. blank_at is_blank n script) (0 ∷ 2 ∷ 5 ∷ 6 ∷ 7 ∷ 8 ∷ []) ≡ false ∷ true ∷ true ∷ false ∷ false ∷ false ∷ []
blanks-typed = refl

pub bytes-that-stand-below : map (λ n. standing_below is_blank n script) (0 ∷ 2 ∷ 5 ∷ 7 ∷ []) ≡ [] ∷ (97 ∷ 98 ∷ []) ∷ (97 ∷ 98 ∷ 32 ∷ []) ∷ (97 ∷ 98 ∷ 32 ∷ []) ∷ []
bytes-that-stand-below = refl

-- a byte that is typed stands where fewer than 255 stand, whatever stands before it
pub room-to-stand : {C : Type 0} (blank : C → Bool) (c : C) (before : List (Edit C)) (n : ℕ)
    → stands blank (Types c ∷ before) n ≡ (if n == length before then nat_lt (count_below (length before) (stands blank before)) 255 else stands blank before n)
room-to-stand blank c before n = refl

-- numbers below another one
pub some-below : map (λ n. some_below n (λ k. k == 2)) (0 ∷ 1 ∷ 2 ∷ 3 ∷ 9 ∷ []) ≡ false ∷ false ∷ false ∷ true ∷ true ∷ []
some-below = refl

pub counted-below : map (λ n. count_below n (λ k. nat_lt 1 k && nat_le k 4)) (0 ∷ 2 ∷ 3 ∷ 5 ∷ 9 ∷ []) ≡ 0 ∷ 0 ∷ 1 ∷ 3 ∷ 3 ∷ []
counted-below = refl
