-- A line without the bytes at its end that pass a test, byte by byte from its end.
use Rattle.strm_ldterm.proofs.Prelude.{◌≡◌, ℕ, ◌+◌, ◌-◌, ◌<◌, ◌≤◌, Bool, true, false, List, [], ◌∷◌, ◌++◌, length, take, get_or, refl, sym, ap, ◌∙◌}
use Rattle.strm_ldterm.proofs.Prelude.{arith, ◌&&◌, if◌then◌else◌, take_more}
use Rattle.strm_ldterm.specs.Prelude.{is_blank, without_end, is_none_left}
use Rattle.std.proofs.Common.{not}

module _ {C : Type 0} (test : C → Bool) where
  -- one byte in front of what is left
  abbrev in_front : C → List C → List C
  in_front x rest = if is_none_left rest && test x then [] else x ∷ rest

  -- at the end a byte that passes goes
  without_end-taken : (line : List C) (c : C) → test c ≡ true → without_end test (line ++ c ∷ []) ≡ without_end test line
  without_end-taken [] c passes = rw passes refl
  without_end-taken (x ∷ line) c passes = ap (in_front x) (without_end-taken line c passes)

  -- a byte that doesn't pass stays, with those before it
  in_front-push : (x : C) (line : List C) (c : C) → in_front x (line ++ c ∷ []) ≡ x ∷ (line ++ c ∷ [])
  in_front-push x [] c = refl
  in_front-push x (y ∷ line) c = refl

  without_end-kept : (line : List C) (c : C) → test c ≡ false → without_end test (line ++ c ∷ []) ≡ line ++ c ∷ []
  without_end-kept [] c fails = rw fails refl
  without_end-kept (x ∷ line) c fails = ap (in_front x) (without_end-kept line c fails) ∙ in_front-push x line c

  -- the first bytes of a line, of which the last one is looked at
  pub without_end-falls : (line : List C) (left : ℕ) (d : C) → 0 < left → left ≤ length line → test (get_or line (left - 1) d) ≡ true
      → without_end test (take (left - 1) line) ≡ without_end test (take left line)
  without_end-falls line left d some within passes =
      let same : left - 1 + 1 ≡ left = omega arith in
      sym (ap (λ n. without_end test (take n line)) (sym same)
      ∙ ap (without_end test) (take_more line (left - 1) d (omega arith))
      ∙ without_end-taken (take (left - 1) line) (get_or line (left - 1) d) passes)

  pub without_end-stays : (line : List C) (left : ℕ) (d : C) → 0 < left → left ≤ length line → test (get_or line (left - 1) d) ≡ false
      → without_end test (take left line) ≡ take left line
  without_end-stays line left d some within fails =
      let same : left - 1 + 1 ≡ left = omega arith in
      let split : take left line ≡ take (left - 1) line ++ get_or line (left - 1) d ∷ [] =
      ap (λ n. take n line) (sym same) ∙ take_more line (left - 1) d (omega arith) in
      ap (without_end test) split ∙ without_end-kept (take (left - 1) line) (get_or line (left - 1) d) fails ∙ sym split

-- whether a byte is a blank, or isn't one
abbrev pub is_sought : Bool → ℕ → Bool
is_sought blanks b = if blanks then is_blank b else not (is_blank b)
