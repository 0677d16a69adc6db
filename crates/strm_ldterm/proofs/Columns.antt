-- Columns of lines, and of what is rubbed out.
use Rattle.strm_ldterm.proofs.Prelude.{◌≡◌, ℕ, ◌+◌, ◌-◌, ◌≤◌, Bool, true, false, List, [], ◌∷◌, ◌++◌, take, drop, refl, sym, ap, ◌∙◌, arith}
use Rattle.strm_ldterm.proofs.Prelude.{if◌then◌else◌}
use Rattle.strm_ldterm.specs.Prelude.{Termios, column_from, rub_out, echo, echoe}
use Rattle.std.proofs.lemmas.List.{take-append-drop}
use Rattle.strm_types.specs.Echo.{erase_echo, under_echo, width_at}

-- what a condition that holds chooses
chosen : (holds : Bool) (this that : List ℕ) → holds ≡ true → (if holds then this else that) ≡ this
chosen true this that h = refl
chosen false this that h = absurd (let e : false ≡ true = h in cc)

module _ (t : Termios) where
  column_from-append : (from : ℕ) (xs ys : List ℕ) → column_from t from (xs ++ ys) ≡ column_from t (column_from t from xs) ys
  column_from-append from [] ys = refl
  column_from-append from (b ∷ xs) ys = column_from-append (from + width_at t from b) xs ys

  -- a line in two parts
  pub column_from-parts : (from left : ℕ) (line : List ℕ) → column_from t (column_from t from (take left line)) (drop left line) ≡ column_from t from line
  column_from-parts from left line =
      sym (column_from-append from (take left line) (drop left line)) ∙ ap (column_from t from) (take-append-drop left line)

  -- no byte goes back
  pub column_from-grows : (from : ℕ) (line : List ℕ) → from ≤ column_from t from line
  column_from-grows from [] = omega arith
  column_from-grows from (b ∷ line) = let more = column_from-grows (from + width_at t from b) line in omega arith

  -- what ERASE and WERASE rub out under ECHOE
  pub erase_echo-rubs : (line : List ℕ) (left byte kept all : ℕ) → echo t ≡ true → echoe t ≡ true
      → kept ≡ column_from t 0 (take left line) → all ≡ column_from t kept (drop left line)
      → rub_out (all - kept) ≡ under_echo t (erase_echo t line (take left line) byte)
  erase_echo-rubs line left byte kept all echoes rubs kept_is all_is =
      let whole : all ≡ column_from t 0 line =
      all_is ∙ ap (λ n. column_from t n (drop left line)) kept_is ∙ column_from-parts 0 left line in
      ap (λ n. rub_out (n - kept)) whole
      ∙ ap (λ n. rub_out (column_from t 0 line - n)) kept_is
      ∙ sym (chosen (echoe t) _ _ rubs)
      ∙ sym (chosen (echo t) _ _ echoes)
