-- Bytes of the message in work that go out off its front.
use Rattle.strm_ldterm.proofs.Prelude.{cases_eq, inl, inr, ℕ, ◌≡◌, ◌≤◌, ◌<◌, List, [], ◌++◌, length, drop, take, sym, ap, subst, ◌∙◌, arith}
use Rattle.strm_ldterm.proofs.Prelude.{length-append, length-take, Some}
use Rattle.strm_ldterm.specs.Prelude.{Fates, cells_left, left_of, with_left, sends, Message, cells_of, StoreValue, IsStore, token, InHand, AreIn}
use Rattle.strm_ldterm.specs.Prelude.{message_in}
use Rattle.strm_types.specs.Ldterms as ldterms
use Rattle.strm_ldterm.specs.Becoming.{Becomes}
use Rattle.strm_ldterm.specs.Does.{Proceeds}
use Rattle.strm_ldterm.specs.Stands.{ldterm_in, keeps, IsHeld, Paired}
use Rattle.strm_ldterm.proofs.Begun.{busy-cells, busy-left, work-comes}
use Rattle.strm_ldterm.proofs.FreeBefore.{take-front}
use Rattle.strm_ldterm.proofs.Runs.{take-twice}
use Rattle.strm_ldterm.proofs.Skipped.{becomes-both}

-- so many were taken off its first block that has some
module _ (s s1 s2 : StoreValue) (x : Paired) (m q r : InHand) (n : ℕ) (there : x.in_work ≡ Some m) (st1 : IsStore s1) (skipped : Becomes s s1 (token m) (token q) (message_in s (token m)))
    (trimmed : Becomes s1 s2 (token q) (token r) (left_of (drop n (cells_of (message_in s1 (token q)))) (message_in s1 (token q)))) where
  abbrev work : Message ℕ
  work = message_in s (token m)

  pub front-went : IsStore s2 → IsHeld s x → AreIn s (λ _. 0) (keeps x) → (f : Fates)
      → Proceeds s s2 x (record x { in_work = Some r }) 0 [] [] f f (sends [] (with_left (drop n (cells_left (ldterm_in s x))) (ldterm_in s x)))
  front-went st2 held kept f =
      let left = left_of (drop n (cells_of work)) work in
      let both = becomes-both s s1 s2 (token m) (token q) (token r) work left st1 skipped (subst (λ (w : Message ℕ). Becomes s1 s2 (token q) (token r) (left_of (drop n (cells_of w)) w)) skipped.shows trimmed) in
      subst (λ (p : ldterms.Discipline ℕ). Proceeds s s2 x (record x { in_work = Some r }) 0 [] [] f f (sends [] p)) (sym (busy-left s x m there n))
      (work-comes s s2 x m r left there st2 held kept both f)

  pub front-taken : (first : List ℕ) (most : ℕ) → n ≤ most → n ≤ length first → (let cells = cells_of (message_in s1 (token q)) in cells ≡ take n first ++ drop n cells)
      → take n (cells_left (ldterm_in s x)) ≡ take n (take most first)
  front-taken first most few within is =
      let cells = cells_of (message_in s1 (token q)) in
      let long : n ≤ length (take n first) = omega (arith, length-take n first, within) in
      ap (take n) (busy-cells s x m there ∙ ap cells_of (sym skipped.shows) ∙ is) ∙ take-front n (take n first) (drop n cells) long ∙ take-twice n n first (omega arith) ∙ sym (take-twice n most first few)

  pub front-within : (first : List ℕ) → n ≤ length first → (let cells = cells_of (message_in s1 (token q)) in cells ≡ take n first ++ drop n cells) → n ≤ length (cells_left (ldterm_in s x))
  front-within first within is =
      let cells = cells_of (message_in s1 (token q)) in
      omega (arith, within, length-take n first, length-append (take n first) (drop n cells), ap length is, ap length (busy-cells s x m there ∙ ap cells_of (sym skipped.shows)))

  pub front-some : (first : List ℕ) → 0 < length (cells_left (ldterm_in s x)) → (length first ≡ 0 → cells_of work ≡ []) → 0 < length first
  front-some first some shown = elim (cases_eq (length first) 0) [
    | inl none ↦ absurd (let e = ap length (busy-cells s x m there ∙ shown none) in omega arith)
    | inr other ↦ omega (arith, other)
  ]
