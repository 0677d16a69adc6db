-- The line that is edited byte by byte is what stands of what was typed.
use Rattle.std.proofs.Common.{ℕ, zero, suc, ◌≡◌, ◌<◌, ◌+◌, ◌-◌, inl, inr, Bool, true, false, cond, List, [], ◌∷◌, ◌++◌, length, take, refl, sym, ap, subst, ◌∙◌, arith, append-nil, length-append}
use Rattle.std.proofs.lemmas.Bool.{false≢true, cases_Bool, cases_eq, or_cases, and_parts, and_from, eq-eqb, ne_eqb, ltb-true, leb-true, lt-ltb, le-leb, not-true}
use Rattle.std.proofs.lemmas.List.{take-append-le}
use Rattle.std.specs.Prelude.{not, ◌&&◌, ◌||◌, nat_lt, nat_le, Option, None, Some}
use Rattle.strm_types.specs.declared.keys.TheConstants.{LINE_MAX}
use Rattle.strm_types.specs.Lines.{Edit, Types, ErasesByte, ErasesWord, ErasesAll, edited, has_room, line_of, without_end, without_last}
use Rattle.strm_types.specs.Queue.{is_none_left}
use Rattle.strm_laws.specs.Standing.{some_below, count_below, typed_by, typed_at, passes, blank_at, stands, where_stands, standing_below, standing_line}

-- two tests of which each follows from the other
agree : (a b : Bool) → (a ≡ true → b ≡ true) → (b ≡ true → a ≡ true) → a ≡ b
agree true true to from = refl
agree true false to from = sym (to refl)
agree false true to from = from refl
agree false false to from = refl

fails : (a : Bool) → (a ≡ true → ⊥) → a ≡ false
fails true never = absurd (never refl)
fails false never = refl

or-left : (a b : Bool) → a ≡ true → (a || b) ≡ true
or-left true b is = refl
or-left false b is = absurd (false≢true is)

or-right : (a b : Bool) → b ≡ true → (a || b) ≡ true
or-right true b is = refl
or-right false b is = is

-- a test that holds of a number below another one
some-from : (n : ℕ) (test : ℕ → Bool) → some_below n test ≡ true → (k : ℕ) × (k < n) × (test k ≡ true)
some-from zero test is = absurd (false≢true is)
some-from (suc n) test is = elim (or_cases (test n) (some_below n test) is) [
  | inl last ↦ (n, omega arith, last)
  | inr before ↦ let found = some-from n test before in (found.0, omega arith, found.2)
]

some-to : (n k : ℕ) (test : ℕ → Bool) → k < n → test k ≡ true → some_below n test ≡ true
some-to zero k test low is = absurd (omega arith)
some-to (suc n) k test low is = elim (cases_eq k n) [
  | inl last ↦ or-left (test n) (some_below n test) (subst (λ (i : ℕ). test i ≡ true) last is)
  | inr other ↦ or-right (test n) (some_below n test) (some-to n k test (omega arith) is)
]

module _ {C : Type 0} where
  -- without the last one
  last-gone : (line : List C) (c : C) → without_last (line ++ c ∷ []) ≡ line
  last-gone line c =
      let less : length (line ++ c ∷ []) - 1 ≡ length line = omega (arith, length-append line (c ∷ [])) in
      ap (λ n. take n (line ++ c ∷ [])) less ∙ take-append-le (length line) line (c ∷ []) (omega arith) ∙ take-all line
    where
      take-all : (xs : List C) → take (length xs) xs ≡ xs
      take-all [] = refl
      take-all (x ∷ xs) = ap (λ l. x ∷ l) (take-all xs)

  -- without the last ones that pass a test, where one more stands at the end
  end-gone : (test : C → Bool) (line : List C) (c : C) → without_end test (line ++ c ∷ []) ≡ cond (test c) (without_end test line) (line ++ c ∷ [])
  end-gone test [] c = refl
  end-gone test (x ∷ line) c = at (test c) (without_end test (line ++ c ∷ [])) (end-gone test line c)
    where
      one-left : (xs : List C) → is_none_left (xs ++ c ∷ []) ≡ false
      one-left [] = refl
      one-left (y ∷ xs) = refl

      at : (b : Bool) (rest : List C) → rest ≡ cond b (without_end test line) (line ++ c ∷ []) → cond (is_none_left rest && test x) [] (x ∷ rest) ≡ cond b (without_end test (x ∷ line)) (x ∷ (line ++ c ∷ []))
      at true rest is = ap (λ r. cond (is_none_left r && test x) [] (x ∷ r)) is
      at false rest is = ap (λ r. cond (is_none_left r && test x) [] (x ∷ r)) is ∙ ap (λ b. cond (b && test x) [] (x ∷ (line ++ c ∷ []))) (one-left line)

module _ {C : Type 0} (blank : C → Bool) where
  -- of the bytes of the first numbers, those that are chosen
  abbrev chosen : (ℕ → Bool) → (ℕ → Option C) → ℕ → List C
  chosen s at zero = []
  chosen s at (suc n) = chosen s at n ++ where_stands blank (s n) (at n)

  chosen-same : (s t : ℕ → Bool) (at by : ℕ → Option C) (n : ℕ) → ((k : ℕ) → k < n → s k ≡ t k) → ((k : ℕ) → k < n → at k ≡ by k) → chosen s at n ≡ chosen t by n
  chosen-same s t at by zero same alike = refl
  chosen-same s t at by (suc n) same alike =
      rw (chosen-same s t at by n (λ k low. same k (omega arith)) (λ k low. alike k (omega arith)), same n (omega arith), alike n (omega arith)) refl

  -- where the last number isn't chosen, or has no byte
  not-chosen : (s : ℕ → Bool) (at : ℕ → Option C) (n : ℕ) → s n ≡ false → chosen s at (suc n) ≡ chosen s at n
  not-chosen s at n is = ap (λ b. chosen s at n ++ where_stands blank b (at n)) is ∙ append-nil (chosen s at n)

  not-typed : (s : ℕ → Bool) (at : ℕ → Option C) (n : ℕ) → at n ≡ None → chosen s at (suc n) ≡ chosen s at n
  not-typed s at n is = ap (λ o. chosen s at n ++ where_stands blank (s n) o) is ∙ nothing (s n)
    where
      nothing : (b : Bool) → chosen s at n ++ where_stands blank b None ≡ chosen s at n
      nothing true = append-nil (chosen s at n)
      nothing false = append-nil (chosen s at n)

  is-chosen : (s : ℕ → Bool) (at : ℕ → Option C) (n : ℕ) (c : C) → s n ≡ true → at n ≡ Some c → chosen s at (suc n) ≡ chosen s at n ++ c ∷ []
  is-chosen s at n c is typed = ap (λ b. chosen s at n ++ where_stands blank b (at n)) is ∙ ap (λ o. chosen s at n ++ where_stands blank true o) typed

  -- each number below this one that is chosen has a byte
  abbrev AllTyped : (ℕ → Bool) → (ℕ → Option C) → ℕ → Type 0
  AllTyped s at n = (k : ℕ) → k < n → s k ≡ true → (c : C) × (at k ≡ Some c)

  before : (s : ℕ → Bool) (at : ℕ → Option C) (n : ℕ) → AllTyped s at (suc n) → AllTyped s at n
  before s at n all = λ k low is. all k (omega arith) is

  -- so many are chosen
  counted : (s : ℕ → Bool) (at : ℕ → Option C) (n : ℕ) → AllTyped s at n → count_below n s ≡ length (chosen s at n)
  counted s at zero all = refl
  counted s at (suc n) all = let ih = counted s at n (before s at n all) in elim (cases_Bool (s n)) [
    | inl is ↦ let typed = all n (omega arith) is in
        ap (λ b. cond b 1 0 + count_below n s) is ∙ omega (arith, ap length (is-chosen s at n typed.0 is typed.1), length-append (chosen s at n) (typed.0 ∷ []))
    | inr is ↦ ap (λ b. cond b 1 0 + count_below n s) is ∙ omega (arith, ap length (not-chosen s at n is))
  ]

  -- those behind which another one is chosen
  abbrev but_last : (ℕ → Bool) → ℕ → ℕ → Bool
  but_last s n k = s k && some_below n (λ j. nat_lt k j && s j)

  lasts : (s : ℕ → Bool) (at : ℕ → Option C) (n : ℕ) → AllTyped s at n → chosen (but_last s n) at n ≡ without_last (chosen s at n)
  lasts s at zero all = refl
  lasts s at (suc n) all = not-chosen (but_last s (suc n)) at n ends ∙ elim (cases_Bool (s n)) [
    | inl is ↦ let typed = all n (omega arith) is in
        chosen-same (but_last s (suc n)) s at at n (λ k low. stays k low is) (λ k low. refl)
        ∙ sym (ap (λ l. without_last l) (is-chosen s at n typed.0 is typed.1) ∙ last-gone (chosen s at n) typed.0)
    | inr is ↦
        chosen-same (but_last s (suc n)) (but_last s n) at at n (λ k low. falls k is) (λ k low. refl)
        ∙ lasts s at n (before s at n all) ∙ sym (ap (λ l. without_last l) (not-chosen s at n is))
  ]
    where
      ends : but_last s (suc n) n ≡ false
      ends = fails (but_last s (suc n) n) (λ is.
          let found = some-from (suc n) (λ j. nat_lt n j && s j) (and_parts (s n) (some_below (suc n) (λ j. nat_lt n j && s j)) is).1 in
          let above = ltb-true n found.0 (and_parts (nat_lt n found.0) (s found.0) found.2).0 in
          omega arith)

      stays : (k : ℕ) → k < n → s n ≡ true → but_last s (suc n) k ≡ s k
      stays k low is = agree (but_last s (suc n) k) (s k)
          (λ both. (and_parts (s k) (some_below (suc n) (λ j. nat_lt k j && s j)) both).0)
          (λ here. and_from (s k) (some_below (suc n) (λ j. nat_lt k j && s j)) here (some-to (suc n) n (λ j. nat_lt k j && s j) (omega arith) (and_from (nat_lt k n) (s n) (lt-ltb k n low) is)))

      falls : (k : ℕ) → s n ≡ false → but_last s (suc n) k ≡ but_last s n k
      falls k is = ap (λ b. s k && (b || some_below n (λ j. nat_lt k j && s j))) (fails (nat_lt k n && s n) (λ both. false≢true (sym is ∙ (and_parts (nat_lt k n) (s n) both).1)))

  -- those at which, or behind which, one is chosen that fails a test
  abbrev but_end : (C → Bool) → (ℕ → Bool) → (ℕ → Option C) → ℕ → ℕ → Bool
  but_end test s at n k = s k && some_below n (λ j. nat_le k j && (s j && not (passes test (at j))))

  ends : (test : C → Bool) (s : ℕ → Bool) (at : ℕ → Option C) (n : ℕ) → AllTyped s at n → chosen (but_end test s at n) at n ≡ without_end test (chosen s at n)
  ends test s at zero all = refl
  ends test s at (suc n) all = elim (cases_Bool (s n && not (passes test (at n)))) [
    | inl hit ↦ let here = (and_parts (s n) (not (passes test (at n))) hit).0 in
        let typed = all n (omega arith) here in
        let other : test typed.0 ≡ false = not-true (test typed.0) (sym (ap (λ o. not (passes test o)) typed.1) ∙ (and_parts (s n) (not (passes test (at n))) hit).1) in
        chosen-same (but_end test s at (suc n)) s at at (suc n) (λ k low. stays k low hit) (λ k low. refl)
        ∙ is-chosen s at n typed.0 here typed.1
        ∙ sym (ap (λ l. without_end test l) (is-chosen s at n typed.0 here typed.1) ∙ end-gone test (chosen s at n) typed.0 ∙ ap (λ b. cond b (without_end test (chosen s at n)) (chosen s at n ++ typed.0 ∷ [])) other)
    | inr miss ↦
        not-chosen (but_end test s at (suc n)) at n (drops miss)
        ∙ chosen-same (but_end test s at (suc n)) (but_end test s at n) at at n (λ k low. falls k miss) (λ k low. refl)
        ∙ ends test s at n (before s at n all)
        ∙ elim (cases_Bool (s n)) [
          | inl here ↦ let typed = all n (omega arith) here in
              let passed : test typed.0 ≡ true = passes-there here typed.0 typed.1 miss in
              sym (ap (λ l. without_end test l) (is-chosen s at n typed.0 here typed.1) ∙ end-gone test (chosen s at n) typed.0 ∙ ap (λ b. cond b (without_end test (chosen s at n)) (chosen s at n ++ typed.0 ∷ [])) passed)
          | inr gone ↦ sym (ap (λ l. without_end test l) (not-chosen s at n gone))
        ]
  ]
    where
      passes-there : s n ≡ true → (c : C) → at n ≡ Some c → (s n && not (passes test (at n))) ≡ false → test c ≡ true
      passes-there here c typed miss = elim (cases_Bool (test c)) [
        | inl is ↦ is
        | inr is ↦ absurd (false≢true (sym miss ∙ and_from (s n) (not (passes test (at n))) here (ap (λ o. not (passes test o)) typed ∙ ap (λ b. not b) is)))
      ]

      stays : (k : ℕ) → k < suc n → (s n && not (passes test (at n))) ≡ true → but_end test s at (suc n) k ≡ s k
      stays k low hit = agree (but_end test s at (suc n) k) (s k)
          (λ both. (and_parts (s k) (some_below (suc n) (λ j. nat_le k j && (s j && not (passes test (at j))))) both).0)
          (λ here. and_from (s k) (some_below (suc n) (λ j. nat_le k j && (s j && not (passes test (at j))))) here
          (some-to (suc n) n (λ j. nat_le k j && (s j && not (passes test (at j)))) (omega arith) (and_from (nat_le k n) (s n && not (passes test (at n))) (le-leb k n (omega arith)) hit)))

      falls : (k : ℕ) → (s n && not (passes test (at n))) ≡ false → but_end test s at (suc n) k ≡ but_end test s at n k
      falls k miss = ap (λ b. s k && (b || some_below n (λ j. nat_le k j && (s j && not (passes test (at j))))))
          (fails (nat_le k n && (s n && not (passes test (at n)))) (λ both. false≢true (sym miss ∙ (and_parts (nat_le k n) (s n && not (passes test (at n))) both).1)))

      drops : (s n && not (passes test (at n))) ≡ false → but_end test s at (suc n) n ≡ false
      drops miss = falls n miss ∙ fails (but_end test s at n n) (λ is.
          let found = some-from n (λ j. nat_le n j && (s j && not (passes test (at j)))) (and_parts (s n) (some_below n (λ j. nat_le n j && (s j && not (passes test (at j))))) is).1 in
          let above = leb-true n found.0 (and_parts (nat_le n found.0) (s found.0 && not (passes test (at found.0))) found.2).0 in
          omega arith)

  -- where words end: blanks at the end, and the bytes before them that aren't, are two ends
  abbrev but_word : (ℕ → Bool) → (ℕ → Option C) → ℕ → ℕ → Bool
  but_word s at n i = s i && some_below n (λ k. s k && (not (passes blank (at k)) && some_below k (λ j. nat_le i j && (s j && passes blank (at j)))))

  abbrev blank_from : (ℕ → Bool) → (ℕ → Option C) → ℕ → ℕ → Bool
  blank_from s at i j = nat_le i j && (s j && passes blank (at j))

  abbrev nonblank : (ℕ → Bool) → (ℕ → Option C) → ℕ → ℕ → Bool
  nonblank s at i k = s k && (not (passes blank (at k)) && some_below k (blank_from s at i))

  abbrev other_from : (ℕ → Bool) → (ℕ → Option C) → ℕ → ℕ → Bool
  other_from s at i j = nat_le i j && (s j && not (passes blank (at j)))

  abbrev other_end : (ℕ → Bool) → (ℕ → Option C) → ℕ → ℕ → ℕ → Bool
  other_end s at n i j = nat_le i j && (but_end blank s at n j && not (passes (λ c. not (blank c)) (at j)))

  words : (s : ℕ → Bool) (at : ℕ → Option C) (n : ℕ) → AllTyped s at n → (i : ℕ) → i < n →
      but_word s at n i ≡ but_end (λ c. not (blank c)) (but_end blank s at n) at n i
  words s at n all i low = agree (but_word s at n i) (but_end (λ c. not (blank c)) (but_end blank s at n) at n i)
      (λ is. let parts = and_parts (s i) (some_below n (nonblank s at i)) is in
      let found = some-from n (nonblank s at i) parts.1 in
      let k = found.0 in
      let at_k = and_parts (s k) (not (passes blank (at k)) && some_below k (blank_from s at i)) found.2 in
      let rest = and_parts (not (passes blank (at k))) (some_below k (blank_from s at i)) at_k.1 in
      let inner = some-from k (blank_from s at i) rest.1 in
      let j = inner.0 in
      let at_j = and_parts (nat_le i j) (s j && passes blank (at j)) inner.2 in
      let stands_j = and_parts (s j) (passes blank (at j)) at_j.1 in
      let up = leb-true i j at_j.0 in
      let is_end : (i' : ℕ) → i' < k → s i' ≡ true → but_end blank s at n i' ≡ true = λ i' below here. and_from (s i') (some_below n (other_from s at i')) here
      (some-to n k (other_from s at i') found.1 (and_from (nat_le i' k) (s k && not (passes blank (at k))) (le-leb i' k (omega arith)) (and_from (s k) (not (passes blank (at k))) at_k.0 rest.0))) in
      let typed = all j (omega arith) stands_j.0 in
      and_from (but_end blank s at n i) (some_below n (other_end s at n i)) (is_end i (omega arith) parts.0)
      (some-to n j (other_end s at n i) (omega arith) (and_from (nat_le i j) (but_end blank s at n j && not (passes (λ c. not (blank c)) (at j))) at_j.0
      (and_from (but_end blank s at n j) (not (passes (λ c. not (blank c)) (at j))) (is_end j inner.1 stands_j.0) (turned (at j) stands_j.1)))))
      (λ is. let parts = and_parts (but_end blank s at n i) (some_below n (other_end s at n i)) is in
      let here = (and_parts (s i) (some_below n (other_from s at i)) parts.0).0 in
      let found = some-from n (other_end s at n i) parts.1 in
      let j = found.0 in
      let at_j = and_parts (nat_le i j) (but_end blank s at n j && not (passes (λ c. not (blank c)) (at j))) found.2 in
      let end_j = and_parts (but_end blank s at n j) (not (passes (λ c. not (blank c)) (at j))) at_j.1 in
      let from_j = and_parts (s j) (some_below n (other_from s at j)) end_j.0 in
      let typed = all j found.1 from_j.0 in
      let blank_j : passes blank (at j) ≡ true = back (at j) typed.0 typed.1 end_j.1 in
      let inner = some-from n (other_from s at j) from_j.1 in
      let k = inner.0 in
      let at_k = and_parts (nat_le j k) (s k && not (passes blank (at k))) inner.2 in
      let stands_k = and_parts (s k) (not (passes blank (at k))) at_k.1 in
      let up = leb-true j k at_k.0 in
      let apart : j ≡ k → ⊥ = λ e. false≢true (sym (not-true (passes blank (at j)) (subst (λ (m : ℕ). not (passes blank (at m)) ≡ true) (sym e) stands_k.1)) ∙ blank_j) in
      and_from (s i) (some_below n (nonblank s at i)) here (some-to n k (nonblank s at i) inner.1
      (and_from (s k) (not (passes blank (at k)) && some_below k (blank_from s at i)) stands_k.0
      (and_from (not (passes blank (at k))) (some_below k (blank_from s at i)) stands_k.1
      (some-to k j (blank_from s at i) (omega arith) (and_from (nat_le i j) (s j && passes blank (at j)) at_j.0 (and_from (s j) (passes blank (at j)) from_j.0 blank_j)))))))
    where
      turned : (o : Option C) → passes blank o ≡ true → not (passes (λ c. not (blank c)) o) ≡ true
      turned None is = absurd (false≢true is)
      turned (Some c) is = ap (λ b. not (not b)) is

      back : (o : Option C) (c : C) → o ≡ Some c → not (passes (λ c. not (blank c)) o) ≡ true → passes blank o ≡ true
      back None c typed is = absurd (cc)
      back (Some d) c typed is = twice (blank d) is
        where
          twice : (b : Bool) → not (not b) ≡ true → b ≡ true
          twice true is = refl
          twice false is = is

  -- the byte of an edit before the last one
  typed-before : (edit : Edit C) (edits : List (Edit C)) (n : ℕ) → n < length edits → typed_at n (edit ∷ edits) ≡ typed_at n edits
  typed-before edit edits n low = ap (λ b. cond b (typed_by edit) (typed_at n edits)) (ne_eqb n (length edits) (omega arith))

  typed-last : (edit : Edit C) (edits : List (Edit C)) → typed_at (length edits) (edit ∷ edits) ≡ typed_by edit
  typed-last edit edits = ap (λ b. cond b (typed_by edit) (typed_at (length edits) edits)) (eq-eqb (length edits) (length edits) refl)

  -- what stands was typed
  abbrev IsTyped : List (Edit C) → ℕ → Type 0
  IsTyped edits n = (n < length edits) × ((c : C) × (typed_at n edits ≡ Some c))

  still-typed : (edit : Edit C) (edits : List (Edit C)) (n : ℕ) → IsTyped edits n → IsTyped (edit ∷ edits) n
  still-typed edit edits n typed = (let low = typed.0 in omega arith, (typed.1.0, typed-before edit edits n typed.0 ∙ typed.1.1))

  stands-typed : (edits : List (Edit C)) (n : ℕ) → stands blank edits n ≡ true → IsTyped edits n
  stands-typed [] n is = absurd (false≢true is)
  stands-typed (Types c ∷ edits) n is = elim (cases_eq n (length edits)) [
    | inl last ↦ (omega arith, (c, ap (λ b. cond b (Some c) (typed_at n edits)) (eq-eqb n (length edits) last)))
    | inr other ↦ still-typed (Types c) edits n (stands-typed edits n
        (sym (ap (λ b. cond b (nat_lt (count_below (length edits) (stands blank edits)) LINE_MAX) (stands blank edits n)) (ne_eqb n (length edits) other)) ∙ is))
  ]
  stands-typed (ErasesByte ∷ edits) n is = still-typed ErasesByte edits n (stands-typed edits n (and_parts (stands blank edits n) (some_below (length edits) (λ k. nat_lt n k && stands blank edits k)) is).0)
  stands-typed (ErasesWord ∷ edits) n is = still-typed ErasesWord edits n (stands-typed edits n (and_parts (stands blank edits n) (some_below (length edits) (λ k.
      stands blank edits k && (not (blank_at blank k edits) && some_below k (λ j. nat_le n j && (stands blank edits j && blank_at blank j edits))))) is).0)
  stands-typed (ErasesAll ∷ edits) n is = absurd (false≢true is)

  -- the bytes that stand are those that are chosen
  abbrev of_edits : List (Edit C) → ℕ → Option C
  of_edits edits n = typed_at n edits

  stands-chosen : (edits : List (Edit C)) (n : ℕ) → standing_below blank n edits ≡ chosen (stands blank edits) (of_edits edits) n
  stands-chosen edits zero = refl
  stands-chosen edits (suc n) = ap (λ l. l ++ where_stands blank (stands blank edits n) (typed_at n edits)) (stands-chosen edits n)

  abbrev standing : List (Edit C) → List C
  standing edits = chosen (stands blank edits) (of_edits edits) (length edits)

  all-typed : (edits : List (Edit C)) → AllTyped (stands blank edits) (of_edits edits) (length edits)
  all-typed edits = λ k low is. (stands-typed edits k is).1

  -- an edit that types nothing
  without-byte : (edit : Edit C) (edits : List (Edit C)) (s : ℕ → Bool) → typed_by edit ≡ None →
      ((k : ℕ) → k < length edits → stands blank (edit ∷ edits) k ≡ s k) → standing (edit ∷ edits) ≡ chosen s (of_edits edits) (length edits)
  without-byte edit edits s none same =
      not-typed (stands blank (edit ∷ edits)) (of_edits (edit ∷ edits)) (length edits) (typed-last edit edits ∙ none)
      ∙ chosen-same (stands blank (edit ∷ edits)) s (of_edits (edit ∷ edits)) (of_edits edits) (length edits) same (λ k low. typed-before edit edits k low)

  none-chosen : (at : ℕ → Option C) (n : ℕ) → chosen (λ k. false) at n ≡ []
  none-chosen at zero = refl
  none-chosen at (suc n) = not-chosen (λ k. false) at n refl ∙ none-chosen at n

  -- what each edit does to the bytes that stand
  step : (edit : Edit C) (edits : List (Edit C)) → edited blank edit (standing edits) ≡ standing (edit ∷ edits)
  step (Types c) edits = added (has_room (standing edits))
      ∙ ap (λ b. standing edits ++ where_stands blank b (Some c)) (sym room)
      ∙ ap (λ o. standing edits ++ where_stands blank (stands blank (Types c ∷ edits) (length edits)) o) (sym (typed-last (Types c) edits))
      ∙ ap (λ l. l ++ where_stands blank (stands blank (Types c ∷ edits) (length edits)) (typed_at (length edits) (Types c ∷ edits)))
      (chosen-same (stands blank edits) (stands blank (Types c ∷ edits)) (of_edits edits) (of_edits (Types c ∷ edits)) (length edits)
      (λ k low. sym (ap (λ b. cond b (nat_lt (count_below (length edits) (stands blank edits)) LINE_MAX) (stands blank edits k)) (ne_eqb k (length edits) (omega arith))))
      (λ k low. sym (typed-before (Types c) edits k low)))
    where
      room : stands blank (Types c ∷ edits) (length edits) ≡ has_room (standing edits)
      room = rw (eq-eqb (length edits) (length edits) refl, counted (stands blank edits) (of_edits edits) (length edits) (all-typed edits)) refl

      added : (b : Bool) → cond b (standing edits ++ c ∷ []) (standing edits) ≡ standing edits ++ where_stands blank b (Some c)
      added true = refl
      added false = sym (append-nil (standing edits))
  step ErasesByte edits = sym (without-byte ErasesByte edits (but_last (stands blank edits) (length edits)) refl (λ k low. refl) ∙ lasts (stands blank edits) (of_edits edits) (length edits) (all-typed edits))
  step ErasesWord edits =
      let s = stands blank edits in
      let at = of_edits edits in
      let n = length edits in
      let first = ends blank s at n (all-typed edits) in
      let second = ends (λ c. not (blank c)) (but_end blank s at n) at n (λ k low is. all-typed edits k low (and_parts (s k) (some_below n (λ j. nat_le k j && (s j && not (passes blank (at j))))) is).0) in
      sym (without-byte ErasesWord edits (but_end (λ c. not (blank c)) (but_end blank s at n) at n) refl (words s at n (all-typed edits))
      ∙ second ∙ ap (λ l. without_end (λ c. not (blank c)) l) first)
  step ErasesAll edits = sym (without-byte ErasesAll edits (λ k. false) refl (λ k low. refl) ∙ none-chosen (of_edits edits) (length edits))

  edits-stand : (edits : List (Edit C)) → line_of blank edits ≡ standing edits
  edits-stand [] = refl
  edits-stand (edit ∷ edits) = ap (λ l. edited blank edit l) (edits-stand edits) ∙ step edit edits

  pub line-stands : (edits : List (Edit C)) → line_of blank edits ≡ standing_line blank edits
  line-stands edits = edits-stand edits ∙ sym (stands-chosen edits (length edits))
