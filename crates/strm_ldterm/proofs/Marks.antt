-- A table of bytes that are marked.
use Rattle.strm_ldterm.proofs.Prelude.{cases_eq, false≢true, nat_tests, inl, inr, ℕ, zero, suc, ◌≡◌, ◌≢◌, ◌≤◌, ◌<◌, ◌+◌, Bool, true, false, List, []}
use Rattle.strm_ldterm.proofs.Prelude.{◌∷◌, get_or, set, take, length, refl, sym, ap, subst, ◌∙◌, arith, ◌==◌}
use Rattle.std.proofs.lemmas.List.{get_or-set_same, get_or-set_other}
use Rattle.std.specs.List.{AllByRecursion, list_any}

-- those from one up to another are marked, and others only where they were
pub record Marked (old now : List Bool) (from at : ℕ) : Type 0 where
  pub stays : (b : ℕ) → get_or now b true ≡ false → get_or old b true ≡ false
  pub marks : (b : ℕ) → from ≤ b → b < at → get_or now b true ≡ true

pub marked-none : (t : List Bool) (from : ℕ) → Marked t t from from
marked-none t from = record { stays = λ b e. e; marks = λ b low high. absurd (omega arith) }

-- a byte that is marked isn't one that isn't
set-apart : (now : List Bool) (at b : ℕ) → at < length now → get_or (set now at true) b true ≡ false → at ≢ b
set-apart now at b within free same = false≢true (sym free ∙ ap (λ k. get_or (set now at true) k true) (sym same) ∙ get_or-set_same now at true true within)

set-stays : (now : List Bool) (at b : ℕ) → at < length now → get_or (set now at true) b true ≡ false → get_or now b true ≡ false
set-stays now at b within free = sym (get_or-set_other now at b true true (λ e. set-apart now at b within free (sym e))) ∙ free

pub marked-more : (old now : List Bool) (from at : ℕ) → at < length now → Marked old now from at → Marked old (set now at true) from (at + 1)
marked-more old now from at within m = record {
  stays = λ b free. m.stays b (set-stays now at b within free);
  marks = λ b low high. elim (cases_eq at b) [
    | inl same ↦ ap (λ k. get_or (set now at true) k true) (sym same) ∙ get_or-set_same now at true true within
    | inr other ↦ get_or-set_other now at b true true (λ e. other (sym e)) ∙ m.marks b low (omega (arith, other))
  ];
}

-- each of the first so many bytes is marked
pub record MarkedEach (old now : List Bool) (bytes : List ℕ) (at : ℕ) : Type 0 where
  pub stays : (b : ℕ) → get_or now b true ≡ false → get_or old b true ≡ false
  pub none : (b k : ℕ) → get_or now b true ≡ false → k < at → get_or bytes k 0 ≢ b

pub each-none : (t : List Bool) (bytes : List ℕ) → MarkedEach t t bytes 0
each-none t bytes = record { stays = λ b e. e; none = λ b k e few. absurd (omega arith) }

pub each-more : (old now : List Bool) (bytes : List ℕ) (at : ℕ) → get_or bytes at 0 < length now → MarkedEach old now bytes at → MarkedEach old (set now (get_or bytes at 0) true) bytes (at + 1)
each-more old now bytes at within m = record {
  stays = λ b free. m.stays b (set-stays now (get_or bytes at 0) b within free);
  none = λ b k free few. elim (cases_eq k at) [
    | inl same ↦ (λ e. set-apart now (get_or bytes at 0) b within free (ap (λ i. get_or bytes i 0) (sym same) ∙ e))
    | inr other ↦ m.none b k (set-stays now (get_or bytes at 0) b within free) (omega (arith, other))
  ];
}

-- none of them is a byte that isn't marked
pub none-any : (bytes : List ℕ) (b : ℕ) → ((k : ℕ) → k < length bytes → get_or bytes k 0 ≢ b) → list_any (λ c. c == b) bytes ≡ false
none-any [] b none = refl
none-any (c ∷ bytes) b none =
    let other : (c == b) ≡ false = (let apart = none 0 (omega arith) in grind (arith, nat_tests)) in
    rw other (none-any bytes b (λ k few. none (suc k) (omega (arith, few))))

-- all of the first bytes, and one more
all-next : (P : ℕ → Type 0) (bytes : List ℕ) (at : ℕ) → at < length bytes → AllByRecursion P (take at bytes) → P (get_or bytes at 0) → AllByRecursion P (take (suc at) bytes)
all-next P [] at few all is = absurd (omega (arith, few))
all-next P (b ∷ bytes) zero few all is = (is, tt)
all-next P (b ∷ bytes) (suc at) few all is = (all.0, all-next P bytes at (omega (arith, few)) all.1 is)

pub all-more : (P : ℕ → Type 0) (bytes : List ℕ) (at : ℕ) → at < length bytes → AllByRecursion P (take at bytes) → P (get_or bytes at 0) → AllByRecursion P (take (at + 1) bytes)
all-more P bytes at few all is = subst (λ n. AllByRecursion P (take n bytes)) (let e : suc at ≡ at + 1 = omega arith in e) (all-next P bytes at few all is)
