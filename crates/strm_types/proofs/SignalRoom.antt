-- How many signals can wait, as each waits once.
use Rattle.std.proofs.Common.{ℕ, zero, suc, ◌≡◌, ◌≤◌, ◌<◌, ◌+◌, Bool, true, false, cond, List, [], ◌∷◌, ◌++◌, length, refl, ap, subst, arith}
use Rattle.std.specs.Prelude.{◌==◌, ◌&&◌, ◌||◌, nat_lt, nat_le, count_by, None, Some}
use Rattle.std.specs.List.{AllByRecursion}
use Rattle.std.proofs.lemmas.Bool.Decides.{nat_tests}
use Rattle.std.proofs.lemmas.List.Sums.{sum_by-cons}
use Rattle.strm_types.specs.declared.limits.TheConstants.{SIGNAL_LAST}
use Rattle.strm_types.specs.Signals.{AreSignals, has_signal, is_signal, signal_in, with_signal}

-- how often a number stands among others
abbrev pub times : ℕ → List ℕ → ℕ
times n ns = count_by (λ k. k == n) ns

pub times-cons : (n k : ℕ) (ns : List ℕ) → times n (k ∷ ns) ≡ cond (k == n) 1 0 + times n ns
times-cons n k ns = sum_by-cons (λ x. cond (x == n) 1 0) k ns

-- how often the numbers from 1 to a last one do
among : ℕ → List ℕ → ℕ
among zero ns = 0
among (suc last) ns = times (suc last) ns + among last ns

among-more : (last n : ℕ) (ns : List ℕ) → among last ns ≤ among last (n ∷ ns)
unfolding among
among-more zero n ns = omega arith
among-more (suc last) n ns = omega (arith, times-cons (suc last) n ns, among-more last n ns)

-- a number from 1 to the last one counts there
among-one : (last n : ℕ) (ns : List ℕ) → 0 < n → n ≤ last → 1 + among last ns ≤ among last (n ∷ ns)
unfolding among
among-one zero n ns some low = absurd (omega (arith, some, low))
among-one (suc last) n ns some low = at (n == suc last) refl (λ less. among-one last n ns some less)
  where
    at : (b : Bool) → (n == suc last) ≡ b → (n ≤ last → 1 + among last ns ≤ among last (n ∷ ns)) → 1 + (times (suc last) ns + among last ns) ≤ times (suc last) (n ∷ ns) + among last (n ∷ ns)
    at true is below = omega (arith, times-cons (suc last) n ns, ap {B = ℕ} (λ b. cond b 1 0) is, among-more last n ns)
    at false is below = let less : n ≤ last = grind (arith, nat_tests) in omega (arith, times-cons (suc last) n ns, below less)

among-all : (last : ℕ) (ns : List ℕ) → AllByRecursion (λ n. (nat_lt 0 n && nat_le n last) ≡ true) ns → length ns ≤ among last ns
among-all last [] all = omega arith
among-all last (n ∷ ns) all =
    let some : 0 < n = grind (arith, nat_tests, all.0) in
    let low : n ≤ last = grind (arith, nat_tests, all.0) in
    omega (arith, among-one last n ns some low, among-all last ns all.1)

among-once : (last : ℕ) (ns : List ℕ) → ((n : ℕ) → times n ns ≤ 1) → among last ns ≤ last
unfolding among
among-once zero ns once = omega arith
among-once (suc last) ns once = omega (arith, once (suc last), among-once last ns once)

pub signals-fit : (ns : List ℕ) → AreSignals ns → length ns ≤ SIGNAL_LAST
signals-fit ns are = omega (arith, among-all SIGNAL_LAST ns are.known, among-once SIGNAL_LAST ns are.once)

-- signals: one more waits where it doesn't yet
not-there : (n : ℕ) (ns : List ℕ) → has_signal n ns ≡ false → times n ns ≡ 0
not-there n [] none = refl
not-there n (k ∷ ns) none = at (k == n) refl none (λ rest. not-there n ns rest)
  where
    at : (b : Bool) → (k == n) ≡ b → (b || has_signal n ns) ≡ false → (has_signal n ns ≡ false → times n ns ≡ 0) → times n (k ∷ ns) ≡ 0
    at true is none rest = absurd (cc)
    at false is none rest = omega (arith, times-cons n k ns, ap {B = ℕ} (λ b. cond b 1 0) is, rest none)

times-behind : (m n : ℕ) (ns : List ℕ) → times m (ns ++ n ∷ []) ≡ times m ns + cond (n == m) 1 0
times-behind m n [] = omega (arith, times-cons m n [])
times-behind m n (k ∷ ns) = omega (arith, times-cons m k ns, times-cons m k (ns ++ n ∷ []), times-behind m n ns)

known-behind : (n : ℕ) (ns : List ℕ) → is_signal n ≡ true → AllByRecursion (λ k. is_signal k ≡ true) ns → AllByRecursion (λ k. is_signal k ≡ true) (ns ++ n ∷ [])
known-behind n [] one all = (one, tt)
known-behind n (k ∷ ns) one all = (all.0, known-behind n ns one all.1)

signal-added : (n : ℕ) (ns : List ℕ) → is_signal n ≡ true → has_signal n ns ≡ false → AreSignals ns → AreSignals (ns ++ n ∷ [])
signal-added n ns one none are = record { once = λ m. at m (n == m) refl; known = known-behind n ns one are.known }
  where
    at : (m : ℕ) (b : Bool) → (n == m) ≡ b → times m (ns ++ n ∷ []) ≤ 1
    at m true is = let same : n ≡ m = grind (arith, nat_tests) in omega (arith, times-behind m n ns, ap {B = ℕ} (λ b. cond b 1 0) is, subst (λ k. times k ns ≡ 0) same (not-there n ns none))
    at m false is = omega (arith, times-behind m n ns, ap {B = ℕ} (λ b. cond b 1 0) is, are.once m)

pub signal-within : (n : ℕ) (ns : List ℕ) → is_signal n ≡ true → AreSignals ns → AreSignals (with_signal (Some n) ns)
signal-within n ns one are = at (has_signal n ns) refl
  where
    at : (b : Bool) → has_signal n ns ≡ b → AreSignals (cond b ns (ns ++ n ∷ []))
    at true is = are
    at false is = signal-added n ns one is are

pub named-within : (bytes : List ℕ) (ns : List ℕ) → AreSignals ns → AreSignals (with_signal (signal_in bytes) ns)
named-within [] ns are = are
named-within (n ∷ []) ns are = at (is_signal n) refl
  where
    at : (b : Bool) → is_signal n ≡ b → AreSignals (with_signal (cond b (Some n) None) ns)
    at true is = signal-within n ns is are
    at false is = are
named-within (n ∷ k ∷ bytes) ns are = are
