-- The signals that wait at a stream head (streamio(7I); STREAMS Programming Guide: M_SIG, M_PCSIG).
use Rattle.std.specs.Prelude.{ℕ, ◌≡◌, ◌≤◌, Bool, true, ◌&&◌, ◌==◌, nat_lt, nat_le, if◌then◌else◌, List, [], ◌∷◌, ◌++◌, Option, None, Some, count_by}
use Rattle.std.specs.List.{list_any, AllByRecursion}
use Rattle.strm_types.specs.declared.limits.TheConstants.{SIGNAL_LAST}

-- whether a number is that of a signal
abbrev pub is_signal : ℕ → Bool
is_signal n = nat_lt 0 n && nat_le n SIGNAL_LAST

-- the signal that the bytes of an M_SIG or an M_PCSIG name: one byte, from 1 to 31, and else there is none
abbrev pub signal_in : List ℕ → Option ℕ
signal_in (n ∷ []) = if is_signal n then Some n else None
signal_in _ = None

-- whether a signal waits
abbrev pub has_signal : ℕ → List ℕ → Bool
has_signal n ns = list_any (λ k. k == n) ns

-- each waits once, in the order in which they came
abbrev pub with_signal : Option ℕ → List ℕ → List ℕ
with_signal None ns = ns
with_signal (Some n) ns = if has_signal n ns then ns else ns ++ n ∷ []

-- what waits: signals, each once
pub record AreSignals (ns : List ℕ) : Type 0 where
  pub once : (n : ℕ) → count_by (λ k. k == n) ns ≤ 1
  pub known : AllByRecursion (λ n. is_signal n ≡ true) ns
