-- What a module of a user's own is set to, which stands on a side's stream (STREAMS Programming Guide, "Private Data").
use Rattle.std.specs.Prelude.{ℕ, ◌==◌, Bool, false, List, Option, None, Some, find, option_and_then}
use Rattle.strm_pair.specs.Prelude.{Module, OfOwn, Standing}

-- whether a module is one of a user's own of a number, and what such a module is set to
abbrev pub is_own : {C : Type 0} → ℕ → Module C → Bool
is_own number (OfOwn o) = o.number == number
is_own number other = false

abbrev pub settings_of : {C : Type 0} → Module C → Option (List ℕ)
settings_of (OfOwn o) = Some o.settings
settings_of other = None

-- that of the one of a number, which stands on a stream once at most
abbrev pub settings_among : {C : Type 0} → ℕ → List (Standing C) → Option (List ℕ)
settings_among number ps = option_and_then (λ p. settings_of p.part) (find (λ p. is_own number p.part) ps)
