-- The sizes of which pairs are made.
use Rattle.std.specs.Prelude.{◌≡◌, ℕ, zero, suc, ◌+◌, ◌-◌, ◌*◌, ◌/◌, ◌<◌, ◌≤◌, ◌⊎◌, min, List, [], ◌∷◌, ◌++◌, map, replicate}
use Rattle.strm_types.specs.declared.limits.Config.{Config}
use Rattle.strm_types.specs.declared.refusals.Refusal.{Refusal}
use Rattle.strm_types.specs.declared.refusals.Refusal.TheVariants.{Einval, NoMemory}
use Rattle.strm_locks.specs.Systems.{Plan}

-- a store may have so many blocks of a kind
abbrev pub IsNumber : ℕ → Type 0
IsNumber blocks = (0 < blocks) × (blocks ≤ 65536)

abbrev pub AreSizes : Config → Type 0
AreSizes sizes = IsNumber sizes.mblks × IsNumber sizes.dblks

-- why no pair of these sizes is made: they aren't sizes, or memory is refused
abbrev pub NotMade : Config → Refusal → Type 0
NotMade sizes z = ((z ≡ Einval) × ¬ AreSizes sizes) ⊎ ((z ≡ NoMemory) × AreSizes sizes)

-- a host may have so many pairs
abbrev pub IsCount : ℕ → Type 0
IsCount pairs = (0 < pairs) × (pairs ≤ 65536)

-- the sizes of so many pairs, system by system: of the first n systems each has 64 pairs, or what is left
abbrev pub laid : ℕ → Config → ℕ → List (List Config)
laid pairs sizes zero = []
laid pairs sizes (suc n) = laid pairs sizes n ++ replicate (min (pairs - n * 64) 64) sizes ∷ []

-- a host has so many pairs, each of these sizes
abbrev pub IsLaid : ℕ → Config → List Plan → Type 0
IsLaid pairs sizes host = map (λ s. map (λ l. l.sizes) s.locks) host ≡ laid pairs sizes ((pairs + 63) / 64)

-- why no host of so many pairs of these sizes is made: it may not be, or memory is refused
abbrev pub NotHosted : ℕ → Config → Refusal → Type 0
NotHosted pairs sizes z = ((z ≡ Einval) × ¬ (IsCount pairs × AreSizes sizes)) ⊎ ((z ≡ NoMemory) × IsCount pairs × AreSizes sizes)
