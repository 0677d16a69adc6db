-- Where all modules of a side hand an M_DATA or M_PROTO on in all its blocks, or have it wait, the one at a place does.
use Rattle.strm_pair.proofs.Prelude.{ℕ, zero, suc, ◌≡◌, true, List, [], ◌∷◌, map, refl, and_parts, slice_index_or}
use Rattle.strm_pair.specs.Prelude.{Side, Master, Slave, Standing, State, module_name, stands_of, stream}
use Rattle.std.specs.List.{list_all}
use Rattle.strm_types.specs.Tables.{name_holds}
use Rattle.strm_laws.specs.StackCosts.{stands_on}

pub place-holds : (i : ℕ) (ps : List (Standing ℕ)) → list_all name_holds (map module_name ps) ≡ true
    → slice_index_or (map (λ p. name_holds (module_name p)) ps) i true ≡ true
place-holds i [] kept = refl
place-holds zero (p ∷ ps) kept = (and_parts _ _ kept).0
place-holds (suc i) (p ∷ ps) kept = place-holds i ps (and_parts _ _ kept).1

-- the modules of a side, by their names
pub stands-kept : (side : Side) (s : State ℕ) → list_all name_holds (stands_on side (stands_of s)) ≡ true
    → list_all name_holds (map module_name (stream side s).modules) ≡ true
stands-kept Master s kept = kept
stands-kept Slave s kept = kept
