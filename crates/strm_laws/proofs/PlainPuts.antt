-- Over plain bytes a put is the same whatever was made before.
use Rattle.strm_laws.proofs.Prelude.{ℕ, ◌≡◌, List, slice_index_or}
use Rattle.strm_laws.specs.Prelude.{Spot, plain, Message, put_among}
use Rattle.strm_laws.specs.Behaviours.{Behaviour}
use Rattle.strm_laws.specs.Stacked.{module_puts, Standing}
use Rattle.strm_laws.specs.TurnCalls.{none_there}
use Rattle.strm_laws.proofs.LawfulKinds.{puts-plainly}
use Rattle.strm_laws.proofs.ModuleTurnCalls.{act-alike}

pub among-same : (K : Behaviour) (a b : ℕ) (here : Spot) (m : Message ℕ) (i : ℕ) (ps : List (Standing ℕ))
    → put_among (module_puts K plain a) i here m ps ≡ put_among (module_puts K plain b) i here m ps
among-same K a b here m i ps =
    act-alike none_there (module_puts K plain a here m) (module_puts K plain b here m) i ps
    ((puts-plainly K (slice_index_or ps i none_there)).put_same a b here m)
