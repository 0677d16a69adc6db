-- Nothing of a turn is under way at any module behind what closes, pushes and pops do.
use Rattle.strm_pair.proofs.Prelude.{ℕ, List, [], ◌∷◌, set-all, AllIdle}
use Rattle.strm_pair.specs.Prelude.{Side, Rule, EndClosed, head_emptied, of_all, AreIdle, top_taken, Standing, State, Stream, stream, with_stream}

-- at the modules of a side, and where they change
pub idle-with : (side : Side) (t : Stream ℕ) (s : State ℕ) → AllIdle t.modules → AreIdle s → AreIdle (with_stream side t s)
idle-with side t s rest idle = set-all (λ sd (x : Stream ℕ). AllIdle x.modules) side t s.ends rest idle

these-taken : (rule : Rule) (side : Side) (ps : List (Standing ℕ)) (s : State ℕ) → AllIdle ps → AreIdle s → AreIdle (top_taken rule side ps s).state
these-taken rule side [] s all idle = idle
these-taken rule side (p ∷ ps) s all idle = idle-with side (record (stream side s) { modules = ps }) s all.1 idle

pub top-idle : (rule : Rule) (side : Side) (s : State ℕ) → AreIdle s → AreIdle (top_taken rule side (stream side s).modules s).state
top-idle rule side s idle = these-taken rule side (stream side s).modules s (idle side) idle

pub emptied-idle : (side : Side) (s : State ℕ) → AreIdle s → AreIdle (head_emptied EndClosed of_all side s).state
emptied-idle side s idle = idle-with side _ s (idle side) idle
