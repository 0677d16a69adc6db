-- What steps and the replay of a journal are: for a short journal, and for entries that are no steps.
use Rattle.strm_rows.proofs.Prelude.{ℕ, ◌≡◌, Bool, List, [], ◌∷◌, refl, Done, Count, Turn, Idle, Called, Turned, Caller, OpenMaster, Unlock, Write}
use Rattle.strm_rows.proofs.Prelude.{MasterToSlave, SlaveToMaster, Side, Master, Dir, Made, Base, plain, tagged, caller_of, data_message, rank_of}
use Rattle.strm_rows.proofs.Prelude.{band_of, size_of, cells_of, is_high_priority, driver_of, State, opening, chunk_count, turned, Request, called}
use Rattle.strm_rows.proofs.Prelude.{PlainEntry, replay, IsLegal, no_own}
use Rattle.std.proofs.Common.{ap}
use Rattle.std.proofs.lemmas.Bool.{false≢true}
use Rattle.strm_types.specs.Cells.{Cells}
use Rattle.strm_types.specs.Events.{Reply}
use Rattle.strm_laws.specs.Kept.{MayTest}
use Rattle.strm_laws.specs.Step.{Step}

abbrev caller : Side → Caller
caller side = caller_of side

-- a cell with another byte keeps its origin; one that is made has one of its own
pub mapped-cells-keep-their-origin : tagged.mapped 98 (record { byte = 97; origin = Base MasterToSlave 4 }) ≡ record { byte = 98; origin = Base MasterToSlave 4 }
mapped-cells-keep-their-origin = refl

pub made-cells-have-their-origin : tagged.made SlaveToMaster 3 97 ≡ record { byte = 97; origin = Made SlaveToMaster 3 }
made-cells-have-their-origin = refl

-- a journal: the master is opened and writes, and its driver has a turn
abbrev written_one : State ℕ
written_one = (called no_own plain (caller Master) (Write (97 ∷ [])) (called no_own plain (caller Master) OpenMaster opening).state).state

abbrev journal : List PlainEntry
journal = Called (caller Master) OpenMaster Done ∷ Called (caller Master) (Write (97 ∷ [])) (Count 1) ∷ Turned (driver_of Master) Idle ∷ []

pub journal-leads-to : replay no_own plain opening journal ≡ (turned no_own plain (driver_of Master) Idle written_one).state
unfolding chunk_count data_message rank_of band_of size_of cells_of is_high_priority
journal-leads-to = refl

pub entries-that-are-steps :
    IsLegal no_own plain opening (Called (caller Master) OpenMaster Done ∷ Called (caller Master) (Write (97 ∷ [])) (Count 1) ∷ [])
unfolding chunk_count data_message rank_of band_of size_of cells_of is_high_priority
entries-that-are-steps = (record { allowed = refl; answered = refl; leads = refl }, (record { allowed = refl; answered = refl; leads = refl }, tt))

-- no step: a call that is refused, a wrong answer, a wrong state, and a turn of a queue that isn't enabled
pub refused-call-is-no-step : IsLegal no_own plain opening (Called (caller Master) Unlock Done ∷ []) → ⊥
refused-call-is-no-step = λ legal. let first = legal.0 in let allowed = first.allowed in (cc)

pub wrong-answer-is-no-step : IsLegal no_own plain opening (Called (caller Master) OpenMaster (Count 0) ∷ []) → ⊥
wrong-answer-is-no-step = λ legal. let first = legal.0 in let answered = first.answered in (cc)

pub wrong-state-is-no-step : Step no_own plain opening (Called (caller Master) OpenMaster Done) opening → ⊥
wrong-state-is-no-step = λ step. let opened = ap (λ (s : State ℕ). s.ends.master.opened) step.leads in (cc)

pub turn-of-a-queue-that-rests-is-no-step :
    IsLegal no_own plain opening (Called (caller Master) OpenMaster Done ∷ Turned (driver_of Master) Idle ∷ []) → ⊥
turn-of-a-queue-that-rests-is-no-step = λ legal. let second = legal.1.0 in let enabled = second.enabled in (cc)

pub illegal-entry-behind-a-legal-one : IsLegal no_own plain opening (Called (caller Master) OpenMaster Done ∷ Called (caller Master) OpenMaster Done ∷ []) → ⊥
illegal-entry-behind-a-legal-one = λ legal. let second = legal.1.0 in let allowed = second.allowed in (cc)

-- whatever a test says of a byte, it is one of calls, and of a turn of a driver, where a user has no modules of his own
pub any-test-of-a-call : {C : Type 0} (cells : Cells C) (p : Dir → C → Bool) (c : Caller) (asked : Request) (answer : Reply) → MayTest no_own cells p (Called c asked answer)
any-test-of-a-call cells p c asked answer = λ delivers changes. absurd (false≢true changes)

pub any-test-of-a-driver : {C : Type 0} (cells : Cells C) (p : Dir → C → Bool) (side : Side) (turn : Turn) → MayTest no_own cells p (Turned (driver_of side) turn)
any-test-of-a-driver cells p side turn = λ changes. absurd (false≢true changes)
