-- A call that isn't refused stops its caller, and then changes nothing, or it is carried out: what holds of both holds of it.
use Rattle.strm_laws.proofs.Prelude.{◌≡◌, refl, Option, None, Some}
use Rattle.strm_laws.specs.Prelude.{Caller, Verdict, Side, Master, Slave, Refusal, StopSignal, Cells, Request, Head, foreground, held, refusal_behind}
use Rattle.strm_laws.specs.Prelude.{stop_in, needs, or_else}
use Rattle.strm_types.specs.declared.answers.Answer.TheVariants.{Stop}
use Rattle.strm_types.specs.declared.job_control.Verdict.TheVariants as verdicts
use Rattle.strm_laws.specs.Behaviours.{Behaviour}
use Rattle.strm_laws.specs.Calls.{Outcome, called, or_stopped, performed, tells}
use Rattle.strm_laws.specs.Refusals.{hold, refused_at_once, refused_by_state, stop_of, unfit}
use Rattle.strm_laws.specs.State.{State, map_state, stream}

module _ {C : Type 0} (K : Behaviour) (cells : Cells C) (caller : Caller) (asked : Request) (s : State C) (P : Outcome C → Type 0) (stopped : (signal : StopSignal) → P (tells (Stop signal) s)) where
  pub of-called : P (performed K cells caller asked s) → P (called K cells caller asked s)
  of-called carried = at (stop_of s caller asked)
    where
      at : (stop : Option StopSignal) → P (or_stopped stop s (performed K cells caller asked s))
      at None = carried
      at (Some signal) = stopped signal

  -- where nothing refuses it, what is carried out fits what is there
  pub of-allowed : or_else (refused_at_once s caller asked) (refused_by_state K s caller asked) ≡ None
      → (or_else (refused_at_once s caller asked) (unfit K s caller asked) ≡ None → P (performed K cells caller asked s)) → P (called K cells caller asked s)
  of-allowed allowed carried = at (refused_at_once s caller asked) (hold s caller asked) allowed carried
    where
      at : (first : Option Refusal) (verdict : Verdict) → or_else first (refusal_behind verdict (unfit K s caller asked)) ≡ None
          → (or_else first (unfit K s caller asked) ≡ None → P (performed K cells caller asked s)) → P (or_stopped (stop_in verdict) s (performed K cells caller asked s))
      at first verdicts.Allowed allowed carried = carried allowed
      at first (verdicts.Stopped signal) allowed carried = stopped signal
      at None (verdicts.Refused refusal) allowed carried = absurd (cc)
      at (Some other) (verdicts.Refused refusal) allowed carried = absurd (cc)

-- job control doesn't see what stands for bytes
module _ {C D : Type 0} (f : C → D) where
  pub hold-same : (s : State C) (caller : Caller) (asked : Request) → hold (map_state f s) caller asked ≡ hold s caller asked
  hold-same s caller asked = at caller.side
    where
      of_head : {E : Type 0} → Head E → Verdict
      of_head h = held (needs asked).access h.tostop (foreground h.hung_up h.group) caller

      at : (side : Side) → of_head (stream side (map_state f s)).head ≡ of_head (stream side s).head
      at Master = refl
      at Slave = refl
