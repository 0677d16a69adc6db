use Rattle.std.proofs.Common.{arith, ap, subst}
use Rattle.strm_script.specs.Sessions.{SessionValue, Takes}
use Rattle.strm_script.specs.Steps.{value_of}
use Rattle.strm_script.proofs.EngineSteps.{Steps-taken, Steps-short}
use Rattle.strm_script.proofs.session.Session.take.Goals as goal

pub returns-clause-steps : goal.returns-clause-steps
returns-clause-steps g c =
    subst (λ v. Takes v (value_of c.take.new.self) c.args.bytes.now c.take.result) c.self.view_is (Steps-taken _ _ _ _ c.take.ensures.steps)

pub returns-clause-limit : goal.returns-clause-limit
returns-clause-limit g c = (
  λ e. absurd (Steps-short _ _ _ _ c.take.ensures.steps e),
  λ h. absurd (omega (arith, ap (λ (v : SessionValue). v.point.lines) c.self.view_is)),
)
