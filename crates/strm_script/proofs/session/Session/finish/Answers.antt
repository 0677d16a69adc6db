use Rattle.std.proofs.Common.{arith, ap, subst}
use Rattle.strm_script.specs.Sessions.{SessionValue, TakesEnd}
use Rattle.strm_script.specs.Steps.{value_of}
use Rattle.strm_script.proofs.EngineSteps.{EndsInput-taken, EndsInput-short}
use Rattle.strm_script.proofs.session.Session.finish.Goals as goal

pub returns-clause-ends : goal.returns-clause-ends
returns-clause-ends g c =
    subst (λ v. TakesEnd v (value_of c.finish.new.self) c.finish.result) c.self.view_is (EndsInput-taken _ _ _ c.finish.ensures)

pub returns-clause-limit : goal.returns-clause-limit
returns-clause-limit g c = (
  λ e. absurd (EndsInput-short _ _ _ c.finish.ensures e),
  λ h. absurd (omega (arith, ap (λ (v : SessionValue). v.point.lines) c.self.view_is)),
)
