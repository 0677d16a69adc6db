use Rattle.strm_script.proofs.Prelude.{sym, ◌∙◌, IfOk-weaker}
use Rattle.strm_script.proofs.Spellings.{reading-found, reading-only}
use Rattle.strm_script.proofs.lines.reading.Goals as goal

pub returns-clause-found : goal.returns-clause-found
returns-clause-found c =
    IfOk-weaker c.said.result _ _ (λ found same command h. reading-found c.args.line.now command (sym same ∙ h)) c.said.ensures

pub returns-clause-only : goal.returns-clause-only
returns-clause-only c =
    IfOk-weaker c.said.result _ _ (λ found same command h short. same ∙ reading-only command c.args.line.now h short) c.said.ensures
