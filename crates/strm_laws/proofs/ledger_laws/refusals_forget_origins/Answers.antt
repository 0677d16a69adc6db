use Rattle.strm_laws.proofs.Based.{based-forgets}
use Rattle.strm_laws.proofs.RefusedForgets.{legal-with-origins, legal-without, refusals-forget}
use Rattle.strm_laws.proofs.ledger_laws.refusals_forget_origins.Goals as goal

pub returns-clause-call : goal.returns-clause-call
returns-clause-call g c = λ f s caller asked. refusals-forget f g.K.Behaves.does s caller asked

pub returns-clause-legal : goal.returns-clause-legal
returns-clause-legal g c =
    let K = g.K.Behaves.does in
    λ cells s es are. (λ legal. legal-with-origins cells are K s es legal, λ legal. legal-without cells are K s es legal)

pub returns-clause-forgets : goal.returns-clause-forgets
returns-clause-forgets g c = λ base idle. based-forgets base idle
