use Rattle.strm_laws.proofs.LedgerSums.{agrees}
use Rattle.strm_laws.proofs.ledger_laws.ledgers_agree.Goals as goal

pub returns : goal.returns
returns g c = λ dir base fates es unread idle legal balanced low. agrees g.K.Behaves.does dir base fates es unread idle legal balanced low
