use Rattle.strm_laws.proofs.JournalPlaces.{one-place, own-place}
use Rattle.strm_laws.proofs.RefusedForgets.{legal-from}
use Rattle.strm_laws.proofs.ledger_laws.each_byte_has_one_place.Goals as goal

pub returns-clause-once : goal.returns-clause-once
returns-clause-once g c =
    λ o base es unread idle legal. one-place g.K.Behaves.does o base es unread idle (legal-from g.K.Behaves.does base es idle legal)

pub returns-clause-own : goal.returns-clause-own
returns-clause-own g c =
    λ o base es unread idle legal. own-place g.K.Behaves.does o base es unread idle (legal-from g.K.Behaves.does base es idle legal)
