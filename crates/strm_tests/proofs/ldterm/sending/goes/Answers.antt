-- What is sent is in hand.
use Rattle.strm_ldterm.proofs.Sends.{first-in_hand}
use Rattle.strm_tests.proofs.ldterm.sending.goes.Goals as goal

pub first_bytes-count-requires : goal.first_bytes-count-requires
first_bytes-count-requires g c = first-in_hand _ _ _ c.in-Some.sent c.audit.ensures c.in-Some.ensures c.requires

pub summary-requires : goal.summary-requires
summary-requires g c = first-in_hand _ _ _ c.in-Some.sent c.audit.ensures c.in-Some.ensures c.requires
