use Rattle.strm_laws.proofs.Deliveries.{delivered-same}
use Rattle.strm_laws.proofs.Unread.{delivered-unread}
use Rattle.strm_laws.proofs.put_laws.deliveries_leave_the_ends.Goals as goal

pub returns-clause-same : goal.returns-clause-same
returns-clause-same g c = λ cells to m s. delivered-same g.K.Behaves.does cells to m s

pub returns-clause-unread : goal.returns-clause-unread
returns-clause-unread g c = λ cells to m s unread. delivered-unread g.K.Behaves.does cells to m s unread
