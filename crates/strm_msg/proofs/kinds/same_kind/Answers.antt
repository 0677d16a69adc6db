use Rattle.strm_msg.proofs.KindNumbers.{same-number, one-number}
use Rattle.strm_msg.proofs.kinds.same_kind.Goals as goal

pub returns-clause-one : goal.returns-clause-one
returns-clause-one c = (same-number c.args.a c.args.b c.number.ensures c.number-2.ensures, one-number c.args.a c.args.b c.number.ensures c.number-2.ensures)
