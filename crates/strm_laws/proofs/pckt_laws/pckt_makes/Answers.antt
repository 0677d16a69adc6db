use Rattle.strm_types.proofs.PcktPuts.{packed-makes, passed-down, passed-up}
use Rattle.strm_laws.proofs.pckt_laws.pckt_makes.Goals as goal

pub returns-clause-packed : goal.returns-clause-packed
returns-clause-packed g c = λ cells made here m way is. packed-makes cells made here m way is

pub returns-clause-down : goal.returns-clause-down
returns-clause-down g c = λ cells made here m way. passed-down cells made here m way

pub returns-clause-others : goal.returns-clause-others
returns-clause-others g c = λ cells made here m is. passed-up cells made here m is
