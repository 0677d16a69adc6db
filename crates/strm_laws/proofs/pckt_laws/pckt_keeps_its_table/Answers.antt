use Rattle.strm_types.proofs.PcktWithin.{pckt-within}
use Rattle.strm_laws.proofs.pckt_laws.pckt_keeps_its_table.Goals as goal

pub returns : goal.returns
returns g c = λ cells made here m. pckt-within cells made here m
