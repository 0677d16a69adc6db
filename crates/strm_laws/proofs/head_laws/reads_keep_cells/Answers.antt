use Rattle.strm_types.proofs.ReadKeeps.{head_draw-keeps, head_draw-most, stream-keeps, keep-keeps, refuse-never, data-never}
use Rattle.strm_laws.proofs.head_laws.reads_keep_cells.Goals as goal

pub returns-clause-kept : goal.returns-clause-kept
returns-clause-kept g c = λ p read control n q. head_draw-keeps p read control n q

pub returns-clause-most : goal.returns-clause-most
returns-clause-most g c = λ read control n q. head_draw-most read control n q

pub returns-clause-stream : goal.returns-clause-stream
returns-clause-stream g c = λ control n q. stream-keeps control n q

pub returns-clause-keep : goal.returns-clause-keep
returns-clause-keep g c = λ control n q. keep-keeps control n q

pub returns-clause-refuse : goal.returns-clause-refuse
returns-clause-refuse g c = λ read n q. refuse-never read n q

pub returns-clause-data : goal.returns-clause-data
returns-clause-data g c = λ read n q. data-never read n q
