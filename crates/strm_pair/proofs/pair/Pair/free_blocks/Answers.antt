-- What is told are the numbers of the store.
use Rattle.std.proofs.Common.{rules}
use Rattle.strm_pair.proofs.pair.Pair.free_blocks.Goals as goal

pub returns-clause-mblks : goal.returns-clause-mblks
returns-clause-mblks g c = search rules steps 100000

pub returns-clause-dblks : goal.returns-clause-dblks
returns-clause-dblks g c = search rules steps 100000
