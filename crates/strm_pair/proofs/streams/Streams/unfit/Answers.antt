-- A putmsg that isn't refused at once names a band that queues have.
use Rattle.std.proofs.Common.{rules}
use Rattle.strm_pair.proofs.streams.Streams.unfit.Goals as goal

pub returns-in-Unlock : goal.returns-in-Unlock
returns-in-Unlock g c = search rules steps 100000

pub returns-in-OpenSlave : goal.returns-in-OpenSlave
returns-in-OpenSlave g c = rw c.in-OpenSlave.is (c.unready.ensures (g.B.Blocks.value c.args.store.now))

pub returns-in-Write : goal.returns-in-Write
returns-in-Write g c = search rules steps 300000

pub returns-in-OpenMaster : goal.returns-in-OpenMaster
returns-in-OpenMaster g c = rw c.in-OpenMaster.is (c.opened_before.ensures (g.B.Blocks.value c.args.store.now))
