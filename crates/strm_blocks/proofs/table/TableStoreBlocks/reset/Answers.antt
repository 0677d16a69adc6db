use Rattle.std.proofs.Common.{arith, ap, length}
use Rattle.strm_types.specs.declared.limits.TheConstants.{LISTS}
use Rattle.strm_blocks.proofs.Moves as moves
use Rattle.strm_blocks.proofs.Orders.{AreOrdered-empty}
use Rattle.strm_blocks.proofs.table.TableStoreBlocks.reset.Goals as goal

pub give_back-requires-clause-few_messages : goal.give_back-requires-clause-few_messages
give_back-requires-clause-few_messages c =
    let all = moves.freed-all c.self.invariant c.gather-taken.new.lists c.gather-taken.new.hand c.gather-taken.result c.gather-taken.ensures.lists c.gather-taken.ensures.hand c.gather-taken.ensures.taken in
    let few = moves.freed-messages c.self.invariant c.gather-taken.new.lists c.gather-taken.new.hand c.gather-taken.result all in
    omega arith

pub invariant_of-self : goal.invariant_of-self
invariant_of-self c =
    let all = moves.freed-all c.self.invariant c.gather-taken.new.lists c.gather-taken.new.hand c.gather-taken.result c.gather-taken.ensures.lists c.gather-taken.ensures.hand c.gather-taken.ensures.taken in
    let after = c.give_back.ensures in
    moves.IsTable-freed c.self.invariant c.gather-taken.new.lists c.gather-taken.new.hand c.gather-taken.result c.give_back.new.idle c.give_back.new.spare c.give_back.new.pool.references (ap length c.gather-taken.ensures.lists) (rw c.gather-taken.ensures.lists (AreOrdered-empty LISTS)) all after.blocks after.messages after.names after.released
