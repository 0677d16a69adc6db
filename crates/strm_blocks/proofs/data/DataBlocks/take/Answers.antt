use Rattle.std.proofs.Common.{arith}
use Rattle.std.proofs.Math.ListN.{length-set}
use Rattle.strm_blocks.proofs.FreeList.{free-within, IsFreeList-taken, bounded-set}
use Rattle.strm_blocks.proofs.data.DataBlocks.take.Goals as goal

pub index_mut-requires : goal.index_mut-requires
index_mut-requires c =
    let inside = c.self.inside in
    let within = free-within c.pop.new.self.items inside.references.items c.in_ok-number.number (rw c.in_ok-number.ensures.items at c.self.invariant.free) in
    omega (arith, inside.references.ok.0)

pub invariant_of-self-2 : goal.invariant_of-self-2
invariant_of-self-2 c =
    let inside = c.self.inside in
    let before = c.self.invariant in
    let number = c.in_ok-number.number in
    let same = length-set inside.references.items number 1 in
    record {
      few = omega (arith, before.few);
      same_count = omega (arith, before.same_count);
      sized = λ n within. before.sized n (omega arith);
      bounded = bounded-set inside.references.items number 1 255 (omega arith) before.bounded;
      free = IsFreeList-taken c.pop.new.self.items inside.references.items number 1 (omega arith) (rw c.in_ok-number.ensures.items at before.free);
      room = omega (arith, before.room, c.in_ok-number.ensures.capacity);
    }
