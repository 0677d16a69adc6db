use Rattle.std.proofs.Common.{arith, ◌∙◌, sym, ap, length}
use Rattle.strm_blocks.proofs.Found as found
use Rattle.strm_blocks.proofs.table.TableStoreBlocks.blocks.Goals as goal

pub blocks_of-requires : goal.blocks_of-requires
blocks_of-requires c = found.within c.self.inside c.self.view_is c.args.message.now.name c.requires

pub returns-clause-count : goal.returns-clause-count
returns-clause-count c =
    let len = found.chain-len c.self.inside c.self.view_is c.args.message.now.name in
    c.len.ensures.value ∙ ap length c.blocks_of.ensures ∙ sym len

pub returns-clause-some : goal.returns-clause-some
returns-clause-some c =
    let there = found.within c.self.inside c.self.view_is c.args.message.now.name c.requires in
    let some = found.some-block c.self.invariant _ there in
    let same = ap length c.blocks_of.ensures in
    omega (arith, c.len.ensures.value)
