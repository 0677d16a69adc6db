use Rattle.std.proofs.Common.{arith, ◌∙◌, sym, ap}
use Rattle.strm_blocks.specs.Blocks.{Block}
use Rattle.strm_blocks.specs.Message.{row_at}
use Rattle.strm_blocks.specs.declared.message.MessageBlock.{MessageBlock}
use Rattle.strm_blocks.proofs.Found as found
use Rattle.strm_blocks.proofs.table.TableStoreBlocks.band.Goals as goal

pub blocks_of-requires : goal.blocks_of-requires
blocks_of-requires c = found.within c.self.inside c.self.view_is c.args.message.now.name c.requires

pub returns : goal.returns
returns c =
    let name = c.args.message.now.name in
    let there = found.within c.self.inside c.self.view_is name c.requires in
    let some = found.some-block c.self.invariant _ there in
    let len = found.chain-len c.self.inside c.self.view_is name in
    let is = found.block-is c.self.inside c.self.view_is name 0 (omega arith) in
    let row = c.first_block.ensures ∙ ap (λ blocks. row_at 0 blocks) c.blocks_of.ensures in
    ap (λ (b : MessageBlock). b.band) row ∙ sym (ap (λ (b : Block). b.band) is)
