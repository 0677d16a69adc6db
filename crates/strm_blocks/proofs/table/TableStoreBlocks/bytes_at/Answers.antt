use Rattle.std.proofs.Common.{◌∙◌, sym, ap}
use Rattle.strm_blocks.specs.Blocks.{Block}
use Rattle.strm_blocks.specs.Table.{shown}
use Rattle.strm_blocks.specs.declared.message.MessageBlock.{MessageBlock}
use Rattle.strm_blocks.proofs.Found as found
use Rattle.strm_blocks.proofs.table.TableStoreBlocks.bytes_at.Goals as goal

pub block_in-block-requires-clause-there : goal.block_in-block-requires-clause-there
block_in-block-requires-clause-there c = found.within c.self.inside c.self.view_is c.args.message.now.name c.requires.in_hand

pub block_in-block-requires-clause-within : goal.block_in-block-requires-clause-within
block_in-block-requires-clause-within c = found.block-within c.self.inside c.self.view_is c.args.message.now.name c.args.at c.requires.within

pub shown-requires-clause-there : goal.shown-requires-clause-there
shown-requires-clause-there c =
    let name = c.args.message.now.name in
    let there = found.within c.self.inside c.self.view_is name c.requires.in_hand in
    let within = found.block-within c.self.inside c.self.view_is name c.args.at c.requires.within in
    rw c.block_in-block.ensures (found.row-there c.self.invariant _ there c.args.at within)

pub returns-clause-bytes : goal.returns-clause-bytes
returns-clause-bytes c =
    let is = found.block-is c.self.inside c.self.view_is c.args.message.now.name c.args.at c.requires.within in
    let row = c.block_in-block.ensures in
    let bytes = c.shown.ensures.bytes ∙ ap (λ (b : MessageBlock). (shown c.self.inside.data.bytes b).bytes) row ∙ sym (ap (λ (b : Block). b.bytes) is) in
    bytes
