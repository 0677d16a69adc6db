use Rattle.std.proofs.Common.{◌∙◌, sym, ap}
use Rattle.strm_blocks.specs.Blocks.{Block}
use Rattle.strm_blocks.specs.declared.message.MessageBlock.{MessageBlock}
use Rattle.strm_blocks.proofs.Found as found
use Rattle.strm_blocks.proofs.table.TableStoreBlocks.kind.Goals as goal

pub block_in-requires-clause-there : goal.block_in-requires-clause-there
block_in-requires-clause-there c = found.within c.self.inside c.self.view_is c.args.message.now.name c.requires.in_hand

pub block_in-requires-clause-within : goal.block_in-requires-clause-within
block_in-requires-clause-within c = found.block-within c.self.inside c.self.view_is c.args.message.now.name c.args.at c.requires.within

pub returns : goal.returns
returns c =
    let is = found.block-is c.self.inside c.self.view_is c.args.message.now.name c.args.at c.requires.within in
    let row = c.block_in.ensures in
    ap (λ (b : MessageBlock). b.kind) row ∙ sym (ap (λ (b : Block). b.kind) is)
