use Rattle.std.proofs.Common.{sym, ap, refl}
use Rattle.strm_blocks.specs.Blocks.{Block, of_kind}
use Rattle.strm_blocks.proofs.Edits.{IsTable-changed, edited-value, row-is, in-order}
use Rattle.strm_blocks.proofs.Found as found
use Rattle.strm_blocks.proofs.table.TableStoreBlocks.set_kind.Goals as goal

pub block_in-block-requires-clause-there : goal.block_in-block-requires-clause-there
block_in-block-requires-clause-there c = found.within c.self.inside c.self.view_is c.args.message.now.name c.requires.in_hand

pub block_in-block-requires-clause-within : goal.block_in-block-requires-clause-within
block_in-block-requires-clause-within c = found.block-within c.self.inside c.self.view_is c.args.message.now.name c.args.at c.requires.within

pub replace_block-requires-clause-there : goal.replace_block-requires-clause-there
replace_block-requires-clause-there c = found.within c.self.inside c.self.view_is c.args.message.now.name c.requires.in_hand

pub replace_block-requires-clause-within : goal.replace_block-requires-clause-within
replace_block-requires-clause-within c = found.block-within c.self.inside c.self.view_is c.args.message.now.name c.args.at c.requires.within

pub invariant_of-self : goal.invariant_of-self
invariant_of-self c =
    let t = c.self.inside in
    let name = c.args.message.now.name in
    let row = c.block_in-block.result in
    let same = c.block_in-block.ensures in
    IsTable-changed t c.self.view_is c.self.invariant name c.args.at c.requires.in_hand c.requires.within row same (record row { kind = c.args.kind }) c.replace_block.new.list c.replace_block.ensures refl (in-order t c.self.view_is c.self.invariant name c.args.at c.requires.in_hand c.requires.within row same)

pub returns : goal.returns
returns c =
    let t = c.self.inside in
    let name = c.args.message.now.name in
    let row = c.block_in-block.result in
    let same = c.block_in-block.ensures in
    edited-value t c.self.view_is c.self.invariant name c.args.at c.requires.in_hand c.requires.within row same (record row { kind = c.args.kind }) c.replace_block.new.list c.replace_block.ensures _ (ap (λ (b : Block). of_kind c.args.kind b) (sym (row-is t c.self.view_is c.self.invariant name c.args.at c.requires.in_hand c.requires.within row same)))
