use Rattle.std.proofs.Common.{◌∙◌, sym, ap, refl}
use Rattle.strm_blocks.specs.Blocks.{Block, changed, in_hand}
use Rattle.strm_blocks.proofs.Edits.{IsTable-changed, edited-value, row-is, in-order, banded-is}
use Rattle.strm_blocks.proofs.Found as found
use Rattle.strm_blocks.proofs.Found.{first-within}
use Rattle.strm_blocks.proofs.table.TableStoreBlocks.set_band.Goals as goal

pub block_in-block-requires-clause-there : goal.block_in-block-requires-clause-there
block_in-block-requires-clause-there c = found.within c.self.inside c.self.view_is c.args.message.now.name c.requires

pub block_in-block-requires-clause-within : goal.block_in-block-requires-clause-within
block_in-block-requires-clause-within c =
    let there = found.within c.self.inside c.self.view_is c.args.message.now.name c.requires in
    found.some-block c.self.invariant _ there

pub replace_block-requires-clause-there : goal.replace_block-requires-clause-there
replace_block-requires-clause-there c = found.within c.self.inside c.self.view_is c.args.message.now.name c.requires

pub replace_block-requires-clause-within : goal.replace_block-requires-clause-within
replace_block-requires-clause-within c =
    let there = found.within c.self.inside c.self.view_is c.args.message.now.name c.requires in
    found.some-block c.self.invariant _ there

pub invariant_of-self : goal.invariant_of-self
invariant_of-self c =
    let t = c.self.inside in
    let name = c.args.message.now.name in
    let row = c.block_in-block.result in
    let some = first-within t c.self.view_is c.self.invariant name c.requires in
    IsTable-changed t c.self.view_is c.self.invariant name 0 c.requires some row c.block_in-block.ensures (record row { band = c.args.band.0 }) c.replace_block.new.list c.replace_block.ensures refl (in-order t c.self.view_is c.self.invariant name 0 c.requires some row c.block_in-block.ensures)

pub returns : goal.returns
returns c =
    let t = c.self.inside in
    let name = c.args.message.now.name in
    let row = c.block_in-block.result in
    let some = first-within t c.self.view_is c.self.invariant name c.requires in
    let chain = in_hand c.args.self.now name in
    edited-value t c.self.view_is c.self.invariant name 0 c.requires some row c.block_in-block.ensures (record row { band = c.args.band.0 }) c.replace_block.new.list c.replace_block.ensures _ (ap (λ (b : Block). record b { band = c.args.band.0 }) (sym (row-is t c.self.view_is c.self.invariant name 0 c.requires some row c.block_in-block.ensures)))
    ∙ ap (λ chain'. changed c.args.self.now name chain') (banded-is c.args.band.0 chain)
