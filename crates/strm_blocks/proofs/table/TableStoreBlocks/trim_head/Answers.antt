use Rattle.std.proofs.Common.{arith, ◌+◌, refl}
use Rattle.strm_blocks.proofs.Edits.{IsTable-changed, edited-value, bytes-len, in-order, head-is}
use Rattle.strm_blocks.proofs.Found as found
use Rattle.strm_blocks.proofs.table.TableStoreBlocks.trim_head.Goals as goal

pub block_in-block-requires-clause-there : goal.block_in-block-requires-clause-there
block_in-block-requires-clause-there c = found.within c.self.inside c.self.view_is c.args.message.now.name c.requires.in_hand

pub block_in-block-requires-clause-within : goal.block_in-block-requires-clause-within
block_in-block-requires-clause-within c = found.block-within c.self.inside c.self.view_is c.args.message.now.name c.args.at c.requires.within

pub replace_block-requires-clause-there : goal.replace_block-requires-clause-there
replace_block-requires-clause-there c = found.within c.self.inside c.self.view_is c.args.message.now.name c.requires.in_hand

pub replace_block-requires-clause-within : goal.replace_block-requires-clause-within
replace_block-requires-clause-within c = found.block-within c.self.inside c.self.view_is c.args.message.now.name c.args.at c.requires.within

pub overflow_add-block : goal.overflow_add-block
overflow_add-block c =
    let t = c.self.inside in
    let name = c.args.message.now.name in
    let row = c.block_in-block.result in
    let same = c.block_in-block.ensures in
    let len = bytes-len t c.self.view_is c.self.invariant name c.args.at c.requires.in_hand c.requires.within row same c.audit.ensures.sized in
    let order = in-order t c.self.view_is c.self.invariant name c.args.at c.requires.in_hand c.requires.within row same in
    omega arith

pub invariant_of-self : goal.invariant_of-self
invariant_of-self c =
    let t = c.self.inside in
    let name = c.args.message.now.name in
    let row = c.block_in-block.result in
    let same = c.block_in-block.ensures in
    let len = bytes-len t c.self.view_is c.self.invariant name c.args.at c.requires.in_hand c.requires.within row same c.audit.ensures.sized in
    let order = in-order t c.self.view_is c.self.invariant name c.args.at c.requires.in_hand c.requires.within row same in
    IsTable-changed t c.self.view_is c.self.invariant name c.args.at c.requires.in_hand c.requires.within row same (record row { start = row.start + c.min.result }) c.replace_block.new.list c.replace_block.ensures refl (omega arith)

pub returns : goal.returns
returns c =
    let t = c.self.inside in
    let name = c.args.message.now.name in
    let row = c.block_in-block.result in
    let same = c.block_in-block.ensures in
    edited-value t c.self.view_is c.self.invariant name c.args.at c.requires.in_hand c.requires.within row same (record row { start = row.start + c.min.result }) c.replace_block.new.list c.replace_block.ensures _ (head-is t c.self.view_is c.self.invariant name c.args.at c.requires.in_hand c.requires.within row same c.audit.ensures.sized c.args.n c.min.result (omega arith))
