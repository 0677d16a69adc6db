-- The last row of the message is its last block.
use Rattle.std.proofs.Common.{arith, ℕ, ◌+◌, ◌-◌, ◌∙◌, List, sym, ap, length, take}
use Rattle.std.proofs.Math.ListN.{set}
use Rattle.std.specs.Prelude.{slice_range}
use Rattle.std.proofs.lemmas.List.{length-take-le}
use Rattle.strm_blocks.specs.Blocks.{in_hand}
use Rattle.strm_blocks.specs.Message.{row_at, with_blocks, place_in}
use Rattle.strm_blocks.specs.Pool.{Pool}
use Rattle.strm_blocks.specs.declared.message.MessageBlock.{MessageBlock}
use Rattle.strm_blocks.proofs.Found as found
use Rattle.strm_blocks.proofs.Edits.{IsTable-replaced, in-order, there}
use Rattle.strm_blocks.proofs.Appends.{extended-none, last-within, row-last, row-same, row-some, row-within, taken-none, taken-some, appended-value, shown-after}
use Rattle.strm_blocks.proofs.table.TableStoreBlocks.append.Goals as goal

pub blocks_of-blocks-requires : goal.blocks_of-blocks-requires
blocks_of-blocks-requires c = found.within c.self.inside c.self.view_is c.args.message.now.name c.requires

pub overflow_sub-last : goal.overflow_sub-last
overflow_sub-last c =
    let t = c.self.inside in
    let name = c.args.message.now.name in
    let some = row-some t c.self.view_is c.self.invariant name c.requires c.blocks_of-blocks.result.now c.len-last.result c.blocks_of-blocks.ensures c.len-last.ensures.value in
    omega arith

pub block_at-block-requires : goal.block_at-block-requires
block_at-block-requires c =
    let t = c.self.inside in
    let name = c.args.message.now.name in
    let some = row-some t c.self.view_is c.self.invariant name c.requires c.blocks_of-blocks.result.now c.len-last.result c.blocks_of-blocks.ensures c.len-last.ensures.value in
    let long = c.len-last.ensures.value in
    omega arith

pub references-requires : goal.references-requires
references-requires c =
    let t = c.self.inside in
    let name = c.args.message.now.name in
    let row = c.block_at-block.result in
    let same = row-same t c.self.view_is c.self.invariant name c.requires c.blocks_of-blocks.result.now c.len-last.result c.blocks_of-blocks.ensures c.len-last.ensures.value row c.block_at-block.ensures in
    let inside = last-within t c.self.view_is c.self.invariant name c.requires in
    there t c.self.view_is c.self.invariant name (length (in_hand c.args.self.now name) - 1) c.requires inside row same

pub returns-then-references-gt1-clause-count : goal.returns-then-references-gt1-clause-count
returns-then-references-gt1-clause-count c =
    let t = c.self.inside in
    let name = c.args.message.now.name in
    let row = c.block_at-block.result in
    let same = row-same t c.self.view_is c.self.invariant name c.requires c.blocks_of-blocks.result.now c.len-last.result c.blocks_of-blocks.ensures c.len-last.ensures.value row c.block_at-block.ensures in
    taken-none t c.self.view_is c.self.invariant name c.requires row same (length c.args.bytes.now) (omega arith)

pub returns-then-references-gt1-clause-written : goal.returns-then-references-gt1-clause-written
returns-then-references-gt1-clause-written c = sym (extended-none c.args.self.now c.args.message.now.name)

pub write-requires-clause-there : goal.write-requires-clause-there
write-requires-clause-there c =
    let t = c.self.inside in
    let name = c.args.message.now.name in
    let row = c.block_at-block.result in
    let same = row-same t c.self.view_is c.self.invariant name c.requires c.blocks_of-blocks.result.now c.len-last.result c.blocks_of-blocks.ensures c.len-last.ensures.value row c.block_at-block.ensures in
    let inside = last-within t c.self.view_is c.self.invariant name c.requires in
    there t c.self.view_is c.self.invariant name (length (in_hand c.args.self.now name) - 1) c.requires inside row same

pub replace_block-requires-clause-there : goal.replace_block-requires-clause-there
replace_block-requires-clause-there c = found.within c.self.inside c.self.view_is c.args.message.now.name c.requires

pub replace_block-requires-clause-within : goal.replace_block-requires-clause-within
replace_block-requires-clause-within c =
    let t = c.self.inside in
    let name = c.args.message.now.name in
    row-within t c.self.view_is c.self.invariant name c.requires c.blocks_of-blocks.result.now c.len-last.result c.blocks_of-blocks.ensures c.len-last.ensures.value

pub invariant_of-self : goal.invariant_of-self
invariant_of-self c =
    let t = c.self.inside in
    let name = c.args.message.now.name in
    let row = c.block_at-block.result in
    let same = row-same t c.self.view_is c.self.invariant name c.requires c.blocks_of-blocks.result.now c.len-last.result c.blocks_of-blocks.ensures c.len-last.ensures.value row c.block_at-block.ensures in
    let inside = last-within t c.self.view_is c.self.invariant name c.requires in
    let order = in-order t c.self.view_is c.self.invariant name (length (in_hand c.args.self.now name) - 1) c.requires inside row same in
    let within = row-within t c.self.view_is c.self.invariant name c.requires c.blocks_of-blocks.result.now c.len-last.result c.blocks_of-blocks.ensures c.len-last.ensures.value in
    let number = ap (λ (b : MessageBlock). b.number) (c.block_at-block.ensures ∙ ap (λ (q : List MessageBlock). row_at (c.len-last.result - 1) q) c.blocks_of-blocks.ensures) in
    let counts = ap (λ (p : Pool). p.references) c.write.ensures.after in
    rw (c.replace_block.ensures, counts)
    (IsTable-replaced c.self.invariant _ (c.len-last.result - 1) (record row { end = row.end + c.min-count.result }) (found.within t c.self.view_is name c.requires) within number (omega (arith, c.min-count.ensures)))

pub returns-clause-count : goal.returns-clause-count
returns-clause-count c =
    let t = c.self.inside in
    let name = c.args.message.now.name in
    let row = c.block_at-block.result in
    let same = row-same t c.self.view_is c.self.invariant name c.requires c.blocks_of-blocks.result.now c.len-last.result c.blocks_of-blocks.ensures c.len-last.ensures.value row c.block_at-block.ensures in
    c.min-count.ensures ∙ taken-some t c.self.view_is c.self.invariant name c.requires row same (length c.args.bytes.now) (omega arith)

pub returns-clause-written : goal.returns-clause-written
returns-clause-written c =
    let t = c.self.inside in
    let name = c.args.message.now.name in
    let row = c.block_at-block.result in
    let same = row-same t c.self.view_is c.self.invariant name c.requires c.blocks_of-blocks.result.now c.len-last.result c.blocks_of-blocks.ensures c.len-last.ensures.value row c.block_at-block.ensures in
    let inside = last-within t c.self.view_is c.self.invariant name c.requires in
    let order = in-order t c.self.view_is c.self.invariant name (length (in_hand c.args.self.now name) - 1) c.requires inside row same in
    let exists = there t c.self.view_is c.self.invariant name (length (in_hand c.args.self.now name) - 1) c.requires inside row same in
    let last = row-last t c.self.view_is c.self.invariant name c.requires c.blocks_of-blocks.result.now c.len-last.result c.blocks_of-blocks.ensures c.len-last.ensures.value in
    let hand = c.replace_block.ensures ∙ ap (λ (n : ℕ). set t.hand (place_in name t.hand) (with_blocks (set (found.found t c.self.view_is name).blocks n (record row { end = row.end + c.min-count.result })) (found.found t c.self.view_is name))) last in
    let new = take c.min-count.result c.args.bytes.now in
    let taken = length-take-le c.min-count.result c.args.bytes.now (omega (arith, c.min-count.ensures)) in
    let shows = ap (λ (k : ℕ). slice_range c.write.ensures.content row.start (row.end + k)) (sym taken) ∙ c.write.ensures.shown row.start (omega arith) in
    let block = shown-after t.data.bytes row c.write.ensures.content new c.min-count.result (omega (arith, c.audit.ensures.same_count)) taken shows in
    let bytes = ap (λ (p : Pool). p.bytes) c.write.ensures.after in
    let count = ap (λ (p : Pool). length p.references) c.write.ensures.after in
    appended-value t c.self.view_is c.self.invariant name c.requires row same c.write.ensures.content new (record row { end = row.end + c.min-count.result }) _ c.write.new.self.bytes c.replace_block.new.list (omega arith) block bytes count hand
