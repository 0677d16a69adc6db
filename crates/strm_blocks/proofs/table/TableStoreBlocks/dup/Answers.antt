use Rattle.std.proofs.Common.{arith, ◌≡◌, ◌<◌, ◌∙◌, sym, ap, length, get_or, refl, subst}
use Rattle.std.proofs.Math.ListN.{length-set}
use Rattle.std.proofs.lemmas.Bool.Decides.{nat_tests}
use Rattle.strm_blocks.specs.Blocks.{Block}
use Rattle.strm_blocks.specs.Outcomes.{Duplicated, NoneShared}
use Rattle.strm_blocks.specs.Pool.{Pool}
use Rattle.strm_blocks.specs.Table.{shown}
use Rattle.strm_blocks.specs.declared.message.MessageBlock.{MessageBlock}
use Rattle.strm_blocks.proofs.Calls.{carried, NoneShared-messages, NoneShared-full, Duplicated-value}
use Rattle.strm_blocks.proofs.Found as found
use Rattle.strm_blocks.proofs.FreeList.{count-more}
use Rattle.strm_blocks.proofs.Moves.{askew_row, idle-some, hand-few, IsTable-added}
use Rattle.strm_blocks.proofs.Stores.{value-same}
use Rattle.strm_blocks.proofs.table.TableStoreBlocks.dup.Goals as goal

pub block_in-block-requires-clause-there : goal.block_in-block-requires-clause-there
block_in-block-requires-clause-there c = found.within c.self.inside c.self.view_is c.args.message.now.name c.requires.in_hand

pub block_in-block-requires-clause-within : goal.block_in-block-requires-clause-within
block_in-block-requires-clause-within c = found.block-within c.self.inside c.self.view_is c.args.message.now.name c.args.at c.requires.within

pub returns-then-is_empty : goal.returns-then-is_empty
returns-then-is_empty c =
    let t = c.self.inside in
    let none : length t.spare ≡ 0 = grind (arith, nat_tests) in
    rw (← c.self.view_is) (NoneShared-messages t.data.bytes c.self.invariant _ none)

pub references-requires : goal.references-requires
references-requires c =
    let name = c.args.message.now.name in
    let there = found.within c.self.inside c.self.view_is name c.requires.in_hand in
    let within = found.block-within c.self.inside c.self.view_is name c.args.at c.requires.within in
    rw c.block_in-block.ensures (found.row-there c.self.invariant _ there c.args.at within)

pub returns-then-references : goal.returns-then-references
returns-then-references c =
    let t = c.self.inside in
    let row = c.block_in-block.ensures in
    let block = found.block-is t c.self.view_is c.args.message.now.name c.args.at c.requires.within ∙ ap (λ (b : MessageBlock). shown t.data.bytes b) (sym row) in
    let full = sym c.references.ensures ∙ c.if-references.true in
    subst (λ (b : Block). NoneShared c.args.self.now c.args.self.now b.number) (sym block) (rw (← c.self.view_is) (NoneShared-full t.data.bytes c.self.invariant c.block_in-block.result.number full))

pub share-requires-clause-named : goal.share-requires-clause-named
share-requires-clause-named c =
    let name = c.args.message.now.name in
    let there = found.within c.self.inside c.self.view_is name c.requires.in_hand in
    let within = found.block-within c.self.inside c.self.view_is name c.args.at c.requires.within in
    rw c.block_in-block.ensures (found.row-named c.self.invariant _ there c.args.at within)

pub hold_block-requires-clause-some : goal.hold_block-requires-clause-some
hold_block-requires-clause-some c =
    let some : 0 < length c.self.inside.spare = grind (arith, nat_tests) in
    idle-some c.self.invariant some

pub hold_block-requires-clause-few : goal.hold_block-requires-clause-few
hold_block-requires-clause-few c = let few = hand-few c.self.invariant in omega arith

pub invariant_of-self : goal.invariant_of-self
invariant_of-self c =
    let t = c.self.inside in
    let name = c.args.message.now.name in
    let there = found.within t c.self.view_is name c.requires.in_hand in
    let within = found.block-within t c.self.view_is name c.args.at c.requires.within in
    let some : 0 < length t.spare = grind (arith, nat_tests) in
    let row = c.block_in-block.ensures in
    let straight = ap (λ (b : MessageBlock). askew_row b) row ∙ found.row-straight c.self.invariant _ there c.args.at within in
    let number = ap (λ (b : MessageBlock). b.number) row in
    let exists = found.row-there c.self.invariant _ there c.args.at within in
    let counts = ap (λ (p : Pool). p.references) c.share.ensures in
    rw (c.hold_block.ensures.hand, c.hold_block.ensures.idle, c.hold_block.ensures.spare, counts) (IsTable-added c.self.invariant c.block_in-block.result _ some straight (count-more t.data.references c.block_in-block.result.number _ (omega arith) refl))

pub returns : goal.returns
returns c =
    let t = c.self.inside in
    let row = c.block_in-block.ensures in
    let block = found.block-is t c.self.view_is c.args.message.now.name c.args.at c.requires.within ∙ ap (λ (b : MessageBlock). shown t.data.bytes b) (sym row) in
    let some : 0 < length t.spare = grind (arith, nat_tests) in
    let few : get_or t.data.references c.block_in-block.result.number 0 < 255 = grind arith in
    let bytes = ap (λ (p : Pool). p.bytes) c.share.ensures in
    let count : length c.share.new.self.references ≡ length t.data.references = ap (λ (p : Pool). length p.references) c.share.ensures ∙ length-set t.data.references c.block_in-block.result.number _ in
    let new = value-same t.data.bytes t.lists _ t.mblks _ bytes refl c.hold_block.ensures.hand count in
    carried (λ old new name b. Duplicated old new name b) c.self.view_is new c.hold_block.ensures.name block (Duplicated-value t.data.bytes c.self.invariant c.block_in-block.result some few)
