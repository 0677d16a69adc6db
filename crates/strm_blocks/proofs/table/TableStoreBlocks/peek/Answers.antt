use Rattle.std.proofs.Common.{arith, ◌<◌, ◌∙◌, List, ap, length, get_or, refl}
use Rattle.std.proofs.lemmas.List.{get_or_default}
use Rattle.strm_blocks.specs.Message.{message_at, row_at, no_message}
use Rattle.strm_blocks.specs.declared.message.Message.{Message}
use Rattle.strm_blocks.specs.declared.message.MessageBlock.{MessageBlock}
use Rattle.strm_blocks.proofs.Lists.{list, list-read}
use Rattle.strm_blocks.proofs.Peeks.{peeked-value}
use Rattle.strm_blocks.proofs.table.TableStoreBlocks.peek.Goals as goal

pub returns : goal.returns
returns c =
    let t = c.self.inside in
    let k = c.args.list in
    let read = list-read t c.self.view_is c.self.invariant k c.requires c.index-self-list.result in
    let len = ap (λ (q : List Message). length q) read in
    let has = c.in_ok-message.ensures.variant.0 refl in
    let some : 0 < length (list t c.self.view_is c.self.invariant k c.requires) = omega arith in
    let first = c.in_ok-message.ensures.lookup ∙ get_or_default (get_or t.lists k c.index-self-list.result) 0 c.in_ok-message.message.now no_message has ∙ ap (λ (q : List Message). message_at 0 q) read in
    let row = c.first_block-block.ensures ∙ ap (λ (m : Message). row_at 0 m.blocks) first in
    peeked-value t c.self.view_is c.self.invariant k c.requires _ some (ap (λ (b : MessageBlock). b.kind) row) (ap (λ (b : MessageBlock). b.band) row)
