use Rattle.std.proofs.Common.{arith, ◌∙◌, ◌++◌, [], List, ap, length}
use Rattle.std.proofs.Math.ListN.{set}
use Rattle.strm_blocks.specs.Message.{message_at, without_at, with_blocks, place_in}
use Rattle.strm_blocks.specs.declared.message.Message.{Message}
use Rattle.strm_blocks.specs.declared.message.MessageBlock.{MessageBlock}
use Rattle.strm_blocks.proofs.Found as found
use Rattle.strm_blocks.proofs.Chains.{joined-same, first-within, linked-few, linked-value, IsTable-link}
use Rattle.strm_blocks.proofs.table.TableStoreBlocks.link.Goals as goal

pub take_named-node-requires : goal.take_named-node-requires
take_named-node-requires c = found.within c.self.inside c.self.view_is c.args.second.name c.requires.second_in_hand

pub join_blocks-requires-clause-within : goal.join_blocks-requires-clause-within
join_blocks-requires-clause-within c =
    let t = c.self.inside in
    let left = c.take_named-node.ensures.rest in
    let place = c.place_of-place.ensures ∙ ap (λ (q : List Message). place_in c.args.first.name q) left in
    let len = ap (λ (q : List Message). length q) left in
    let there = first-within t c.self.view_is c.self.invariant c.args.first.name c.args.second.name c.requires.first_in_hand c.requires.second_in_hand c.requires.apart in
    omega arith

pub join_blocks-requires-clause-few : goal.join_blocks-requires-clause-few
join_blocks-requires-clause-few c =
    let t = c.self.inside in
    let left = c.take_named-node.ensures.rest in
    let place = c.place_of-place.ensures ∙ ap (λ (q : List Message). place_in c.args.first.name q) left in
    let node = c.take_named-node.ensures.node in
    let rest = ap (λ (blocks : List MessageBlock). length blocks) (c.part_blocks-rest.ensures.rest ∙ ap (λ (q : List Message). (message_at 0 q).blocks) node) in
    let first = ap (λ (q : List Message). length (message_at c.place_of-place.result q).blocks) left ∙ ap (λ p. length (message_at p (without_at (place_in c.args.second.name t.hand) t.hand)).blocks) place in
    let few = linked-few t c.self.view_is c.self.invariant c.args.first.name c.args.second.name c.requires.first_in_hand c.requires.second_in_hand c.requires.apart in
    omega arith

pub invariant_of-self : goal.invariant_of-self
invariant_of-self c =
    let t = c.self.inside in
    let left = c.take_named-node.ensures.rest in
    let place = c.place_of-place.ensures ∙ ap (λ (q : List Message). place_in c.args.first.name q) left in
    let node = c.take_named-node.ensures.node in
    let rest = c.part_blocks-rest.ensures.rest ∙ ap (λ (q : List Message). (message_at 0 q).blocks) node in
    let hand = c.join_blocks.ensures ∙ joined-same left place rest in
    let empty = c.part_blocks-rest.ensures.kept ∙ ap (λ (q : List Message). set q 0 (with_blocks [] (message_at 0 q))) node in
    let idle = c.put_node.ensures ∙ ap (λ (q : List Message). q ++ t.idle) empty in
    IsTable-link t c.self.view_is c.self.invariant c.args.first.name c.args.second.name c.requires.first_in_hand c.requires.second_in_hand c.requires.apart c.join_blocks.new.list c.put_node.new.list hand idle

pub returns-clause-linked : goal.returns-clause-linked
returns-clause-linked c =
    let t = c.self.inside in
    let left = c.take_named-node.ensures.rest in
    let place = c.place_of-place.ensures ∙ ap (λ (q : List Message). place_in c.args.first.name q) left in
    let node = c.take_named-node.ensures.node in
    let rest = c.part_blocks-rest.ensures.rest ∙ ap (λ (q : List Message). (message_at 0 q).blocks) node in
    let hand = c.join_blocks.ensures ∙ joined-same left place rest in
    linked-value t c.self.view_is c.self.invariant c.args.first.name c.args.second.name c.requires.first_in_hand c.requires.second_in_hand c.requires.apart c.join_blocks.new.list hand
