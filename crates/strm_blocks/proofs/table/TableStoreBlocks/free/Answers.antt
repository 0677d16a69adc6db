use Rattle.std.proofs.Common.{arith, ◌∙◌, List, ap, refl}
use Rattle.strm_blocks.specs.Blocks.{Held, StoreValue, dropped}
use Rattle.strm_blocks.specs.Message.{without_at, place_in}
use Rattle.strm_blocks.specs.Table.{value_of}
use Rattle.strm_blocks.proofs.Found as found
use Rattle.strm_blocks.proofs.Moves as moves
use Rattle.strm_blocks.proofs.Stores.{value-same}
use Rattle.strm_blocks.proofs.Values.{without-value}
use Rattle.strm_blocks.proofs.table.TableStoreBlocks.free.Goals as goal

pub take_named-taken-requires : goal.take_named-taken-requires
take_named-taken-requires c = found.within c.self.inside c.self.view_is c.args.message.name c.requires

pub give_back-requires-clause-named : goal.give_back-requires-clause-named
give_back-requires-clause-named c =
    let t = c.self.inside in
    let there = found.within t c.self.view_is c.args.message.name c.requires in
    let node = c.take_named-taken.ensures.node in
    let hand = c.take_named-taken.ensures.rest in
    moves.freed-named c.self.invariant t.lists c.take_named-taken.new.list c.take_named-taken.result (moves.freed-one c.self.invariant _ c.take_named-taken.new.list c.take_named-taken.result there hand node)

pub give_back-requires-clause-few_messages : goal.give_back-requires-clause-few_messages
give_back-requires-clause-few_messages c =
    let t = c.self.inside in
    let there = found.within t c.self.view_is c.args.message.name c.requires in
    let node = c.take_named-taken.ensures.node in
    let hand = c.take_named-taken.ensures.rest in
    let few = moves.freed-messages c.self.invariant t.lists c.take_named-taken.new.list c.take_named-taken.result (moves.freed-one c.self.invariant _ c.take_named-taken.new.list c.take_named-taken.result there hand node) in
    omega arith

pub give_back-requires-clause-few_blocks : goal.give_back-requires-clause-few_blocks
give_back-requires-clause-few_blocks c =
    let t = c.self.inside in
    let there = found.within t c.self.view_is c.args.message.name c.requires in
    let node = c.take_named-taken.ensures.node in
    let hand = c.take_named-taken.ensures.rest in
    let few = moves.freed-blocks c.self.invariant t.lists c.take_named-taken.new.list c.take_named-taken.result (moves.freed-one c.self.invariant _ c.take_named-taken.new.list c.take_named-taken.result there hand node) in
    omega arith

pub invariant_of-self : goal.invariant_of-self
invariant_of-self c =
    let t = c.self.inside in
    let there = found.within t c.self.view_is c.args.message.name c.requires in
    let node = c.take_named-taken.ensures.node in
    let hand = c.take_named-taken.ensures.rest in
    let after = c.give_back.ensures in
    moves.IsTable-freed c.self.invariant t.lists c.take_named-taken.new.list c.take_named-taken.result c.give_back.new.idle c.give_back.new.spare c.give_back.new.pool.references c.self.invariant.eight c.self.invariant.ordered (moves.freed-one c.self.invariant _ c.take_named-taken.new.list c.take_named-taken.result there hand node) after.blocks after.messages after.names after.released

pub returns : goal.returns
returns c =
    let t = c.self.inside in
    let name = c.args.message.name in
    let hand = c.take_named-taken.ensures.rest in
    let after = c.give_back.ensures in
    value-same t.data.bytes t.lists (without_at (place_in name t.hand) t.hand) t.mblks _ after.bytes refl hand after.count ∙ ap (λ (hand : List Held). record (value_of t) { hand = hand }) (without-value t.data.bytes name t.hand) ∙ ap (λ (s : StoreValue). dropped s name) c.self.view_is
