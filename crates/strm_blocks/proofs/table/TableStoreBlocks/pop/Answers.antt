use Rattle.std.proofs.Common.{arith, ◌<◌, ◌∙◌, ◌++◌, ◌∷◌, [], List, ap, length}
use Rattle.std.proofs.lemmas.Bool.Decides.{nat_tests}
use Rattle.strm_blocks.specs.Message.{message_at, without_at}
use Rattle.strm_blocks.specs.declared.message.Message.{Message}
use Rattle.strm_blocks.proofs.Lists.{list, list-read, list-few, popped-value}
use Rattle.strm_blocks.proofs.table.TableStoreBlocks.pop.Goals as goal

pub put_node-requires-clause-few : goal.put_node-requires-clause-few
put_node-requires-clause-few c =
    let few = list-few c.self.inside c.self.view_is c.self.invariant c.args.list c.requires in
    let one = ap (λ (q : List Message). length q) c.take_node-node.ensures.node in
    omega arith

pub returns : goal.returns
returns c =
    let t = c.self.inside in
    let k = c.args.list in
    let q = list t c.self.view_is c.self.invariant k c.requires in
    let first = ap (λ (q : List Message). length q) (list-read t c.self.view_is c.self.invariant k c.requires c.index-self-list.result) in
    let some : 0 < length q = grind (arith, nat_tests) in
    let read = list-read t c.self.view_is c.self.invariant k c.requires c.index-self-list-2.result in
    let node = c.take_node-node.ensures.node ∙ ap (λ q. message_at 0 q ∷ []) read in
    let rest = c.take_node-node.ensures.rest ∙ ap (λ q. without_at 0 q) read in
    let hand = c.put_node.ensures ∙ ap (λ (node : List Message). node ++ t.hand) node in
    let name = c.name_of-name.ensures ∙ ap (λ node. (message_at 0 node).name) node in
    popped-value t c.self.view_is c.self.invariant k c.requires c.take_node-node.new.list c.put_node.new.list c.name_of-name.result some rest hand name
