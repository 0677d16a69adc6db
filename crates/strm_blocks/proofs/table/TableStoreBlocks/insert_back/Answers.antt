use Rattle.std.proofs.Common.{List, ap, arith, length}
use Rattle.std.specs.Prelude.{nat_le}
use Rattle.strm_blocks.specs.Message.{message_at, rank_in}
use Rattle.strm_blocks.specs.declared.message.Message.{Message}
use Rattle.strm_blocks.proofs.Found as found
use Rattle.strm_blocks.proofs.Lists.{place-fits, list-short, list-read, put-at, IsTable-put}
use Rattle.strm_blocks.proofs.table.TableStoreBlocks.insert_back.Goals as goal

pub rank_of_first-rank-requires : goal.rank_of_first-rank-requires
rank_of_first-rank-requires c =
    let one = ap (λ (q : List Message). length q) c.take_named-node.ensures.node in
    omega arith

pub place_behind-place-requires : goal.place_behind-place-requires
place_behind-place-requires c =
    let t = c.self.inside in
    let k = c.args.list in
    rw (list-read t c.self.view_is c.self.invariant k c.requires.list c.index-self-list.result) (c.self.invariant.ordered k)

pub take_named-node-requires : goal.take_named-node-requires
take_named-node-requires c = found.within c.self.inside c.self.view_is c.args.message.name c.requires.in_hand

pub put_node-requires-clause-within : goal.put_node-requires-clause-within
put_node-requires-clause-within c = place-fits c.self.inside c.self.view_is c.self.invariant c.args.list c.requires.list (λ (m : Message). nat_le c.rank_of_first-rank.result (rank_in m.blocks)) c.place_behind-place.result c.index-self-list.result c.index-self-list-2.result c.place_behind-place.ensures

pub put_node-requires-clause-few : goal.put_node-requires-clause-few
put_node-requires-clause-few c =
    let short = list-short c.self.inside c.self.view_is c.self.invariant c.args.list c.requires.list c.index-self-list-2.result in
    let one = ap (λ (q : List Message). length q) c.take_named-node.ensures.node in
    omega arith

pub invariant_of-self : goal.invariant_of-self
invariant_of-self c = IsTable-put c.self.inside c.self.view_is c.self.invariant c.args.list c.requires.list c.args.message.name c.place_behind-place.result c.rank_of_first-rank.result (message_at 0 c.take_named-node.result).blocks c.index-self-list.result c.index-self-list-2.result c.take_named-node.result c.put_node.new.list c.take_named-node.new.list c.rank_of_first-rank.ensures (ap (λ q. (message_at 0 q).blocks) c.take_named-node.ensures.node) c.take_named-node.ensures.rest c.take_named-node.ensures.node c.put_node.ensures c.place_behind-place.ensures c.requires.in_hand

pub returns : goal.returns
returns c = put-at c.self.inside c.self.view_is c.self.invariant c.args.list c.requires.list c.args.message.name c.place_behind-place.result c.rank_of_first-rank.result (message_at 0 c.take_named-node.result).blocks c.index-self-list.result c.index-self-list-2.result c.take_named-node.result c.put_node.new.list c.take_named-node.new.list c.rank_of_first-rank.ensures (ap (λ q. (message_at 0 q).blocks) c.take_named-node.ensures.node) c.take_named-node.ensures.rest c.take_named-node.ensures.node c.put_node.ensures c.place_behind-place.ensures
