use Rattle.std.proofs.Common.{arith, ◌<◌, ◌≡◌, ◌-◌, ◌∙◌, ◌++◌, ◌∷◌, [], ℕ, List, ap, length}
use Rattle.std.proofs.lemmas.Bool.Decides.{nat_tests}
use Rattle.strm_blocks.specs.Message.{message_at, without_at}
use Rattle.strm_blocks.specs.declared.message.Message.{Message}
use Rattle.strm_blocks.proofs.Lists.{list, list-read, list-few, popped-last, IsTable-popped}
use Rattle.strm_blocks.proofs.table.TableStoreBlocks.pop_last.Goals as goal

pub put_node-requires-clause-few : goal.put_node-requires-clause-few
put_node-requires-clause-few c =
    let few = list-few c.self.inside c.self.view_is c.self.invariant c.args.list c.requires in
    let one = ap (λ (q : List Message). length q) c.take_node-node.ensures.node in
    omega arith

module _ (c : goal.After-put_node) where
  abbrev q : List Message
  q = list c.self.inside c.self.view_is c.self.invariant c.args.list c.requires

  first : length q ≡ c.len-count.result
  first =
      let read = ap (λ (q : List Message). length q) (list-read c.self.inside c.self.view_is c.self.invariant c.args.list c.requires c.index-self-list.result) in
      omega arith

  some : 0 < length q
  some = let count = first in grind (arith, nat_tests)

  place : c.len-count.result - 1 ≡ length q - 1
  place = let count = first in omega arith

  node : c.take_node-node.result ≡ message_at (length q - 1) q ∷ []
  node =
      c.take_node-node.ensures.node ∙ ap (λ q. message_at (c.len-count.result - 1) q ∷ []) (list-read c.self.inside c.self.view_is c.self.invariant c.args.list c.requires c.index-self-list-2.result)
      ∙ ap (λ p. message_at p q ∷ []) place

  rest : c.take_node-node.new.list ≡ without_at (length q - 1) q
  rest =
      c.take_node-node.ensures.rest ∙ ap (λ q. without_at (c.len-count.result - 1) q) (list-read c.self.inside c.self.view_is c.self.invariant c.args.list c.requires c.index-self-list-2.result)
      ∙ ap (λ p. without_at p q) place

  hand : c.put_node.new.list ≡ message_at (length q - 1) q ∷ c.self.inside.hand
  hand = c.put_node.ensures ∙ ap (λ (node : List Message). node ++ c.self.inside.hand) node

pub returns : goal.returns
returns c =
    let name = c.name_of-name.ensures ∙ ap (λ node. (message_at 0 node).name) (node c) in
    popped-last c.self.inside c.self.view_is c.self.invariant c.args.list c.requires c.take_node-node.new.list c.put_node.new.list c.name_of-name.result (some c) (rest c) (hand c) name

pub invariant_of-self : goal.invariant_of-self
invariant_of-self c =
    IsTable-popped c.self.inside c.self.view_is c.self.invariant c.args.list c.requires _ (omega (arith, some c)) _ _ (rest c) (hand c)
