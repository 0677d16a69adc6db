use Rattle.std.proofs.Common.{◌∙◌, ◌∷◌, [], ap}
use Rattle.strm_blocks.specs.Message.{message_at, without_at}
use Rattle.strm_blocks.proofs.message.take_named.Goals as goal

pub returns-clause-rest : goal.returns-clause-rest
returns-clause-rest c = c.take_node.ensures.rest ∙ ap (λ p. without_at p c.args.list.now) c.place_of-place.ensures

pub returns-clause-node : goal.returns-clause-node
returns-clause-node c = c.take_node.ensures.node ∙ ap (λ p. message_at p c.args.list.now ∷ []) c.place_of-place.ensures
