use Rattle.std.proofs.Common.{◌∙◌, ◌∷◌, ap}
use Rattle.strm_blocks.specs.Message.{message_at, with_blocks}
use Rattle.strm_blocks.proofs.message.hold_block.Goals as goal

pub returns-clause-hand : goal.returns-clause-hand
returns-clause-hand c = c.hold.ensures.hand ∙ ap (λ blocks. with_blocks blocks (message_at 0 c.args.idle.now) ∷ c.args.hand.now) c.chain_with-chain.ensures.chain
