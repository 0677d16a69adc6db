use Rattle.std.proofs.Common.{arith}
use Rattle.std.proofs.lemmas.Grind.{common_steps}
use Rattle.strm_blocks.proofs.ListParts.{set-behind}
use Rattle.strm_blocks.proofs.message.set_block.Goals as goal

pub returns : goal.returns
returns c = grind (arith, common_steps, set-behind c.args.chain.now c.args.at c.args.block)
