use Rattle.std.proofs.Common.{arith, ◌∙◌, ap, length}
use Rattle.strm_blocks.specs.Message.{row_at}
use Rattle.strm_blocks.proofs.message.block_in.Goals as goal

pub block_at-requires : goal.block_at-requires
block_at-requires c = let same = ap length c.blocks_of.ensures in omega (arith, c.requires.within)

pub returns : goal.returns
returns c = c.block_at.ensures ∙ ap (λ blocks. row_at c.args.at blocks) c.blocks_of.ensures
