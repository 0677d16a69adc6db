use Rattle.std.proofs.Common.{arith}
use Rattle.std.proofs.lemmas.Grind.{common_steps}
use Rattle.strm_blocks.proofs.ListParts.{drop-one-more}
use Rattle.strm_blocks.proofs.message.take_of_many.Goals as goal

pub returns-clause-rest : goal.returns-clause-rest
returns-clause-rest c = grind (arith, common_steps, drop-one-more c.args.list.now c.args.at)
