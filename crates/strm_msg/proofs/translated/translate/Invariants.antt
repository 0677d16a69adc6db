use Rattle.strm_blocks.specs.Blocks.{token}
use Rattle.strm_msg.proofs.Translating.{Rotating}
use Rattle.strm_msg.proofs.translated.translate.Given as goal

abbrev pub invariant-loop : goal.invariant-loop
invariant-loop g l = Rotating (g.B.Blocks.value l.fn.store) (g.B.Blocks.value l.store) (token l.fn.message) (token l.message) l.table l.counter
