use Rattle.std.proofs.Common.{arith}
use Rattle.strm_ldterm.proofs.Marks.{marked-more, marked-none}
use Rattle.strm_ldterm.proofs.plain_runs.mark.Goals as goal

pub loop-at-init : goal.loop-at-init
loop-at-init c = marked-none c.args.odd.now c.args.from

pub loop-at-preserved : goal.loop-at-preserved
loop-at-preserved c = marked-more c.args.odd.now c.loop-at.odd c.args.from c.loop-at.at (omega arith) c.loop-at.invariant
