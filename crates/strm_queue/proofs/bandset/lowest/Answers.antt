use Rattle.std.proofs.Common.{arith, ◌-◌, ◌*◌, ◌%◌, ◌^◌}
use Rattle.std.proofs.lemmas.Nat.{and_le_l}
use Rattle.strm_queue.proofs.Lowest.{none-left, lowest-left}
use Rattle.strm_queue.proofs.bandset.lowest.Goals as goal

pub returns-then-left-eq0 : goal.returns-then-left-eq0
returns-then-left-eq0 c = none-left c.args.word c.args.from c.requires c.if-left-eq0.true

pub returns : goal.returns
returns c = lowest-left c.args.word c.args.from c.requires (omega (arith, c.if-left-eq0.false)) (let le = and_le_l c.args.word ((2 ^ 64 - 1) * 2 ^ c.args.from % 2 ^ 64) in omega (arith, le, c.ranges.word.fits))
