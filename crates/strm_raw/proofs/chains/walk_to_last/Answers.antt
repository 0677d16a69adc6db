use Rattle.std.proofs.Common.{ap, arith, refl}
use Rattle.strm_raw.specs.Numbered.{Row}
use Rattle.strm_raw.proofs.Walks.{walk-begins, walk-ends, walk-steps, walk-within}
use Rattle.strm_raw.proofs.chains.walk_to_last.Goals as goal

pub loop-left-init : goal.loop-left-init
loop-left-init c = walk-begins c.args.most c.args.most refl c.requires

pub returns-in_default-clause-number : goal.returns-in_default-clause-number
returns-in_default-clause-number c = λ is chain few. walk-ends c.loop-left.invariant c.loop-left-test.true (ap (λ (r : Row). r.next) c.message.ensures.row) c.in_default.is is chain

pub returns-clause-number : goal.returns-clause-number
returns-clause-number c = λ is chain few. let n = walk-within c.loop-left.invariant is chain in absurd (omega arith)

pub loop-left-preserved : goal.loop-left-preserved
loop-left-preserved c = walk-steps c.loop-left.invariant c.loop-left-test.true (ap (λ (r : Row). r.next) c.message.ensures.row) c.in-Some.next c.in-Some.is c.message.ensures.links.next
