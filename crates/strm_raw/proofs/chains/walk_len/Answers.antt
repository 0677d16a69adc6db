use Rattle.std.proofs.Common.{ap, arith, refl}
use Rattle.strm_raw.specs.Numbered.{Row}
use Rattle.strm_raw.proofs.Walks.{walk-begins, walk-counts, walk-steps, walk-within}
use Rattle.strm_raw.proofs.chains.walk_len.Goals as goal

pub loop-left-init : goal.loop-left-init
loop-left-init c = walk-begins c.args.most c.args.most refl c.requires

pub returns-in_default : goal.returns-in_default
returns-in_default c = λ is chain few. walk-counts c.loop-left.invariant c.loop-left-test.true (ap (λ (r : Row). r.next) c.message.ensures.row) c.in_default.is is chain

pub returns : goal.returns
returns c = λ is chain few. let n = walk-within c.loop-left.invariant is chain in absurd (omega arith)

pub loop-left-preserved : goal.loop-left-preserved
loop-left-preserved c = walk-steps c.loop-left.invariant c.loop-left-test.true (ap (λ (r : Row). r.next) c.message.ensures.row) c.in-Some.next c.in-Some.is c.message.ensures.links.next
