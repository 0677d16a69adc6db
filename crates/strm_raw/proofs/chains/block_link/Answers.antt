use Rattle.std.proofs.Common.{◌≡◌, ◌-◌, ap, ◌∙◌, arith, refl, get_or}
use Rattle.strm_raw.specs.Numbered.{Row}
use Rattle.strm_raw.proofs.Walks.{stands-at, walk-begins, walk-counts, walk-steps}
use Rattle.strm_raw.proofs.chains.block_link.Goals as goal

pub loop-left-init : goal.loop-left-init
loop-left-init c = walk-begins c.args.at c.args.at refl c.requires

pub returns-in_default-clause-number : goal.returns-in_default-clause-number
returns-in_default-clause-number c = λ is chain within.
    let n = walk-counts c.loop-left.invariant c.loop-left-test.true (ap (λ (r : Row). r.next) c.message.ensures.row) c.in_default.is is chain in absurd (omega arith)

pub returns-clause-number : goal.returns-clause-number
returns-clause-number c = λ is chain within. let e : c.args.at - c.loop-left.left ≡ c.args.at = omega arith in stands-at (c.loop-left.invariant.stands is chain) ∙ ap (λ k. get_or is k 0) e

pub loop-left-preserved : goal.loop-left-preserved
loop-left-preserved c = walk-steps c.loop-left.invariant c.loop-left-test.true (ap (λ (r : Row). r.next) c.message.ensures.row) c.in-Some.next c.in-Some.is c.message.ensures.links.next
