use Rattle.std.proofs.Common.{◌+◌, true, set, sym, subst, arith}
use Rattle.strm_ldterm.proofs.Marks.{MarkedEach, each-more, each-none, none-any}
use Rattle.strm_ldterm.proofs.plain_runs.mark_each.Goals as goal

pub loop-at-init : goal.loop-at-init
loop-at-init c = each-none c.args.odd.now c.args.bytes.now

pub loop-at-preserved : goal.loop-at-preserved
loop-at-preserved c =
    subst (λ b. MarkedEach c.args.odd.now (set c.loop-at.odd b true) c.args.bytes.now (c.loop-at.at + 1)) (sym c.from.ensures) (each-more c.args.odd.now c.loop-at.odd c.args.bytes.now c.loop-at.at (omega arith) c.loop-at.invariant)

pub returns-clause-none : goal.returns-clause-none
returns-clause-none c = λ b free. none-any c.args.bytes.now b (λ k few. c.loop-at.invariant.none b k free (omega arith))
