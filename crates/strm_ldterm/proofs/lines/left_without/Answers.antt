use Rattle.std.proofs.Common.{◌≡◌, true, false, ◌-◌, get_or, ◌∙◌, sym, rules, arith}
use Rattle.strm_ldterm.proofs.LineEnds.{is_sought, without_end-falls, without_end-stays}
use Rattle.strm_ldterm.proofs.lines.left_without.Goals as goal

pub loop-left-preserved : goal.loop-left-preserved
loop-left-preserved c =
    let line = c.args.line.now in
    let left = c.loop-left.left in
    let passes : is_sought c.args.blanks (get_or line (left - 1) 0) ≡ true = first_of (cc, search rules) in
    record {
      within = omega arith;
      same = without_end-falls (is_sought c.args.blanks) line left 0 c.loop-left-test.true c.loop-left.invariant.within passes ∙ c.loop-left.invariant.same;
    }

pub returns-else-is_sought-clause-left : goal.returns-else-is_sought-clause-left
returns-else-is_sought-clause-left c =
    let line = c.args.line.now in
    let left = c.loop-left.left in
    let fails : is_sought c.args.blanks (get_or line (left - 1) 0) ≡ false = first_of (cc, search rules) in
    sym (without_end-stays (is_sought c.args.blanks) line left 0 c.loop-left-test.true c.loop-left.invariant.within fails) ∙ c.loop-left.invariant.same
