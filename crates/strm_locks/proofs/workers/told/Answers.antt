use Rattle.std.proofs.Common.{rules, ◌≡◌, ◌+◌, get_or, length, refl, sym, ap, ◌∙◌, arith, subst}
use Rattle.strm_locks.specs.Reports.{IsReportOf, both, total, visits_at}
use Rattle.strm_locks.proofs.Reports.{reports-join}
use Rattle.strm_locks.proofs.Rows.{fits_both, told_next, whole}
use Rattle.strm_locks.proofs.workers.told.Goals as goal

pub plus-report-requires-clause-turns : goal.plus-report-requires-clause-turns
plus-report-requires-clause-turns g c = let i = c.loop-hand.hand-index in let few = c.requires.few in let small = c.loop-hand-test.true in let hand = c.hand-item.result in
    let at : get_or c.args.hands.now i hand ≡ hand = search rules in
    (fits_both i 1 c.args.pairs c.args.visits c.loop-hand.report hand.report (omega (arith, few, small)) (search rules) c.loop-hand.invariant.1
    (subst (λ h. IsReportOf 1 (visits_at c.args.pairs c.args.visits) h.report) at (c.requires.each i hand c.loop-hand-test.true))).0

pub plus-report-requires-clause-blocked : goal.plus-report-requires-clause-blocked
plus-report-requires-clause-blocked g c = let i = c.loop-hand.hand-index in let few = c.requires.few in let small = c.loop-hand-test.true in let hand = c.hand-item.result in
    let at : get_or c.args.hands.now i hand ≡ hand = search rules in
    (fits_both i 1 c.args.pairs c.args.visits c.loop-hand.report hand.report (omega (arith, few, small)) (search rules) c.loop-hand.invariant.1
    (subst (λ h. IsReportOf 1 (visits_at c.args.pairs c.args.visits) h.report) at (c.requires.each i hand c.loop-hand-test.true))).1

pub plus-report-requires-clause-refused : goal.plus-report-requires-clause-refused
plus-report-requires-clause-refused g c = let i = c.loop-hand.hand-index in let few = c.requires.few in let small = c.loop-hand-test.true in let hand = c.hand-item.result in
    let at : get_or c.args.hands.now i hand ≡ hand = search rules in
    (fits_both i 1 c.args.pairs c.args.visits c.loop-hand.report hand.report (omega (arith, few, small)) (search rules) c.loop-hand.invariant.1
    (subst (λ h. IsReportOf 1 (visits_at c.args.pairs c.args.visits) h.report) at (c.requires.each i hand c.loop-hand-test.true))).2

pub plus-report-requires-clause-idle : goal.plus-report-requires-clause-idle
plus-report-requires-clause-idle g c = let i = c.loop-hand.hand-index in let few = c.requires.few in let small = c.loop-hand-test.true in let hand = c.hand-item.result in
    let at : get_or c.args.hands.now i hand ≡ hand = search rules in
    (fits_both i 1 c.args.pairs c.args.visits c.loop-hand.report hand.report (omega (arith, few, small)) (search rules) c.loop-hand.invariant.1
    (subst (λ h. IsReportOf 1 (visits_at c.args.pairs c.args.visits) h.report) at (c.requires.each i hand c.loop-hand-test.true))).3

pub loop-hand-preserved : goal.loop-hand-preserved
loop-hand-preserved g c = let i = c.loop-hand.hand-index in let hand = c.hand-item.result in
    let at : get_or c.args.hands.now i hand ≡ hand = search rules in
    let one = subst (λ h. IsReportOf 1 (visits_at c.args.pairs c.args.visits) h.report) at (c.requires.each i hand c.loop-hand-test.true) in (
      told_next (λ h. h.report) c.args.hands.now i hand c.loop-hand.report c.plus-report.result c.loop-hand-test.true c.loop-hand.invariant.0 (c.plus-report.ensures ∙ ap (λ h. both c.loop-hand.report h.report) (sym at)),
      reports-join i 1 (i + 1) (visits_at c.args.pairs c.args.visits) c.loop-hand.report hand.report c.plus-report.result refl c.loop-hand.invariant.1 one c.plus-report.ensures,
    )

pub returns-clause-total : goal.returns-clause-total
returns-clause-total g c = c.loop-hand.invariant.0 ∙ ap total (whole (λ h. h.report) c.args.hands.now c.loop-hand.hand-index (search rules))

pub returns-clause-counted : goal.returns-clause-counted
returns-clause-counted g c = let all : c.loop-hand.hand-index ≡ length c.args.hands.now = search rules in
    subst (λ n. IsReportOf n (visits_at c.args.pairs c.args.visits) c.loop-hand.report) all c.loop-hand.invariant.1
