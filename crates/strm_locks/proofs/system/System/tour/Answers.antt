use Rattle.std.proofs.Common.{rules, ◌≡◌, suc, ◌+◌, ◌<◌, ◌%◌, length, ◌∙◌, arith, subst}
use Rattle.strm_locks.specs.Reports.{Meets, Tours, visits_at}
use Rattle.strm_locks.proofs.Reports.{Counts, counts_one, visit-counts}
use Rattle.strm_locks.proofs.Rows.{some_visits}
use Rattle.strm_locks.proofs.system.System.tour.Goals as goal

pub loop-visit-preserved : goal.loop-visit-preserved
loop-visit-preserved g c = let i = c.loop-visit.invariant in let n = c.loop-visit.visit in let next : suc n ≡ n + 1 = omega arith in
    let met = subst (λ p. Meets c.loop-visit.worker ((c.args.shift.first + n) % p) c.visit.result c.visit.new.worker) c.pairs-pairs.ensures.value c.visit.ensures.met in (
      c.visit.ensures.own,
      subst (λ k. Tours (length c.args.self.now.locks) c.args.shift.first k c.args.worker.now c.counted-report.result c.visit.new.worker) next
          (c.loop-visit.worker, c.loop-visit.report, c.visit.result, i.1, met, c.counted-report.ensures),
      visit-counts n c.visit.result c.loop-visit.report c.counted-report.result c.counted-report.ensures i.2,
    )

pub returns-clause-tours : goal.returns-clause-tours
returns-clause-tours g c = let long = length c.args.self.now.locks in
    let all : c.loop-visit.visit ≡ c.args.shift.visits = search rules in
    let pairs = c.pairs-pairs.ensures.value in
    let some : 0 < long = search (rules, pairs) in
    subst (λ n. Tours long c.args.shift.first n c.args.worker.now c.loop-visit.report c.loop-visit.worker) (all ∙ some_visits long c.args.shift.visits some) c.loop-visit.invariant.1

pub returns-clause-counted : goal.returns-clause-counted
returns-clause-counted g c = let long = length c.args.self.now.locks in
    let all : c.loop-visit.visit ≡ c.args.shift.visits = search rules in
    let pairs = c.pairs-pairs.ensures.value in
    let some : 0 < long = search (rules, pairs) in
    counts_one (visits_at long c.args.shift.visits) c.loop-visit.report (subst (λ n. Counts n c.loop-visit.report) (all ∙ some_visits long c.args.shift.visits some) c.loop-visit.invariant.2)
