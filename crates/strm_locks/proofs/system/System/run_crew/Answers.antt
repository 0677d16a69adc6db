use Rattle.std.proofs.Common.{rules, ◌≡◌, ◌+◌, get_or, length, sym, ap, ◌∙◌, arith, subst}
use Rattle.std.proofs.lemmas.List.{with_items_is}
use Rattle.std.specs.Prelude.{map}
use Rattle.std.specs.Vec.{with_items}
use Rattle.strm_locks.specs.Reports.{AreCrew, IsReportOf, Tours, Works, visits_at}
use Rattle.strm_locks.proofs.Rows.{crew_each, crew_of, works_of}
use Rattle.strm_locks.proofs.system.System.run_crew.Goals as goal

pub serve_all-requires-clause-own : goal.serve_all-requires-clause-own
serve_all-requires-clause-own g c = let locks = c.args.self.now.locks in let hs = c.as_mut_slice-hands.result.now in
    let own = subst (AreCrew locks) (sym c.crew.view_is) c.requires in
    λ lives outlive. crew_each (λ h. h.worker) (λ h. h.report) locks hs (subst (λ xs. AreCrew locks (map (λ h. h.worker) xs)) (sym c.as_mut_slice-hands.ensures.value) own)

pub told-requires-clause-each : goal.told-requires-clause-each
told-requires-clause-each g c = let long : length c.serve_all.new.hands ≡ length c.as_mut_slice-hands.result.now = search rules in λ i d small.
    subst (λ p. IsReportOf 1 (visits_at p c.args.visits) (get_or c.serve_all.new.hands i d).report) (sym c.pairs-pairs.ensures.value) (c.serve_all.ensures i d (omega (arith, small, long))).counted

pub returns-clause-works : goal.returns-clause-works
returns-clause-works g c = let locks = c.args.self.now.locks in let hs = c.as_mut_slice-hands.result.now in let zs = c.serve_all.new.hands in
    let pairs = length locks in let visits = visits_at (length locks) c.args.visits in
    let long : length zs ≡ length hs = search rules in
    let full : length zs ≡ c.crew.inside.hands.len = search rules in
    let back : (with_items c.crew.inside.hands zs).items ≡ zs = with_items_is c.crew.inside.hands zs full in
    let works = works_of (λ h. h.worker) (λ h. h.report) pairs visits 0 hs zs long
    (λ i d small. let here : i ≡ 0 + i = omega arith in subst (λ n. Tours pairs n visits (get_or hs i d).worker (get_or zs i d).report (get_or zs i d).worker) here (c.serve_all.ensures i d small).tours) in
    subst (λ ws. Works pairs visits 0 ws c.told.result (map (λ h. h.worker) (with_items c.crew.inside.hands zs).items)) (ap (λ xs. map (λ h. h.worker) xs) c.as_mut_slice-hands.ensures.value ∙ c.crew.view_is)
    (subst (λ xs. Works pairs visits 0 (map (λ h. h.worker) hs) c.told.result (map (λ h. h.worker) xs)) (sym back)
    (subst (λ r. Works pairs visits 0 (map (λ h. h.worker) hs) r (map (λ h. h.worker) zs)) (sym c.told.ensures.total) works))

pub returns-clause-own : goal.returns-clause-own
returns-clause-own g c = let locks = c.args.self.now.locks in let zs = c.serve_all.new.hands in
    let long : length zs ≡ length c.as_mut_slice-hands.result.now = search rules in
    let full : length zs ≡ c.crew.inside.hands.len = search rules in
    let back : (with_items c.crew.inside.hands zs).items ≡ zs = with_items_is c.crew.inside.hands zs full in
    subst (λ xs. AreCrew locks (map (λ h. h.worker) xs)) (sym back) (crew_of (λ h. h.worker) (λ h. h.report) locks zs (λ i d small. (c.serve_all.ensures i d (omega (arith, small, long))).own))
