use Rattle.std.proofs.Common.{rules, ◌≡◌, ◌+◌, [], ◌∷◌, ◌++◌, length, sym, ap, ◌∙◌, subst}
use Rattle.std.proofs.lemmas.List.{length-append, map-append, replicate-append-replicate}
use Rattle.std.specs.Prelude.{map, replicate}
use Rattle.strm_locks.specs.Reports.{AreCrew, at_rest}
use Rattle.strm_locks.proofs.Rows.{crew_own}
use Rattle.strm_locks.proofs.system.System.crew.Goals as goal

pub loop-made-preserved : goal.loop-made-preserved
loop-made-preserved g c = let row = map at_rest c.args.self.now.locks in let all = c.loop-made.all.items in (
  ap (λ xs. map (λ h. h.worker) xs) c.in_ok-push.ensures.items
      ∙ map-append (λ h. h.worker) all (_ ∷ [])
      ∙ ap (λ zs. zs ++ c.in_ok-worker.worker ∷ []) c.loop-made.invariant.0
      ∙ ap (λ w. replicate c.loop-made.made row ++ w ∷ []) c.in_ok-worker.ensures
      ∙ replicate-append-replicate c.loop-made.made 1 row,
  ap length c.in_ok-push.ensures.items ∙ length-append all (_ ∷ []) ∙ ap (λ n. n + 1) c.loop-made.invariant.1,
)

pub returns-clause-rest : goal.returns-clause-rest
returns-clause-rest g c = let all : c.loop-made.made ≡ c.args.workers = search rules in c.loop-made.invariant.0 ∙ ap (λ n. replicate n (map at_rest c.args.self.now.locks)) all

pub returns-clause-own : goal.returns-clause-own
returns-clause-own g c = subst (AreCrew c.args.self.now.locks) (sym c.loop-made.invariant.0) (crew_own c.args.self.now.locks c.loop-made.made)
