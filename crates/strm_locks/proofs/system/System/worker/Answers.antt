use Rattle.std.proofs.Common.{rules, ◌≡◌, suc, ◌+◌, [], ◌∷◌, ◌++◌, take, sym, ap, ◌∙◌, arith}
use Rattle.std.specs.Prelude.{map}
use Rattle.strm_locks.specs.Reports.{at_rest}
use Rattle.strm_locks.proofs.Rows.{snoc, whole}
use Rattle.strm_locks.proofs.system.System.worker.Goals as goal

pub loop-pair-preserved : goal.loop-pair-preserved
loop-pair-preserved g c = let n = c.loop-pair.pair in let next : suc n ≡ n + 1 = omega arith in let locks = c.args.self.now.locks in
    c.in_ok-push.ensures.items
    ∙ ap (λ xs. xs ++ c.post-post.result ∷ []) c.loop-pair.invariant
    ∙ ap (λ p. map at_rest (take n locks) ++ p ∷ []) c.post-post.ensures
    ∙ sym (snoc at_rest locks n c.lock.result.now c.lock.ensures)
    ∙ ap (λ k. map at_rest (take k locks)) next

pub returns : goal.returns
returns g c = c.loop-pair.invariant ∙ whole at_rest c.args.self.now.locks c.loop-pair.pair (search rules)
