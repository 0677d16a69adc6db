use Rattle.std.proofs.Common.{rules, ◌≡◌, suc, ◌+◌, arith, subst}
use Rattle.std.specs.Prelude.{MatchResult}
use Rattle.strm_system.specs.Hosts.{Finds, FindsNone, Passes}
use Rattle.strm_system.proofs.Openers.{held_by}
use Rattle.strm_system.proofs.hosts.Host.claim.Goals as goal

pub loop-system-preserved : goal.loop-system-preserved
loop-system-preserved g c = let n = c.loop-system.system in let next : suc n ≡ n + 1 = omega arith in let host = c.args.self.now in
    let none = subst (λ r. MatchResult r (λ minor. Finds host c.loop-system.opener n minor c.claim_at.new.opener) (λ _. FindsNone host c.loop-system.opener n c.claim_at.new.opener)) c.in-Err.is c.claim_at.ensures.found in (
      c.claim_at.ensures.own,
      subst (λ k. Passes host c.args.opener.now k c.claim_at.new.opener) next (c.loop-system.opener, c.loop-system.invariant.1, none),
    )

pub returns-in-Ok-clause-claimed : goal.returns-in-Ok-clause-claimed
returns-in-Ok-clause-claimed g c = let n = c.loop-system.system in let host = c.args.self.now in
    let some = subst (λ r. MatchResult r (λ minor. Finds host c.loop-system.opener n minor c.claim_at.new.opener) (λ _. FindsNone host c.loop-system.opener n c.claim_at.new.opener)) c.in-Ok.is c.claim_at.ensures.found in
    (c.loop-system.opener, c.loop-system.invariant.1, some)

pub returns-in-Ok-clause-held : goal.returns-in-Ok-clause-held
returns-in-Ok-clause-held g c = let n = c.loop-system.system in let host = c.args.self.now in
    let some = subst (λ r. MatchResult r (λ minor. Finds host c.loop-system.opener n minor c.claim_at.new.opener) (λ _. FindsNone host c.loop-system.opener n c.claim_at.new.opener)) c.in-Ok.is c.claim_at.ensures.found in
    (search rules, held_by host c.loop-system.opener n c.in-Ok.minor c.claim_at.new.opener some)
