use Rattle.std.proofs.Common.{ℕ, ◌+◌, List, subst}
use Rattle.std.proofs.lemmas.Result.{IfOk-at_ok}
use Rattle.strm_locks.specs.Systems.{Plan}
use Rattle.strm_storm.specs.Rounds.{AreRounds}
use Rattle.strm_storm.proofs.Calls.{if-ok}
use Rattle.strm_storm.proofs.hosting.+all_rounds+fn-all_rounds-join+arg2+fn-all_rounds-join+arg3.Goals as goal

pub returns : goal.returns
returns g n c =
    let here = c.args.host.now in
    let few = c.halves.result.0.rounds in
    let rest = c.halves.result.1.rounds in
    let one = IfOk-at_ok (λ x. AreRounds here few x) c.in_ok-first.was c.join-first.ensures.first in
    let two = IfOk-at_ok (λ x. AreRounds here rest x) c.in_ok-second.was c.join-first.ensures.second in
    if-ok (λ b. (host : List Plan) (m : ℕ) (n : ℕ) → AreRounds host m c.in_ok-first.first → AreRounds host n c.in_ok-second.second → AreRounds host (m + n) b) (λ b. AreRounds here c.args.share.rounds b)
    (λ b p. subst (λ k. AreRounds here k b) c.halves.ensures.rounds (p here few rest one two)) c.both.result c.both.ensures
