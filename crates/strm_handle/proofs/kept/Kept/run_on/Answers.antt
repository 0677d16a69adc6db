use Rattle.std.proofs.Common.{◌≡◌, false, [], subst, ap, ◌∙◌}
use Rattle.std.specs.Prelude.{IfNone}
use Rattle.strm_handle.specs.Kept.{KeptPair}
use Rattle.strm_handle.specs.Outcomes.{RunsQueues, number_told}
use Rattle.strm_handle.proofs.RunsAnew.{ran-on}
use Rattle.strm_handle.proofs.RunsWithin.{runs-kept}
use Rattle.strm_handle.proofs.kept.Kept.run_on.Goals as goal

pub invariant_of-self : goal.invariant_of-self
invariant_of-self c =
    let k : KeptPair = record { pair = c.self.inside.pair; anew = c.self.inside.anew; reserve = c.self.inside.reserve } in
    record { kept = runs-kept c.runqueues-ran.result.turns k c.runqueues-ran.new.self c.self.invariant.kept c.runqueues-ran.ensures.ran; answer = c.self.invariant.answer }

pub returns : goal.returns
returns c =
    let k : KeptPair = record { pair = c.self.inside.pair; anew = c.self.inside.anew; reserve = c.self.inside.reserve } in
    let plain : k.anew ≡ false = ap (λ (o : KeptPair). o.anew) c.self.view_is ∙ c.requires in
    let rest = subst (λ o. IfNone o (c.runqueues-ran.new.self.state.enabled ≡ [])) c.runqueues-ran.ensures.stopped c.runqueues-ran.ensures.rest in
    subst (λ (o : KeptPair). RunsQueues c.runqueues-ran.result.turns o (record k { pair = c.runqueues-ran.new.self }) c.told.result) c.self.view_is
    (ran-on c.runqueues-ran.result.turns k c.runqueues-ran.new.self c.told.result plain c.runqueues-ran.ensures.ran (c.told.ensures ∙ ap number_told c.runqueues-ran.ensures.stopped) rest)
