use Rattle.std.proofs.Common.{sym, ◌∙◌}
use Rattle.strm_types.specs.declared.events.Event.TheVariants as calls
use Rattle.strm_types.specs.declared.refusals.Refusal.TheVariants.{Einval}
use Rattle.strm_script.specs.ScriptRun.{wanted_of, by_call, by_get}
use Rattle.strm_script.specs.Plain.{plain}
use Rattle.strm_script.proofs.Events.{leads_unanswered, leads_same, named_none, named_some}
use Rattle.strm_script.proofs.calls.get.Goals as goal

pub returns-in_default : goal.returns-in_default
unfolding by_get
returns-in_default g c =
    let p = plain c.args.pair.now in
    leads_unanswered _ (λ account. by_get c.args.caller c.args.named c.args.cmax c.args.dmax account p) Einval _ _ c.refused.ensures
    (λ account. named_none c.args.caller (λ wanted. calls.Get wanted c.args.cmax c.args.dmax) (wanted_of c.args.named) account p (sym c.wanted.ensures ∙ c.in_default.is))

pub returns : goal.returns
unfolding by_get
returns g c =
    let p = plain c.args.pair.now in
    leads_same _ (λ account. by_get c.args.caller c.args.named c.args.cmax c.args.dmax account p)
    (λ account. by_call c.args.caller (calls.Get c.in-Some.wanted c.args.cmax c.args.dmax) account p) _ _
    (λ account. named_some c.args.caller (λ wanted. calls.Get wanted c.args.cmax c.args.dmax) (wanted_of c.args.named) c.in-Some.wanted account p (sym c.wanted.ensures ∙ c.in-Some.is))
    c.call.ensures
