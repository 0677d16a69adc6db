use Rattle.std.proofs.Common.{sym, ◌∙◌, option_map}
use Rattle.strm_types.specs.declared.events.Event.TheVariants as calls
use Rattle.strm_types.specs.declared.refusals.Refusal.TheVariants.{Einval}
use Rattle.strm_script.specs.ScriptRun.{prio_of, by_call, by_put}
use Rattle.strm_script.specs.Plain.{plain}
use Rattle.strm_script.proofs.Events.{leads_unanswered, leads_same, named_none, named_some}
use Rattle.strm_script.proofs.calls.put.Goals as goal

pub returns-in_default : goal.returns-in_default
unfolding by_put
returns-in_default g c =
    let p = plain c.args.pair.now in
    let control = option_map (λ bytes. bytes.now) c.args.control in
    let body = option_map (λ bytes. bytes.now) c.args.body in
    leads_unanswered _ (λ account. by_put c.args.caller c.args.named control body account p) Einval _ _ c.refused.ensures
    (λ account. named_none c.args.caller (λ prio. calls.Put prio control body) (prio_of c.args.named) account p (sym c.prio.ensures ∙ c.in_default.is))

pub returns : goal.returns
unfolding by_put
returns g c =
    let p = plain c.args.pair.now in
    let control = option_map (λ bytes. bytes.now) c.args.control in
    let body = option_map (λ bytes. bytes.now) c.args.body in
    leads_same _ (λ account. by_put c.args.caller c.args.named control body account p)
    (λ account. by_call c.args.caller (calls.Put c.in-Some.prio control body) account p) _ _
    (λ account. named_some c.args.caller (λ prio. calls.Put prio control body) (prio_of c.args.named) c.in-Some.prio account p (sym c.prio.ensures ∙ c.in-Some.is))
    c.call.ensures
