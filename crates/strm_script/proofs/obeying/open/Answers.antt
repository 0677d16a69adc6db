use Rattle.std.proofs.Common.{◌<◌, ◌≤◌, None, inl, inr, arith, ap, sym, ◌∙◌}
use Rattle.strm_blocks.specs.Blocks.{StoreValue}
use Rattle.strm_script.specs.ScriptRun.{by_open, by_call}
use Rattle.strm_types.specs.declared.events.Event.TheVariants.{OpenMaster}
use Rattle.strm_laws.specs.Pair.{new_pair}
use Rattle.strm_pair.specs.PairViews.{sizes_over}
use Rattle.strm_script.specs.Plain.{plain}
use Rattle.strm_types.specs.declared.refusals.Refusal.TheVariants.{Einval}
use Rattle.strm_script.proofs.Events.{leads_unanswered, leads_same, open_refused, open_made}
use Rattle.strm_script.proofs.obeying.open.Goals as goal

pub returns-then-blocks-eq0-clause-ok : goal.returns-then-blocks-eq0-clause-ok
returns-then-blocks-eq0-clause-ok g c =
    rw c.requires
    (leads_unanswered _ (λ account. by_open c.args.caller c.args.blocks account) Einval None c.refused.result c.refused.ensures
    (λ account. open_refused c.args.caller c.args.blocks account (elim c.then-blocks-eq0.either [ inl e ↦ inl e | inr h ↦ inr h.1 ])))

pub returns-clause-ok : goal.returns-clause-ok
returns-clause-ok g c =
    let blocks = c.args.blocks in
    let some : 0 < blocks = omega arith in
    let most : blocks ≤ 4096 = omega arith in
    let sizes = c.limits-sizes.result in
    let made = c.in-Ok.ensures ∙ ap (λ (s : StoreValue). new_pair (sizes_over s sizes)) c.in_ok-store.ensures ∙ ap new_pair c.limits-sizes.ensures in
    leads_same _ (λ account. by_open c.args.caller blocks account) _ _ _
    (λ account. open_made c.args.caller blocks account some most
    ∙ ap (λ p. by_call c.args.caller OpenMaster account (plain p)) (sym made))
    c.call-answered.ensures
