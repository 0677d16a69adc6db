use Rattle.strm_script.proofs.Prelude.{◌≡◌, List, None, refl, arith, sym, ap, ◌∙◌}
use Rattle.strm_script.specs.Prelude.{Caller, FlushQueues, Einval}
use Rattle.strm_types.specs.declared.events.Event.TheVariants as calls
use Rattle.strm_script.specs.ScriptRun.{Supply, PlainPair, by_call, by_flush}
use Rattle.strm_script.specs.Plain.{plain}
use Rattle.strm_script.proofs.Events.{leads_unanswered, leads_same, flush_refused, flush_made}
use Rattle.strm_script.proofs.calls.flush.Goals.{in-None, in-Some+else-number-gt-BAND_MAX}
use Rattle.strm_script.proofs.calls.flush.Goals as goal

pub returns-then-number-gt-BAND_MAX : goal.returns-then-number-gt-BAND_MAX
returns-then-number-gt-BAND_MAX g c =
    let p = plain c.args.pair.now in
    leads_unanswered _ (λ account. by_flush c.args.caller c.args.what c.args.band account p) Einval _ _ c.refused.ensures
    (λ account. ap (λ band. by_flush c.args.caller c.args.what band account p) c.in-Some.is
    ∙ flush_refused c.args.caller c.args.what c.in-Some.number account p (omega (arith, c.if-number-gt-BAND_MAX.true)))

flush_all : (caller : Caller) (what : FlushQueues) (account : List Supply) (p : PlainPair)
    → by_flush caller what None account p ≡ by_call caller (calls.Flush what None) account p
unfolding by_flush
flush_all caller what account p = refl

pub returns : goal.returns
returns g c =
    let p = plain c.args.pair.now in
    leads_same _ (λ account. by_flush c.args.caller c.args.what c.args.band account p)
    (λ account. by_call c.args.caller (calls.Flush c.args.what c.match-band.band) account p) _ _
    (λ account. elim c.match-band.branch [
      | in-None w ↦
          ap (λ band. by_flush c.args.caller c.args.what band account p) w.in-None.is
          ∙ flush_all c.args.caller c.args.what account p
          ∙ ap (λ band. by_call c.args.caller (calls.Flush c.args.what band) account p) (sym w.band-is)
      | in-Some+else-number-gt-BAND_MAX w ↦
          ap (λ band. by_flush c.args.caller c.args.what band account p) w.in-Some.is
          ∙ flush_made c.args.caller c.args.what w.in-Some.number account p (omega (arith, w.if-number-gt-BAND_MAX.false))
          ∙ ap (λ band. by_call c.args.caller (calls.Flush c.args.what band) account p) (sym w.band-is)
    ]) c.call.ensures
