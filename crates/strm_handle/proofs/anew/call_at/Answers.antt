use Rattle.std.proofs.Common.{◌≡◌, sym, subst, ap, ◌∙◌}
use Rattle.std.specs.Prelude.{Err, IfOk, IsOk, MatchOption}
use Rattle.strm_types.specs.declared.entries.Entry.TheVariants.{Called}
use Rattle.strm_types.specs.Events.{request}
use Rattle.strm_types.specs.Journal.{reply_in}
use Rattle.strm_laws.proofs.NoOwn.{none as no_own}
use Rattle.strm_laws.specs.Pair.{AddsEntry, PairState, call_refused, restarted}
use Rattle.strm_handle.specs.Kept.{begun}
use Rattle.strm_handle.proofs.Begun.{anew-where, refused-so, stays-where}
use Rattle.strm_handle.proofs.anew.call_at.Goals as goal

pub returns-then-again-clause-refused : goal.returns-then-again-clause-refused
returns-then-again-clause-refused c =
    let asked = request c.args.event.now in
    let p : PairState = c.args.pair.now in
    let was = anew-where _ (call_refused no_own p c.args.caller asked) c.call-told.result c.args.anew p c.begins-again.result c.call-told.ensures.refused c.begins-again.ensures c.if-again.true in
    let at : PairState = begun c.args.anew (call_refused no_own p c.args.caller asked) p in
    let same : c.restart.new.self ≡ at = c.restart.ensures ∙ (ap restarted was.1.0 ∙ sym was.0) in
    subst (λ (q : PairState). MatchOption (call_refused no_own q c.args.caller asked) (IsOk c.call.result) (λ r. (c.call.result ≡ Err r) × ((c.call.new.self ≡ at) × (c.call.new.out ≡ c.args.out.now)))) same
    (refused-so ((c.call.new.self ≡ c.restart.new.self) × (c.call.new.out ≡ c.call-told.new.out)) ((c.call.new.self ≡ at) × (c.call.new.out ≡ c.args.out.now)) (call_refused no_own c.restart.new.self c.args.caller asked) c.call.result (λ k. (k.0 ∙ same, k.1 ∙ was.1.1)) c.call.ensures.refused)

pub returns-then-again-clause-adds : goal.returns-then-again-clause-adds
returns-then-again-clause-adds c =
    let asked = request c.args.event.now in
    let p : PairState = c.args.pair.now in
    let was = anew-where _ (call_refused no_own p c.args.caller asked) c.call-told.result c.args.anew p c.begins-again.result c.call-told.ensures.refused c.begins-again.ensures c.if-again.true in
    let at : PairState = begun c.args.anew (call_refused no_own p c.args.caller asked) p in
    let same : c.restart.new.self ≡ at = c.restart.ensures ∙ (ap restarted was.1.0 ∙ sym was.0) in
    subst (λ (q : PairState). IfOk c.call.result (λ answer. AddsEntry no_own q c.call.new.self (Called c.args.caller asked (reply_in answer c.call.new.out.items)))) same c.call.ensures.adds

pub returns-clause-refused : goal.returns-clause-refused
returns-clause-refused c =
    let asked = request c.args.event.now in
    let p : PairState = c.args.pair.now in
    let same = stays-where _ (call_refused no_own p c.args.caller asked) c.call-told.result c.args.anew p c.begins-again.result c.call-told.ensures.refused c.begins-again.ensures c.if-again.false in
    subst (λ (q : PairState). MatchOption (call_refused no_own q c.args.caller asked) (IsOk c.call-told.result) (λ r. (c.call-told.result ≡ Err r) × ((c.call-told.new.self ≡ q) × (c.call-told.new.out ≡ c.args.out.now)))) (sym same)
    c.call-told.ensures.refused

pub returns-clause-adds : goal.returns-clause-adds
returns-clause-adds c =
    let asked = request c.args.event.now in
    let p : PairState = c.args.pair.now in
    let same = stays-where _ (call_refused no_own p c.args.caller asked) c.call-told.result c.args.anew p c.begins-again.result c.call-told.ensures.refused c.begins-again.ensures c.if-again.false in
    subst (λ (q : PairState). IfOk c.call-told.result (λ answer. AddsEntry no_own q c.call-told.new.self (Called c.args.caller asked (reply_in answer c.call-told.new.out.items)))) (sym same) c.call-told.ensures.adds
