use Rattle.std.proofs.Common.{◌≡◌, sym, subst, ap, ◌∙◌}
use Rattle.std.specs.Prelude.{Err, IfOk, IsOk, MatchOption}
use Rattle.strm_types.specs.declared.entries.Entry.TheVariants.{Turned}
use Rattle.strm_laws.proofs.NoOwn.{none as no_own}
use Rattle.strm_laws.specs.Pair.{AddsEntry, PairState, Stops, queue_refused, restarted}
use Rattle.strm_handle.specs.Kept.{begun}
use Rattle.strm_handle.proofs.Begun.{anew-where, refused-so, stays-where}
use Rattle.strm_handle.proofs.anew.turn_at.Goals as goal

pub returns-then-again-clause-refused : goal.returns-then-again-clause-refused
returns-then-again-clause-refused c =
    let p : PairState = c.args.pair.now in
    let was = anew-where _ (queue_refused p c.args.name) c.turn-told.result c.args.anew p c.begins-again.result c.turn-told.ensures.refused c.begins-again.ensures c.if-again.true in
    let at : PairState = begun c.args.anew (queue_refused p c.args.name) p in
    let same : c.restart.new.self ≡ at = c.restart.ensures ∙ (ap restarted was.1 ∙ sym was.0) in
    subst (λ (q : PairState). MatchOption (queue_refused q c.args.name) (IsOk c.turn.result) (λ r. (c.turn.result ≡ Err r) × (c.turn.new.self ≡ at))) same
    (refused-so (c.turn.new.self ≡ c.restart.new.self) (c.turn.new.self ≡ at) (queue_refused c.restart.new.self c.args.name) c.turn.result (λ k. k ∙ same) c.turn.ensures.refused)

pub returns-then-again-clause-adds : goal.returns-then-again-clause-adds
returns-then-again-clause-adds c =
    let p : PairState = c.args.pair.now in
    let was = anew-where _ (queue_refused p c.args.name) c.turn-told.result c.args.anew p c.begins-again.result c.turn-told.ensures.refused c.begins-again.ensures c.if-again.true in
    let same : c.restart.new.self ≡ begun c.args.anew (queue_refused p c.args.name) p = c.restart.ensures ∙ (ap restarted was.1 ∙ sym was.0) in
    subst (λ (q : PairState). IfOk c.turn.result (λ turn. AddsEntry no_own q c.turn.new.self (Turned c.args.name turn))) same c.turn.ensures.adds

pub returns-then-again-clause-stops : goal.returns-then-again-clause-stops
returns-then-again-clause-stops c =
    let p : PairState = c.args.pair.now in
    let was = anew-where _ (queue_refused p c.args.name) c.turn-told.result c.args.anew p c.begins-again.result c.turn-told.ensures.refused c.begins-again.ensures c.if-again.true in
    let same : c.restart.new.self ≡ begun c.args.anew (queue_refused p c.args.name) p = c.restart.ensures ∙ (ap restarted was.1 ∙ sym was.0) in
    subst (λ (q : PairState). IfOk c.turn.result (λ turn. Stops q c.turn.new.self c.args.name turn)) same c.turn.ensures.stops

pub returns-clause-refused : goal.returns-clause-refused
returns-clause-refused c =
    let p : PairState = c.args.pair.now in
    let same = stays-where _ (queue_refused p c.args.name) c.turn-told.result c.args.anew p c.begins-again.result c.turn-told.ensures.refused c.begins-again.ensures c.if-again.false in
    subst (λ (q : PairState). MatchOption (queue_refused q c.args.name) (IsOk c.turn-told.result) (λ r. (c.turn-told.result ≡ Err r) × (c.turn-told.new.self ≡ q))) (sym same) c.turn-told.ensures.refused

pub returns-clause-adds : goal.returns-clause-adds
returns-clause-adds c =
    let p : PairState = c.args.pair.now in
    let same = stays-where _ (queue_refused p c.args.name) c.turn-told.result c.args.anew p c.begins-again.result c.turn-told.ensures.refused c.begins-again.ensures c.if-again.false in
    subst (λ (q : PairState). IfOk c.turn-told.result (λ turn. AddsEntry no_own q c.turn-told.new.self (Turned c.args.name turn))) (sym same) c.turn-told.ensures.adds

pub returns-clause-stops : goal.returns-clause-stops
returns-clause-stops c =
    let p : PairState = c.args.pair.now in
    let same = stays-where _ (queue_refused p c.args.name) c.turn-told.result c.args.anew p c.begins-again.result c.turn-told.ensures.refused c.begins-again.ensures c.if-again.false in
    subst (λ (q : PairState). IfOk c.turn-told.result (λ turn. Stops q c.turn-told.new.self c.args.name turn)) (sym same) c.turn-told.ensures.stops
