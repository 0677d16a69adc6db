use Rattle.std.proofs.Common.{rules, ap, sym, subst}
use Rattle.strm_types.specs.Events.{request}
use Rattle.strm_locks.specs.Books.{IsBelow}
use Rattle.strm_locks.proofs.Booking.{did, below-did}
use Rattle.strm_locks.proofs.held.Held.call_told.Goals as goal

pub minus-requires : goal.minus-requires
minus-requires g c =
    let answer = did _ _ c.args.caller (request c.args.event.now) _ _ _ (ap (λ x. x.items)) c.call-answer.result c.call-answer.ensures.refused c.call-answer.ensures.book c.call-answer.ensures.adds c.call-answer.ensures.filled in
    let below = below-did _ _ c.args.caller (request c.args.event.now) _ _ c.call-answer.result answer (search rules) in
    subst (λ t. IsBelow t c.told-after.result) (sym c.told-before.ensures) (subst (λ t. IsBelow c.args.self.now.book.totals t) (sym c.told-after.ensures) below)

pub returns-clause-answer : goal.returns-clause-answer
returns-clause-answer g c = did _ _ c.args.caller (request c.args.event.now) _ _ _ (ap (λ x. x.items)) c.call-answer.result c.call-answer.ensures.refused c.call-answer.ensures.book c.call-answer.ensures.adds c.call-answer.ensures.filled

pub returns-clause-below : goal.returns-clause-below
returns-clause-below g c =
    let answer = did _ _ c.args.caller (request c.args.event.now) _ _ _ (ap (λ x. x.items)) c.call-answer.result c.call-answer.ensures.refused c.call-answer.ensures.book c.call-answer.ensures.adds c.call-answer.ensures.filled in
    below-did _ _ c.args.caller (request c.args.event.now) _ _ c.call-answer.result answer (search rules)
