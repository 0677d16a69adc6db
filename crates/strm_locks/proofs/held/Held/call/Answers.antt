use Rattle.std.proofs.Common.{sym, ap, subst, ◌∙◌}
use Rattle.strm_types.specs.Events.{request}
use Rattle.strm_types.specs.Journal.{reply_in}
use Rattle.strm_laws.proofs.NoOwn.{none as no_own}
use Rattle.strm_laws.specs.Pair.{call_refused}
use Rattle.strm_locks.specs.Books.{Adds, IsKept, Kept, book_of, kept}
use Rattle.strm_locks.specs.Shares.{entry_of}
use Rattle.strm_laws.proofs.Replay.{refused-by}
use Rattle.strm_locks.proofs.Booking.{adds-call, answered, call-keeps, refused-on}
use Rattle.strm_locks.proofs.held.Held.call.Goals as goal

pub invariant_of-self : goal.invariant_of-self
invariant_of-self g c =
    let same = (refused-by _ c.call.result c.call.ensures.refused c.in-Err.refusal c.in-Err.is).1 in
    subst (λ p. IsKept c.self.inside.calls c.self.inside.left p) (sym same.0) c.self.invariant

pub invariant_of-self-in-Ok : goal.invariant_of-self-in-Ok
invariant_of-self-in-Ok g c =
    let p = g.P.Object.pair_of c.self.inside.pair in
    let q = g.P.Object.pair_of c.call.new.self in
    subst (λ n. IsKept n c.self.inside.left q) (sym c.saturating_add-self-inside.ensures)
    (call-keeps p q c.args.caller (request c.args.event.now) (reply_in c.in-Ok.answer c.call.new.out.items) c.self.inside.calls c.self.inside.left c.self.inside.left c.in-Ok.ensures.adds
    (λ all. c.requires.«open» (sym (ap (λ (k : Kept). k.book.left) c.self.view_is) ∙ all)) c.self.invariant)

pub returns-in-Err-clause-refused : goal.returns-in-Err-clause-refused
returns-in-Err-clause-refused g c =
    refused-on _ _ _ _ _ c.call.result _ c.in-Err.is (ap (λ k. call_refused no_own k.pair c.args.caller (request c.args.event.now)) c.self.view_is)
    (λ same. (ap (λ p. kept c.self.inside.calls p c.self.inside.left) same.0 ∙ c.self.view_is, same.1)) c.call.ensures.refused

pub returns-in-Ok-clause-book : goal.returns-in-Ok-clause-book
returns-in-Ok-clause-book g c =
    let p = g.P.Object.pair_of c.self.inside.pair in
    let q = g.P.Object.pair_of c.call.new.self in
    let e = entry_of c.args.caller (request c.args.event.now) c.call.new.out.items c.in-Ok.answer in
    subst (λ k. Adds k.book e (book_of c.saturating_add-self-inside.result q c.self.inside.left)) c.self.view_is
    (subst (λ n. Adds (book_of c.self.inside.calls p c.self.inside.left) e (book_of n q c.self.inside.left)) (sym c.saturating_add-self-inside.ensures)
    (adds-call p q c.args.caller (request c.args.event.now) (reply_in c.in-Ok.answer c.call.new.out.items) c.in-Ok.ensures.adds c.self.inside.calls c.self.inside.left c.in-Ok.ensures.tally))

pub returns-in-Ok-clause-refused : goal.returns-in-Ok-clause-refused
returns-in-Ok-clause-refused g c =
    answered _ _ _ _ _ c.call.result _ c.in-Ok.is (ap (λ k. call_refused no_own k.pair c.args.caller (request c.args.event.now)) c.self.view_is) c.call.ensures.refused
