use Rattle.std.proofs.Common.{ℕ, List, [], sym, subst}
use Rattle.std.specs.Prelude.{Result, Ok}
use Rattle.std.specs.Arc.{arc_value}
use Rattle.strm_types.specs.declared.answers.Answer.{Answer}
use Rattle.strm_types.specs.declared.refusals.Refusal.{Refusal}
use Rattle.strm_types.specs.Events.{request}
use Rattle.strm_locks.specs.Ends.{Calls}
use Rattle.strm_ends.specs.Calling.{told_of}
use Rattle.strm_ends.proofs.FewBytes.{called-by}
use Rattle.strm_ends.proofs.seats.Seat.call.Goals as goal

pub returns-in-Ok-Ok : goal.returns-in-Ok-Ok
returns-in-Ok-Ok g c =
    let e = c.in-End.end in
    let f = c.try_call.new.end in
    let asked = request c.in-Some.event in
    let given : List ℕ = c.try_call.new.out.items in
    let answer = c.in-Ok-Ok.answer in
    let t = told_of c.args.out.now c.tell.new.out c.args.reply.now c.tell.result in
    let met : Calls e.end asked c.self.inside.answer.items given c.in-Ok-Ok.field-0 f.end = c.in-Ok-Ok.ensures.told in
    let calls : Calls e.end asked [] c.as_slice.result.now (Ok answer) f.end =
    subst (λ (xs : List ℕ). Calls e.end asked [] xs (Ok answer) f.end) (sym c.as_slice.ensures.value)
    (subst (λ (r : Result (Answer ℕ) Refusal). Calls e.end asked [] given r f.end) c.in-Ok-Ok.field-0-is
    (subst (λ (xs : List ℕ). Calls e.end asked xs given c.in-Ok-Ok.field-0 f.end) c.self.invariant.clear met)) in
    called-by c.args.ask.now c.args.bytes.now t (arc_value c.self.inside.host) c.self.inside.opener c.self.inside.hold c.args.self.now
    c.in-End.system e f asked answer c.as_slice.result.now c.self.view_is c.in-End.is (sym c.in-Some.ensures)
    c.try_call.ensures.pair c.try_call.ensures.minor calls c.tell.ensures.told c.tell.ensures.fits c.tell.ensures.others
