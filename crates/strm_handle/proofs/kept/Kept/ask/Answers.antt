use Rattle.std.proofs.Common.{◌≡◌, length, sym, ap, ◌∙◌}
use Rattle.std.specs.Prelude.{Some, option_map}
use Rattle.strm_types.specs.Events.{request}
use Rattle.strm_handle.specs.Calls.{caller_at, event_at}
use Rattle.strm_handle.specs.Outcomes.{Stay}
use Rattle.strm_handle.proofs.AskedAt.{asked-at}
use Rattle.strm_handle.proofs.FewAsked.{few-some}
use Rattle.strm_handle.proofs.kept.Kept.ask.Goals as goal

pub call-requires : goal.call-requires
call-requires c =
    record { few = few-some (event_at c.args.ask.now c.args.bytes.now) (request c.in-Some-event_of.event) (sym c.event_of.ensures ∙ ap (option_map (λ e. request e)) c.in-Some-event_of.is) c.requires.few }

pub returns-in-Some-event_of : goal.returns-in-Some-event_of
returns-in-Some-event_of c =
    let who : caller_at c.args.ask.now ≡ Some c.in-Some.caller = sym c.caller_of.ensures ∙ c.in-Some.is in
    let what = sym c.event_of.ensures ∙ ap (option_map (λ e. request e)) c.in-Some-event_of.is in
    asked-at (caller_at c.args.ask.now) (event_at c.args.ask.now c.args.bytes.now) c.in-Some.caller (request c.in-Some-event_of.event) (length c.args.out.now)
    (Stay c.args.out.now c.call.new.out c.args.reply.now c.call.new.reply) c.call.new.reply c.args.out.now c.call.new.out c.args.self.now c.call.new.self c.call.result who what c.call.ensures
