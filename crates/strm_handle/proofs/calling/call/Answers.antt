use Rattle.std.proofs.Common.{ℕ, ◌≡◌, List, length, sym, subst}
use Rattle.std.specs.Prelude.{Some}
use Rattle.strm_handle.specs.Calls.{brought, event_at}
use Rattle.strm_handle.specs.Few.{FewAsked}
use Rattle.strm_handle.specs.Outcomes.{ask_refused, AnswersAsk, CallsAt, Stay}
use Rattle.strm_handle.proofs.AtHandles.{at-handle}
use Rattle.strm_handle.proofs.FewAsked.{few-brought}
use Rattle.strm_handle.proofs.calling.call.Goals as goal

pub ask-told-requires : goal.ask-told-requires
ask-told-requires c = record { few = subst (λ (b : List ℕ). FewAsked (event_at c.args.ask.now b)) (sym c.brought.ensures) (few-brought c.args.ask.now c.args.bytes.now) }

pub returns : goal.returns
returns c =
    let before : c.args.handle.now.held.kept ≡ Some c.as_mut.result.now = cc (c.in-Some.ensures.taken, c.as_mut.ensures.value) in
    let behind : c.put.new.self.held.kept ≡ Some c.ask-told.new.self = (cc) in
    let bytes : List ℕ = brought c.args.ask.now c.args.bytes.now in
    at-handle (ask_refused c.args.ask.now bytes (length c.args.out.now)) (Stay c.args.out.now c.ask-told.new.out c.args.reply.now c.ask-told.new.reply)
    (AnswersAsk c.args.ask.now bytes c.ask-told.new.reply c.args.out.now c.ask-told.new.out)
    c.args.handle.now.held.kept c.put.new.self.held.kept c.as_mut.result.now c.ask-told.new.self c.ask-told.result before behind
    (subst (λ (b : List ℕ). CallsAt (ask_refused c.args.ask.now b (length c.args.out.now)) (Stay c.args.out.now c.ask-told.new.out c.args.reply.now c.ask-told.new.reply)
    (AnswersAsk c.args.ask.now b c.ask-told.new.reply c.args.out.now c.ask-told.new.out) c.as_mut.result.now c.ask-told.new.self c.ask-told.result) c.brought.ensures c.ask-told.ensures)
