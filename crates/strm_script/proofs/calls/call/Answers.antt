use Rattle.std.proofs.Common.{ap, sym, ◌∙◌}
use Rattle.strm_script.specs.ScriptAnswers.{reply_line}
use Rattle.strm_script.proofs.Events.{CallHappens-from, answers_call, replied, short_call}
use Rattle.strm_script.proofs.calls.call.Goals as goal

pub returns-in-Ok : goal.returns-in-Ok
returns-in-Ok g c =
    let out = c.call.new.out.items in
    let h = CallHappens-from _ c.args.pair.now c.call.new.self _ _ out c.call.result c.call.ensures.refused c.call.ensures.adds in
    answers_call _ _ _ _ _ _ _ h (ap (λ r. reply_line (replied out r)) (sym c.in-Ok.is)) (ap short_call (sym c.in-Ok.is))

pub returns-in-Err : goal.returns-in-Err
returns-in-Err g c =
    let out = c.call.new.out.items in
    let h = CallHappens-from _ c.args.pair.now c.call.new.self _ _ out c.call.result c.call.ensures.refused c.call.ensures.adds in
    answers_call _ _ _ _ _ _ _ h (ap (λ r. reply_line (replied out r)) (sym c.in-Err.is)) (c.is_short.ensures ∙ ap short_call (sym c.in-Err.is))
