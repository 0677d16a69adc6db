use Rattle.std.proofs.Common.{ap, is_some, sym, ◌∙◌}
use Rattle.strm_script.specs.ScriptAnswers.{turn_line}
use Rattle.strm_script.specs.ScriptRun.{reach}
use Rattle.strm_script.proofs.Events.{TurnHappens-from, answers_turn, short_turn}
use Rattle.strm_script.proofs.turns.turn.Goals as goal

pub returns-in-Ok : goal.returns-in-Ok
returns-in-Ok g c = λ bytes.
    let h = TurnHappens-from c.args.pair.now c.turn.new.self c.args.name c.turn.result c.turn.ensures.refused c.turn.ensures.adds in
    answers_turn bytes _ _ _ _ _ h (ap turn_line (sym c.in-Ok.is)) (c.has_stopped.ensures
    ∙ ap (λ size. is_some (reach c.args.name.place size c.in-Ok.turn)) c.first_size-size.ensures
    ∙ ap (short_turn c.args.name c.args.pair.now.state) (sym c.in-Ok.is))

pub returns-in-Err : goal.returns-in-Err
returns-in-Err g c = λ bytes.
    let h = TurnHappens-from c.args.pair.now c.turn.new.self c.args.name c.turn.result c.turn.ensures.refused c.turn.ensures.adds in
    answers_turn bytes _ _ _ _ _ h (ap turn_line (sym c.in-Err.is)) (c.is_short.ensures ∙ ap (short_turn c.args.name c.args.pair.now.state) (sym c.in-Err.is))
