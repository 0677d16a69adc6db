use Rattle.std.proofs.Common.{◌≡◌, refl, ap, sym, ◌∙◌, arith, ◌≤◌, ◌||◌}
use Rattle.strm_script.specs.ScriptAnswers.{Ran}
use Rattle.strm_script.specs.Plain.{plain}
use Rattle.strm_script.proofs.Events.{RunsTo-start, RunsTo-more, run_none, run_refused, run_all, TurnHappens-from}
use Rattle.strm_script.proofs.turns.run.Goals as goal

pub loop-taken-init : goal.loop-taken-init
loop-taken-init g c = RunsTo-start c.args.turns (plain c.args.pair.now)

pub returns-in_default : goal.returns-in_default
returns-in_default g c = λ bytes.
    let l = c.loop-taken in
    run_none bytes c.args.turns l.taken l.short (plain c.args.pair.now) l.pair _ l.invariant (sym c.first_enabled.ensures ∙ c.in_default.is) refl refl

pub returns-in-Err : goal.returns-in-Err
returns-in-Err g c = λ bytes.
    let l = c.loop-taken in
    run_refused bytes c.args.turns l.taken l.short (plain c.args.pair.now) l.pair c.turn.new.self c.in-Some.name c.in-Err.refusal c.turn.result _
    c.loop-taken-test.true l.invariant (sym c.first_enabled.ensures ∙ c.in-Some.is)
    (TurnHappens-from l.pair c.turn.new.self c.in-Some.name c.turn.result c.turn.ensures.refused c.turn.ensures.adds)
    c.in-Err.is refl (c.either_short-in_all.ensures ∙ ap (λ b. l.short || b) c.is_short-refused.ensures)

pub loop-taken-preserved : goal.loop-taken-preserved
loop-taken-preserved g c =
    let l = c.loop-taken in
    rw (c.either_short-so_far.ensures, c.has_stopped-stopped.ensures, c.first_size-size.ensures)
    (RunsTo-more c.args.turns l.taken l.short (plain c.args.pair.now) l.pair c.turn.new.self c.in-Some.name c.in-Ok.turn c.turn.result
    c.loop-taken-test.true l.invariant (sym c.first_enabled.ensures ∙ c.in-Some.is)
    (TurnHappens-from l.pair c.turn.new.self c.in-Some.name c.turn.result c.turn.ensures.refused c.turn.ensures.adds)
    c.in-Ok.is)

pub returns : goal.returns
returns g c = λ bytes.
    let l = c.loop-taken in
    let done : c.args.turns ≤ l.taken = omega arith in
    let all : l.taken ≡ c.args.turns = omega arith in
    run_all bytes c.args.turns l.short (plain c.args.pair.now) l.pair _ l.taken done l.invariant (ap Ran (sym all)) refl
