use Rattle.std.proofs.Common.{arith, ap, ℕ, length-take, rules}
use Rattle.strm_script.specs.Sessions.{SessionValue}
use Rattle.strm_script.proofs.Whole.{serving_first, serving_more, serves_sent, serves_cut, serves_failed, serves_answered, serves_again, serves_stopped, serves_ended, serves_long, read_none}
use Rattle.strm_script.proofs.script.serve.Goals as goal

pub loop-turn-init : goal.loop-turn-init
loop-turn-init g c = record {
  lines = omega (arith, ap (λ (v : SessionValue). v.point.lines) c.requires);
  serving = serving_first _ _ c.args.engine.now c.requires;
  source = search rules;
  sink = search rules;
}

pub returns-then-not-send_answers-clause-run : goal.returns-then-not-send_answers-clause-run
returns-then-not-send_answers-clause-run g c =
    serves_cut _ _ _ _ _ c.loop-turn.engine _ _ c.loop-turn.invariant.serving.serves c.send_answers.ensures.sent
    (ap (λ p. p.short) c.send_answers.ensures.point)

pub returns-in-None-clause-run : goal.returns-in-None-clause-run
returns-in-None-clause-run g c =
    let sent = serves_sent _ _ _ _ _ c.loop-turn.engine c.send_answers.new.engine c.loop-turn.invariant.serving.serves c.if-not-send_answers.ensures.sent
    c.send_answers.ensures.point c.send_answers.ensures.none_left in
    serves_failed _ _ _ _ c.send_answers.new.engine sent

pub returns-in-None-clause-answers : goal.returns-in-None-clause-answers
returns-in-None-clause-answers g c =
    let sent = serves_sent _ _ _ _ _ c.loop-turn.engine c.send_answers.new.engine c.loop-turn.invariant.serving.serves c.if-not-send_answers.ensures.sent
    c.send_answers.ensures.point c.send_answers.ensures.none_left in
    λ e. serves_answered _ _ _ _ _ c.send_answers.new.engine sent c.send_answers.ensures.none_left c.in-None.ensures.bytes

pub returns-in-Some-eq0-clause-run : goal.returns-in-Some-eq0-clause-run
returns-in-Some-eq0-clause-run g c =
    let sent = serves_sent _ _ _ _ _ c.loop-turn.engine c.send_answers.new.engine c.loop-turn.invariant.serving.serves c.if-not-send_answers.ensures.sent
    c.send_answers.ensures.point c.send_answers.ensures.none_left in
    let kept = read_none _ _ _ _ c.in-Some-eq0.field-0-test c.in-Some-eq0.ensures.bytes.0 in
    serves_ended _ _ _ _ _ c.send_answers.new.engine c.finish.new.self _ _ _
    (serves_again _ _ _ _ _ c.send_answers.new.engine sent kept)
    (c.in-Some-eq0.ensures.bytes.1 c.in-Some-eq0.field-0-test (omega arith))
    c.finish.ensures c.closed.ensures.ended c.closed.ensures.short

pub returns-in-Err-clause-run : goal.returns-in-Err-clause-run
returns-in-Err-clause-run g c =
    let sent = serves_sent _ _ _ _ _ c.loop-turn.engine c.send_answers.new.engine c.loop-turn.invariant.serving.serves c.if-not-send_answers.ensures.sent
    c.send_answers.ensures.point c.send_answers.ensures.none_left in
    serves_stopped _ _ _ _ _ _ c.send_answers.new.engine c.take.new.self _ c.in-Err.stop _ _ sent c.in-Some.ensures.bytes.0 c.in-Err.ensures.steps
    c.closed-in-Err.ensures.ended c.closed-in-Err.ensures.short

pub loop-turn-preserved : goal.loop-turn-preserved
loop-turn-preserved g c =
    let lines = ap (λ p. p.lines) c.send_answers.ensures.point in
    let some = c.in-Some.n-test.1 in
    record {
      lines = omega (arith, lines, c.in_default.ensures.count, c.in-Some.ensures.bound, length-take {A = ℕ});
      serving = serving_more _ _ _ _ _ _ c.loop-turn.engine c.send_answers.new.engine c.take.new.self _ _ c.loop-turn.invariant.serving
          c.if-not-send_answers.ensures.sent c.send_answers.ensures.point c.send_answers.ensures.none_left c.in-Some.ensures.bytes.0
          (omega (arith, some, c.in-Some.ensures.bound, length-take {A = ℕ})) c.in_default.ensures.steps;
      source = search rules;
      sink = search rules;
    }

pub returns-clause-run : goal.returns-clause-run
returns-clause-run g c =
    serves_long _ _ _ _ c.loop-turn.engine c.loop-turn.invariant.serving.serves (omega (arith, c.loop-turn.invariant.serving.bytes))
