use Rattle.strm_script.proofs.Prelude.{◌≤◌, refl, sym, ◌∙◌, length, arith, cond-true}
use Rattle.strm_script.proofs.EngineSteps.{fails_none, refused_long, took_byte}
use Rattle.strm_script.proofs.engine.Engine.take_byte.Goals as goal

pub returns-then-len-ge-LINE_MAX-clause-steps : goal.returns-then-len-ge-LINE_MAX-clause-steps
returns-then-len-ge-LINE_MAX-clause-steps g c =
    let long : 4096 ≤ length c.args.self.now.line.items = omega (arith, c.args.self.now.line.ok.0) in
    refused_long c.args.self.now c.refuse.new.self c.refuse.result c.args.byte c.refuse.ensures.refused long c.if-byte-eq10.false

pub returns-then-is_ok-clause-steps : goal.returns-then-is_ok-clause-steps
returns-then-is_ok-clause-steps g c =
    took_byte c.args.self.now (record c.args.self.now { line = c.push.new.self }) c.args.byte refl refl refl refl refl
    (c.push.ensures.items ∙ cond-true _ _ _ (sym c.is_ok.ensures.value ∙ c.if-is_ok.true)) c.if-byte-eq10.false

pub returns-else-is_ok-clause-steps : goal.returns-else-is_ok-clause-steps
returns-else-is_ok-clause-steps g c = fails_none _ _ _ refl refl
