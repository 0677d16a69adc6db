use Rattle.strm_script.proofs.Prelude.{length, sym, ap, ◌∙◌, arith, nil_from_length}
use Rattle.std.proofs.lemmas.Bool.{eqb-true, eqb-false}
use Rattle.strm_script.specs.Steps.{value_of}
use Rattle.strm_script.proofs.EngineSteps.{finished_none, finished_last}
use Rattle.strm_script.proofs.engine.Engine.finish.Goals as goal

pub returns-then-is_empty : goal.returns-then-is_empty
returns-then-is_empty g c =
    let none = eqb-true _ 0 (sym c.is_empty.ensures ∙ c.if-is_empty.true) in
    finished_none (value_of c.args.self.now) (nil_from_length c.args.self.now.line.items (omega (arith, c.args.self.now.line.ok.0)))

pub returns : goal.returns
returns g c =
    let some = eqb-false _ 0 (sym c.is_empty.ensures ∙ c.if-is_empty.false) in
    finished_last (value_of c.args.self.now) (value_of c.end_line.new.self) c.end_line.result
    (λ none. some (c.args.self.now.line.ok.0 ∙ ap length none)) c.end_line.ensures.steps c.end_line.ensures.fresh
