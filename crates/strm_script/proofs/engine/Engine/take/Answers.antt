use Rattle.std.proofs.Common.{◌≡◌, ◌+◌, [], ◌∷◌, ◌++◌, take, drop, get_or, sym, ap, ◌∙◌, arith, subst, Err}
use Rattle.std.proofs.lemmas.List.{take_more, take-append-drop}
use Rattle.strm_script.specs.Sessions.{Steps, Took}
use Rattle.strm_script.specs.Steps.{value_of}
use Rattle.strm_script.proofs.EngineSteps.{Took-join, stop_join}
use Rattle.strm_script.proofs.engine.Engine.take.Goals as goal

pub returns-in-Err-clause-steps : goal.returns-in-Err-clause-steps
returns-in-Err-clause-steps g c =
    let bytes = c.args.bytes.now in
    let i = c.loop-byte.byte-index in
    let all : (take i bytes ++ get_or bytes i 0 ∷ []) ++ drop (i + 1) bytes ≡ bytes =
    ap (λ front. front ++ drop (i + 1) bytes) (sym (take_more bytes i 0 c.loop-byte-test.true)) ∙ take-append-drop (i + 1) bytes in
    subst (λ k. Steps (value_of c.args.self.now) (value_of c.take_byte.new.self) k (Err c.in-Err.stop)) all
    (stop_join (value_of c.args.self.now) (value_of c.loop-byte.self) (value_of c.take_byte.new.self) (take i bytes) (get_or bytes i 0 ∷ []) (drop (i + 1) bytes) c.in-Err.stop
    c.loop-byte.invariant.0 c.in-Err.ensures.steps)

pub loop-byte-preserved : goal.loop-byte-preserved
loop-byte-preserved g c =
    let bytes = c.args.bytes.now in
    let i = c.loop-byte.byte-index in (
      subst (λ k. Took (value_of c.args.self.now) (value_of c.take_byte.new.self) k) (sym (take_more bytes i 0 c.loop-byte-test.true))
          (Took-join (value_of c.args.self.now) (value_of c.loop-byte.self) (value_of c.take_byte.new.self) (take i bytes) (get_or bytes i 0 ∷ [])
          c.loop-byte.invariant.0 c.in_default.ensures.steps),
      omega (arith, c.take_byte.ensures.count),
    )
