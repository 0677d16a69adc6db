use Rattle.strm_script.proofs.Prelude.{arith, sym, ◌∙◌, at_drop_more}
use Rattle.strm_script.specs.ScriptReading.{number_from}
use Rattle.strm_script.proofs.Readings.{number_none, number_over, number_more, number_end}
use Rattle.strm_script.proofs.numbers.value.Goals as goal

pub returns-in_default : goal.returns-in_default
returns-in_default c =
    let l = c.loop-byte in
    sym (at_drop_more (number_from l.value) c.args.digits.now l.byte-index _ (omega arith) ∙ number_none l.value _ _ (sym c.digit.ensures.same ∙ c.in_default.is)) ∙ l.invariant.1

pub returns-then-value : goal.returns-then-value
returns-then-value c =
    let l = c.loop-byte in
    sym (at_drop_more (number_from l.value) c.args.digits.now l.byte-index _ (omega arith) ∙ number_over l.value _ _ _ (sym c.in-Some.ensures.same) (omega arith)) ∙ l.invariant.1

pub loop-byte-preserved : goal.loop-byte-preserved
loop-byte-preserved c =
    let l = c.loop-byte in
    (omega arith, sym (at_drop_more (number_from l.value) c.args.digits.now l.byte-index _ (omega arith) ∙ number_more l.value _ _ _ (sym c.in-Some.ensures.same) (omega arith)) ∙ l.invariant.1)

pub returns : goal.returns
returns c =
    let l = c.loop-byte in
    sym (number_end l.value l.byte-index c.args.digits.now (omega arith)) ∙ l.invariant.1
