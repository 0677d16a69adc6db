use Rattle.std.proofs.Common.{◌≡◌, ◌++◌, true, false, Result, Ok, Err, OnOk, OnErr, is_ok, refl, ap, ◌∙◌, add-one, arith}
use Rattle.strm_script.specs.ScriptAnswers.{printed_line, Wrong}
use Rattle.strm_script.proofs.engine.Engine.refuse.Goals as goal

pub overflow_add-line : goal.overflow_add-line
overflow_add-line g c = omega arith

-- what holds where a call went well, and where it didn't
went_well : {T E P : Type 0} (r : Result T E) → OnOk r P → true ≡ is_ok r → P
went_well (Ok x) h e = h
went_well (Err x) h e = absurd cc

went_wrong : {T E P : Type 0} (r : Result T E) → OnErr r P → false ≡ is_ok r → P
went_wrong (Ok x) h e = absurd cc
went_wrong (Err x) h e = h

pub returns-then-is_ok-clause-refused : goal.returns-then-is_ok-clause-refused
returns-then-is_ok-clause-refused g c =
    let self = c.args.self.now in
    let said = went_well c.say.result c.say.ensures.ok c.if-is_ok.ensures.value in
    (refl, said ∙ ap (λ n. self.answers.items ++ printed_line (Wrong n)) (add-one self.lines))

pub returns-then-is_ok-clause-lines : goal.returns-then-is_ok-clause-lines
returns-then-is_ok-clause-lines g c = refl

pub returns-else-is_ok-clause-refused : goal.returns-else-is_ok-clause-refused
returns-else-is_ok-clause-refused g c = (refl, went_wrong c.say.result c.say.ensures.err c.if-is_ok.ensures.value)

pub returns-else-is_ok-clause-lines : goal.returns-else-is_ok-clause-lines
returns-else-is_ok-clause-lines g c = refl
