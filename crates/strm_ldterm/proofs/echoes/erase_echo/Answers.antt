use Rattle.strm_ldterm.proofs.Prelude.{◌≡◌, List, ℕ, true, ◌-◌, length, take, drop, ap, ◌∙◌, rules, arith}
use Rattle.strm_ldterm.specs.Prelude.{column_from, echo, echoe}
use Rattle.strm_ldterm.proofs.Columns.{column_from-grows, erase_echo-rubs}
use Rattle.strm_ldterm.proofs.Runs.{to_end}
use Rattle.strm_ldterm.proofs.echoes.erase_echo.Goals as goal

pub overflow_sub-column_from : goal.overflow_sub-column_from
overflow_sub-column_from c =
    let line = c.args.line.now in
    let left = c.args.left in
    omega (arith, column_from-grows c.args.termios.now c.column_from-kept.result (take (length line - left) (drop left line)), c.column_from.ensures.value)

pub returns-then-contains : goal.returns-then-contains
returns-then-contains c =
    let t = c.args.termios.now in
    let kept = c.column_from-kept.result in
    let echoes : echo t ≡ true = search rules in
    let rubs : echoe t ≡ true = search rules in
    let all = c.column_from.ensures.value ∙ ap (λ (l : List ℕ). column_from t kept l) (to_end c.args.left c.args.line.now) in
    λ after. c.of_columns.ensures after
    ∙ erase_echo-rubs t c.args.line.now c.args.left c.args.byte kept c.column_from.result echoes rubs c.column_from-kept.ensures.value all
