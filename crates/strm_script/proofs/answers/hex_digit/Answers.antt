use Rattle.strm_script.proofs.Prelude.{◌≡◌, ◌+◌, ◌-◌, arith, sym, ◌∙◌, cond-true, cond-false, lt-ltb, le-ltb}
use Rattle.strm_script.proofs.answers.hex_digit.Goals as goal

pub returns-then-digit-lt10-clause-same : goal.returns-then-digit-lt10-clause-same
returns-then-digit-lt10-clause-same c = sym (cond-true _ _ _ (lt-ltb c.args.digit 10 c.if-digit-lt10.true))

pub returns-then-digit-lt10-clause-ascii : goal.returns-then-digit-lt10-clause-ascii
returns-then-digit-lt10-clause-ascii c = omega arith

pub returns-else-digit-lt10-clause-same : goal.returns-else-digit-lt10-clause-same
returns-else-digit-lt10-clause-same c =
    let digit = c.args.digit in
    let same : 97 + (digit - 10) ≡ 87 + digit = omega arith in
    same ∙ sym (cond-false _ (48 + digit) _ (le-ltb digit 10 c.if-digit-lt10.false))

pub returns-else-digit-lt10-clause-ascii : goal.returns-else-digit-lt10-clause-ascii
returns-else-digit-lt10-clause-ascii c = omega arith
