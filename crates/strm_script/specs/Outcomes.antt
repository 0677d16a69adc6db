-- What a command of the code leads to.
use Rattle.std.specs.Prelude.{◌≡◌, ℕ, List, ◌++◌, Option, Some}
use Rattle.strm_laws.specs.Pair.{PairState}
use Rattle.strm_script.specs.ScriptRun as script
use Rattle.strm_script.specs.ScriptRun.{Supply, PlainPair}
use Rattle.strm_script.specs.Plain.{plain}
use Rattle.strm_script.specs.Lines.{line_of}
use Rattle.strm_script.specs.declared.outcomes.Answered.{Answered}

-- what the code answers, as the definitions of script text have it
abbrev pub answered_as : Answered → List ℕ → Option PlainPair → List Supply → script.Answered
answered_as found bytes pair account =
    record { line = line_of bytes found.line; pair = pair; account = account; is_short = found.short }

-- The code does what a command leads to, for some account of its events, whatever the account of those behind them.
pub record LeadsTo (command : List Supply → script.Answered) (found : Answered) (bytes : List ℕ) (pair : Option PlainPair) : Type 0 where
  pub events : List Supply
  pub leads : (account : List Supply) → command (events ++ account) ≡ answered_as found bytes pair account

-- The same of a command on a pair that gives no bytes, whatever bytes stand apart.
abbrev pub Leads : (List Supply → PlainPair → script.Answered) → Answered → PairState → PairState → Type 0
Leads command found old new =
    (bytes : List ℕ) → LeadsTo (λ account. command account (plain old)) found bytes (Some (plain new))
