-- What the engine of a script does with bytes.
use Rattle.std.specs.Prelude.{◌≡◌, ℕ, suc, List, [], ◌∷◌, ◌++◌, Option, Result, Ok, Err, option_map, ◌⊎◌}
use Rattle.strm_script.specs.Script.{Command}
use Rattle.strm_script.specs.ScriptAnswers.{printed_line, Wrong}
use Rattle.strm_script.specs.ScriptRun.{answered, callers_behind, first_of, line_if, PlainPair, Session}
use Rattle.strm_script.specs.Plain.{plain}
use Rattle.strm_script.specs.Lines.{line_of}
use Rattle.strm_script.specs.Outcomes.{LeadsTo}
use Rattle.strm_script.specs.Points.{Point, Goes}
use Rattle.strm_script.specs.Sessions.{SessionValue, Refuses, Fails}
use Rattle.strm_script.specs.declared.outcomes.Answered.{Answered}
use Rattle.strm_script.specs.declared.engine.Engine.{Engine}
use Rattle.strm_script.specs.declared.engine.Stop.{Stop}
use Rattle.strm_script.specs.declared.engine.Stop.TheVariants.{Malformed, NoMemory, TooLong}

-- the pair of the script
abbrev pub pair_of : {B : Type 0} → Engine B → Option PlainPair
pair_of e = option_map plain e.pair

-- its session
abbrev pub session_of : {B : Type 0} → Engine B → Session
session_of e = record { callers = e.callers; pair = pair_of e }

-- how far the engine's script has come
abbrev pub point_of : {B : Type 0} → Engine B → Point
point_of e = record { session = session_of e; lines = e.lines; line = e.line.items; short = e.short }

-- how far it has come once the line that ends is answered
abbrev pub point_behind : {B : Type 0} → Engine B → Point
point_behind e = record { session = session_of e; lines = suc e.lines; line = []; short = e.short }

-- how far it has come, and the answers that nobody took
abbrev pub value_of : {B : Type 0} → Engine B → SessionValue
value_of e = record { point = point_of e; answers = e.answers.items }

-- the engine has said that the next line is malformed, or had no memory for it
abbrev pub Refused : {B : Type 0} → Engine B → Engine B → Stop → Type 0
Refused old new Malformed = (new.short ≡ old.short) × (new.answers.items ≡ old.answers.items ++ printed_line (Wrong (suc old.lines)))
Refused old new NoMemory = (new.short ≡ old.short) × (new.answers.items ≡ old.answers.items)
Refused old new TooLong = ⊥

-- a command led to an outcome
pub record Obeys {B : Type 0} (command : Command) (old new : Engine B) (found : Answered) : Type 0 where
  pub leads : LeadsTo (λ account. answered old.callers command account (pair_of old)) found new.out.items (pair_of new)
  pub callers : new.callers ≡ callers_behind command old.callers
  pub short : new.short ≡ first_of old.short (line_if found.short (suc old.lines))

-- the engine has carried out a command, and said its answer; or it had no memory for the one or the other
abbrev pub Obeyed : {B : Type 0} → Command → Engine B → Engine B → Result (Unit {0}) Stop → Type 0
Obeyed command old new (Ok _) = (found : Answered) × Obeys command old new found × (new.answers.items ≡ old.answers.items ++ printed_line (line_of new.out.items found.line))
Obeyed command old new (Err Malformed) = ⊥
Obeyed command old new (Err TooLong) = ⊥
Obeyed command old new (Err NoMemory) = ((new.short ≡ old.short) ⊎ ((found : Answered) × Obeys command old new found)) × (new.answers.items ≡ old.answers.items)

-- the engine answered a line
pub record Answers {B : Type 0} (old new : Engine B) : Type 0 where
  pub text : List ℕ
  pub goes : Goes (point_of old) (10 ∷ []) text (point_behind new)
  pub answers : new.answers.items ≡ old.answers.items ++ text

-- what the engine did with a line
abbrev pub AnswersLine : {B : Type 0} → Engine B → Engine B → Result (Unit {0}) Stop → Type 0
AnswersLine old new (Ok _) = Answers old new
AnswersLine old new (Err Malformed) = Refuses (value_of old) (value_of new) (10 ∷ [])
AnswersLine old new (Err NoMemory) = Fails (value_of old) (value_of new) (10 ∷ [])
AnswersLine old new (Err TooLong) = ⊥
