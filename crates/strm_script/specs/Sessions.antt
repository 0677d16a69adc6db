-- A session, which takes the bytes of a script piece by piece.
use Rattle.std.specs.Prelude.{◌≡◌, ℕ, List, [], ◌++◌, Option, None, Some, Result, Ok, Err}
use Rattle.strm_script.specs.Points.{Point, beginning, Goes, Ends, Breaks, Shows, Says}
use Rattle.strm_script.specs.declared.engine.Stop.{Stop}
use Rattle.strm_script.specs.declared.engine.Stop.TheVariants.{Malformed, NoMemory, TooLong}

-- A session as its user sees it: how far its script has come, and the answers that nobody took.
pub record SessionValue : Type 0 where
  pub point : Point
  pub answers : List ℕ

-- one that has read nothing
abbrev pub fresh_session : SessionValue
fresh_session = record { point = beginning; answers = [] }

-- It took bytes, and put the answers of their lines behind the others.
pub record Took (old new : SessionValue) (input : List ℕ) : Type 0 where
  pub text : List ℕ
  pub goes : Goes old.point input text new.point
  pub answers : new.answers ≡ old.answers ++ text

-- it came to a malformed line among bytes, and said so
pub record Refuses (old new : SessionValue) (input : List ℕ) : Type 0 where
  pub text : List ℕ
  pub number : ℕ
  pub ends : Ends old.point input text new.point.short number
  pub answers : new.answers ≡ old.answers ++ text

-- it ran out of memory among bytes; each of its answers is whole
pub record Fails (old new : SessionValue) (input : List ℕ) : Type 0 where
  pub text : List ℕ
  pub breaks : Breaks old.point input text new.point.short
  pub answers : new.answers ≡ old.answers ++ text

-- what the engine did with bytes, which it takes however many they are
abbrev pub Steps : SessionValue → SessionValue → List ℕ → Result (Unit {0}) Stop → Type 0
Steps old new input (Ok _) = Took old new input
Steps old new input (Err Malformed) = Refuses old new input
Steps old new input (Err NoMemory) = Fails old new input
Steps old new input (Err TooLong) = ⊥

-- what a session did with bytes
abbrev pub Takes : SessionValue → SessionValue → List ℕ → Result (Unit {0}) Stop → Type 0
Takes old new input (Ok _) = Took old new input
Takes old new input (Err Malformed) = Refuses old new input
Takes old new input (Err NoMemory) = Fails old new input
Takes old new input (Err TooLong) = new ≡ old

-- it said all that the script comes to at the end of the input, with the first malformed line
pub record Finishes (old new : SessionValue) (fault : Option ℕ) : Type 0 where
  pub text : List ℕ
  pub says : Says old.point [] text new.point.short fault
  pub answers : new.answers ≡ old.answers ++ text

-- it ran out of memory there; each of its answers is whole
pub record BreaksOff (old new : SessionValue) : Type 0 where
  pub text : List ℕ
  pub shows : Shows old.point [] text new.point.short
  pub answers : new.answers ≡ old.answers ++ text

-- what the engine did at the end of the input
abbrev pub EndsInput : SessionValue → SessionValue → Result (Unit {0}) Stop → Type 0
EndsInput old new (Ok _) = Finishes old new None
EndsInput old new (Err Malformed) = (n : ℕ) × Finishes old new (Some n)
EndsInput old new (Err NoMemory) = BreaksOff old new
EndsInput old new (Err TooLong) = ⊥

-- what a session did there
abbrev pub TakesEnd : SessionValue → SessionValue → Result (Unit {0}) Stop → Type 0
TakesEnd old new (Ok _) = Finishes old new None
TakesEnd old new (Err Malformed) = (n : ℕ) × Finishes old new (Some n)
TakesEnd old new (Err NoMemory) = BreaksOff old new
TakesEnd old new (Err TooLong) = new ≡ old
