-- A script on its way between a reader and a writer.
use Rattle.std.specs.Prelude.{◌≡◌, ℕ, List, [], ◌++◌, Option, Result, Ok, Err, ◌⊎◌}
use Rattle.std.specs.Io.KnownBytes.{Appends, Consumes}
use Rattle.strm_script.specs.Points.{beginning, Goes}
use Rattle.strm_script.specs.Steps.{point_of}
use Rattle.strm_script.specs.declared.engine.Engine.{Engine}
use Rattle.strm_script.specs.declared.engine.Stop.{Stop}
use Rattle.strm_script.specs.declared.engine.Stop.TheVariants as stops
use Rattle.strm_script.specs.declared.script.Cause.TheVariants.{Output, Memory, Length}
use Rattle.strm_script.specs.declared.script.ScriptStatus.{ScriptStatus}
use Rattle.strm_script.specs.declared.script.ScriptStatus.TheVariants.{Whole, Malformed, Broken}

-- what was read led to the engine's point, and what was written is the front of what its lines say
pub record Serves {B : Type 0} (r0 r1 w0 w1 : Option (List ℕ)) (e : Engine B) : Type 0 where
  pub input : List ℕ
  pub written : List ℕ
  pub reads : Consumes r0 r1 input
  pub writes : Appends w0 w1 written
  pub goes : Goes beginning input (written ++ e.answers.items) (point_of e)

-- how a script that came to its end or stopped has ended, by what the writer took of its answers
pub record Ended (w0 w1 : Option (List ℕ)) (answers : List ℕ) (status good : ScriptStatus) : Type 0 where
  pub front : List ℕ
  pub rest : List ℕ
  pub appends : Appends w0 w1 front
  pub answers_are : answers ≡ front ++ rest
  pub status_is : (status ≡ Broken Output) ⊎ ((status ≡ good) × (rest ≡ []))

-- the status of a script that came to its end or stopped, if all its answers are written
abbrev pub status_of : Result (Unit {0}) Stop → ScriptStatus
status_of (Ok _) = Whole
status_of (Err stops.Malformed) = Malformed
status_of (Err stops.NoMemory) = Broken Memory
status_of (Err stops.TooLong) = Broken Length
