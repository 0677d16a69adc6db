-- A whole run of a script: what was written for the bytes that were read, and how the run ended.
use Rattle.std.specs.Prelude.{◌≡◌, ℕ, Bool, true, false, List, ◌++◌, Option, None, Some, IfSome, ◌-◌, ◌^◌, ◌≤◌, length, take, ⊤}
use Rattle.std.specs.Io.KnownBytes.{Appends, Consumes}
use Rattle.strm_script.specs.Script.{lines_of}
use Rattle.strm_script.specs.ScriptAnswers.{printed_line, Wrong}
use Rattle.strm_script.specs.ScriptRun.{Supply, told, script_lines, plain_lines, plain_text}
use Rattle.strm_script.specs.Points.{Point, beginning, Goes}
use Rattle.strm_script.specs.declared.script.Cause.{Cause}
use Rattle.strm_script.specs.declared.script.Cause.TheVariants.{Input, Output, Memory, Length}
use Rattle.strm_script.specs.declared.script.ScriptStatus.{ScriptStatus}
use Rattle.strm_script.specs.declared.script.ScriptStatus.TheVariants.{Whole, Malformed, Broken}

-- the number by which the program tells how a run ended
abbrev pub exit_number : ScriptStatus → ℕ
exit_number Whole = 0
exit_number Malformed = 1
exit_number (Broken _) = 2

-- a run whose reader failed
abbrev pub is_input : ScriptStatus → Bool
is_input Whole = false
is_input Malformed = false
is_input (Broken Input) = true
is_input (Broken Output) = false
is_input (Broken Memory) = false
is_input (Broken Length) = false

-- a run whose writer failed
abbrev pub is_output : ScriptStatus → Bool
is_output Whole = false
is_output Malformed = false
is_output (Broken Input) = false
is_output (Broken Output) = true
is_output (Broken Memory) = false
is_output (Broken Length) = false

-- a run that wrote the whole text, to the end of the input
pub record IsWhole (account : List Supply) (bytes written : List ℕ) : Type 0 where
  pub text : written ≡ script_lines account bytes
  pub no_fault : (told account bytes).fault ≡ None

-- a run that wrote the whole text, up to the first malformed line, whose number it wrote last
pub record IsFaulty (account : List Supply) (bytes written : List ℕ) : Type 0 where
  pub line : ℕ
  pub front : List ℕ
  pub text : written ≡ script_lines account bytes
  pub fault : (told account bytes).fault ≡ Some line
  pub last : written ≡ front ++ printed_line (Wrong line)

-- a run that wrote the front of the text
pub record IsCut (account : List Supply) (bytes written : List ℕ) : Type 0 where
  pub rest : List ℕ
  pub text : script_lines account bytes ≡ written ++ rest

-- it ends for its length only where that is at least as many bytes as reads can be made
abbrev pub IsFor : Cause → List ℕ → Type 0
IsFor Input bytes = ⊤
IsFor Output bytes = ⊤
IsFor Memory bytes = ⊤
IsFor Length bytes = 2 ^ 32 - 1 ≤ length bytes

-- what a run wrote, by how it ended
abbrev pub Wrote : ScriptStatus → List Supply → List ℕ → List ℕ → Type 0
Wrote Whole account bytes written = IsWhole account bytes written
Wrote Malformed account bytes written = IsFaulty account bytes written
Wrote (Broken cause) account bytes written = IsCut account bytes written × IsFor cause bytes

-- The text of a script agrees with its plain text: all of it where no line is short, else before the first short line.
abbrev pub Agrees : List Supply → Option ℕ → List ℕ → Type 0
Agrees account None bytes = script_lines account bytes ≡ plain_text bytes
Agrees account (Some n) bytes =
    (rest : List ℕ) × (script_lines account bytes ≡ plain_lines (take (n - 1) (lines_of bytes)) ++ rest)

-- What a run wrote, by how it ended, for an account of which events the pool had enough blocks for and of which turns stopped how far within
-- their message. The first short line is the first in which an event got ENOSR, or a turn stopped within its message.
pub record IsScript (status : ScriptStatus) (short : Option ℕ) (bytes written : List ℕ) : Type 0 where
  pub account : List Supply
  pub wrote : Wrote status account bytes written
  pub first_short : short ≡ (told account bytes).short
  pub plain : Agrees account short bytes

-- a run on a reader and a writer that tell their bytes
abbrev pub IsRun : Option (List ℕ) → Option (List ℕ) → Option (List ℕ) → ScriptStatus → Option ℕ → Type 0
IsRun read_from old new status short =
    IfSome read_from (λ bytes. (written : List ℕ) × Appends old new written × IsScript status short bytes written)

-- where a reader failed, what was written is what the lines say that were read, all of it
pub record AnswersLines (r0 r1 w0 w1 : Option (List ℕ)) : Type 0 where
  pub input : List ℕ
  pub written : List ℕ
  pub point : Point
  pub reads : Consumes r0 r1 input
  pub writes : Appends w0 w1 written
  pub goes : Goes beginning input written point

abbrev pub AnswersRead : ScriptStatus → Option (List ℕ) → Option (List ℕ) → Option (List ℕ) → Option (List ℕ) → Type 0
AnswersRead status r0 r1 w0 w1 = status ≡ Broken Input → AnswersLines r0 r1 w0 w1
