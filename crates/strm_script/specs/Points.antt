-- A script on its way, and what a run of it comes to.
use Rattle.std.specs.Prelude.{◌≡◌, ℕ, suc, ◌==◌, if◌then◌else◌, List, [], ◌∷◌, ◌++◌, Option, None, Some}
use Rattle.strm_script.specs.ScriptRun.{Supply, Session, new_session, Told, told_after, told_from}

-- A script on its way: its session, how many lines have ended, the bytes so far of the next, and the first line in which the pool was
-- short of blocks for an event.
pub record Point : Type 0 where
  pub session : Session
  pub lines : ℕ
  pub line : List ℕ
  pub short : Option ℕ

-- where a script begins
abbrev pub beginning : Point
beginning = record { session = new_session; lines = 0; line = []; short = None }

-- the line so far as the last one, if it has bytes
abbrev pub last_line : List ℕ → List (List ℕ)
last_line [] = []
last_line (b ∷ line) = (b ∷ line) ∷ []

-- the lines that end with or behind these bytes, of which the first has begun
unfoldable pub lines_behind : List ℕ → List ℕ → List (List ℕ)
lines_behind line [] = last_line line
lines_behind line (b ∷ bytes) =
    if b == 10 then line ∷ lines_behind [] bytes else lines_behind (line ++ b ∷ []) bytes

-- what the script comes to from a point on, for the account of the events behind it
unfoldable pub told_at : List Supply → Point → List ℕ → Told
told_at account p bytes =
    told_after [] p.short (told_from (suc p.lines) account p.session (lines_behind p.line bytes))

-- what comes behind a text
abbrev pub behind : List ℕ → Told → Told
behind text later = record { text = text ++ later.text; short = later.short; fault = later.fault }

-- bytes lead from one point to another, and their lines say a text
pub record Goes (a : Point) (input text : List ℕ) (b : Point) : Type 0 where
  pub events : List Supply
  pub goes : (account : List Supply) (bytes : List ℕ) → told_at (events ++ account) a (input ++ bytes) ≡ behind text (told_at account b bytes)

-- bytes have a malformed line, of this number, and up to it their lines say a text
pub record Ends (a : Point) (input text : List ℕ) (short : Option ℕ) (n : ℕ) : Type 0 where
  pub events : List Supply
  pub ends : (bytes : List ℕ) → told_at events a (input ++ bytes) ≡ record { text = text; short = short; fault = Some n }

-- bytes lead at least so far that their lines say a text
pub record Breaks (a : Point) (input text : List ℕ) (short : Option ℕ) : Type 0 where
  pub point : Point
  pub taken : List ℕ
  pub left : List ℕ
  pub unsaid : List ℕ
  pub input_is : input ≡ taken ++ left
  pub goes : Goes a taken (text ++ unsaid) point
  pub same : point.short ≡ short

-- what bytes up to the end of the input come to, some of which is said
pub record Shows (a : Point) (bytes text : List ℕ) (short : Option ℕ) : Type 0 where
  pub events : List Supply
  pub unsaid : List ℕ
  pub text_is : (told_at events a bytes).text ≡ text ++ unsaid
  pub short_is : (told_at events a bytes).short ≡ short

-- what they come to, all of which is said, with the first malformed line
pub record Says (a : Point) (bytes text : List ℕ) (short fault : Option ℕ) : Type 0 where
  pub events : List Supply
  pub told_is : told_at events a bytes ≡ record { text = text; short = short; fault = fault }
