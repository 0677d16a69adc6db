-- What becomes of bytes that go out to a terminal, and where they leave its carriage (termio(7I): "Output Modes"; ldterm(7M)).
use Rattle.std.specs.Prelude.{ℕ, ◌+◌, ◌-◌, ◌%◌, ◌&&◌, ◌==◌, nat_le, if◌then◌else◌, List, [], ◌∷◌, ◌++◌, replicate, map}
use Rattle.strm_types.specs.declared.names.Dir.{Dir}
use Rattle.strm_types.specs.declared.output.Given.{Given}
use Rattle.strm_types.specs.declared.output.Given.TheVariants.{Byte, Ended, Spaces, Nothing}
use Rattle.strm_types.specs.declared.output.Posted.{Posted}
use Rattle.strm_types.specs.declared.output.TheConstants.{COLUMN_MAX}
use Rattle.strm_types.specs.declared.rules.Rule.TheVariants.{Replaced, Onocr}
use Rattle.strm_types.specs.declared.termios.Termios.{Termios}
use Rattle.strm_types.specs.Cells.{Cells, cells_made}
use Rattle.strm_types.specs.Deliver.{Fate, Goes, Comes}
use Rattle.strm_types.specs.Echo.{is_control, tab}
use Rattle.strm_types.specs.Keys.{carriage_return, newline}
use Rattle.strm_types.specs.Origins.{map_fate}
use Rattle.strm_types.specs.Termios.{olcuc, onlcr, ocrnl, onocr, onlret, xtabs}

abbrev pub backspace : ℕ
backspace = 8

abbrev pub space : ℕ
space = 32

-- a lower-case letter as the upper-case one, where OLCUC says so
abbrev pub raised : Termios → ℕ → ℕ
raised t b = if olcuc t && (nat_le 97 b && nat_le b 122) then b - 32 else b

-- what a byte is to the carriage of a terminal; a control byte is one that has no other name here
pub data Motion : Type 0 where
  Newline : Motion
  Return : Motion
  Tab : Motion
  Backspace : Motion
  Control : Motion
  Printing : Motion

abbrev pub motion_of : ℕ → Motion
motion_of b =
    if b == newline then Newline
    else (if b == carriage_return then Return
    else (if b == tab then Tab
    else (if b == backspace then Backspace
    else (if is_control b then Control else Printing))))

-- a column that would pass the greatest one is lowered by a multiple of 8
abbrev pub wrapped : ℕ → ℕ
wrapped column = if nat_le column COLUMN_MAX then column else column - 65528

-- how many columns are left to the next tab stop, which is a multiple of 8
abbrev pub to_tab_stop : ℕ → ℕ
to_tab_stop column = 8 - column % 8

-- a newline goes back to the first column under ONLRET alone
abbrev pub newline_column : Termios → ℕ → ℕ
newline_column t column = if onlret t then 0 else column

-- What a byte gives at a column, and the column behind it, by what it is to the carriage.
abbrev pub posted_as : Motion → Termios → ℕ → ℕ → Posted
posted_as Newline t column b =
    if onlcr t then record { given = Ended; column = 0 }
    else record { given = Byte b; column = newline_column t column }
posted_as Return t column b =
    if ocrnl t then record { given = Byte newline; column = newline_column t column }
    else (if onocr t && column == 0 then record { given = Nothing; column = 0 }
    else record { given = Byte b; column = 0 })
posted_as Tab t column b = record {
  given = if xtabs t then Spaces (to_tab_stop column) else Byte b;
  column = wrapped (column + to_tab_stop column);
}
posted_as Backspace t column b = record { given = Byte b; column = column - 1 }
posted_as Control t column b = record { given = Byte b; column = column }
posted_as Printing t column b = record { given = Byte b; column = wrapped (column + 1) }

-- What a byte gives at a column under OPOST, once OLCUC has raised it.
abbrev pub post : Termios → ℕ → ℕ → Posted
post t column b = let out = raised t b in posted_as (motion_of out) t column out

-- how many bytes are made for it
abbrev pub made_for : Given → ℕ
made_for (Byte b) = 0
made_for Ended = 1
made_for (Spaces columns) = columns
made_for Nothing = 0

-- What cells give that go out: the cells that go down, the column behind them, and what is told of cells that were made, or that went.
pub record Output (C : Type 0) : Type 0 where
  pub given : List C
  pub column : ℕ
  pub told : List (Fate C)

-- Cells that go out in a direction, in which so many cells were made before.
module _ {C : Type 0} (cells : Cells C) (dir : Dir) where
  -- the carriage return that is made before a newline, and the spaces that are made in place of a TAB
  abbrev pub return_made : ℕ → List C
  return_made made = cells_made cells dir made (carriage_return ∷ [])

  abbrev pub spaces_made : ℕ → ℕ → List C
  spaces_made columns made = cells_made cells dir made (replicate columns space)

  -- The cells that a cell gives. A byte that stands for another one is the same cell.
  abbrev pub given_for : Given → ℕ → C → List C
  given_for (Byte b) made c = cells.mapped b c ∷ []
  given_for Ended made c = return_made made ++ cells.mapped newline c ∷ []
  given_for (Spaces columns) made c = spaces_made columns made
  given_for Nothing made c = []

  -- what is told of it
  abbrev pub told_for : Given → ℕ → C → List (Fate C)
  told_for (Byte b) made c = []
  told_for Ended made c = Comes dir (return_made made) ∷ []
  told_for (Spaces columns) made c = Comes dir (spaces_made columns made) ∷ Goes dir Replaced (c ∷ []) ∷ []
  told_for Nothing made c = Goes dir Onocr (c ∷ []) ∷ []

  -- Several cells, one after the other, from a column on.
  abbrev pub posts : ℕ → Termios → ℕ → List C → Output C
  posts made t column [] = record { given = []; column = column; told = [] }
  posts made t column (c ∷ rest) =
      let first = post t column (cells.byte c) in
      let more = posts (made + made_for first.given) t first.column rest in
      record {
        given = given_for first.given made c ++ more.given;
        column = more.column;
        told = told_for first.given made c ++ more.told;
      }

-- the same of other cells, as where their origins are forgotten
abbrev pub map_output : {C D : Type 0} → (C → D) → Output C → Output D
map_output f t = record { given = map f t.given; column = t.column; told = map (map_fate f) t.told }
