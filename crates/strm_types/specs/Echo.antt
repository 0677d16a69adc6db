-- What is echoed of what is typed (termio(7I): ECHO, ECHOE, ECHOK, ECHOKE, ECHONL, ECHOCTL; ldterm(7M)).
use Rattle.std.specs.Prelude.{ℕ, zero, suc, ◌+◌, ◌-◌, ◌%◌, Bool, ◌&&◌, ◌||◌, ◌==◌, not, nat_lt, if◌then◌else◌, List, [], ◌∷◌, ◌++◌, length, flat_map}
use Rattle.strm_types.specs.declared.keys.Key.TheVariants.{Intr, Quit, Susp, Erase, Kill, Werase, Reprint, Delimiter, Ordinary}
use Rattle.strm_types.specs.declared.keys.Key.{Key}
use Rattle.strm_types.specs.declared.keys.Stroke.{Stroke}
use Rattle.strm_types.specs.declared.termios.Termios.{Termios}
use Rattle.strm_types.specs.Keys.{newline}
use Rattle.strm_types.specs.Lines.{has_room}
use Rattle.strm_types.specs.Termios.{icanon, imaxbel, echo, echoe, echok, echonl, echoctl, echoke}

abbrev pub tab : ℕ
tab = 9

-- control bytes: those below the space, and DEL
abbrev pub is_control : ℕ → Bool
is_control b = nat_lt b 32 || b == 127

-- the byte that ECHOCTL shows behind `^`: the control byte with bit 0x40 turned over
abbrev pub shown_control : ℕ → ℕ
shown_control b = if b == 127 then 63 else b + 64

-- an ordinary byte: TAB as itself, another control byte as `^` and a letter under ECHOCTL
abbrev pub echo_byte : Termios → ℕ → List ℕ
echo_byte t b = if is_control b && (not (b == tab) && echoctl t) then 94 ∷ shown_control b ∷ [] else b ∷ []

-- how many columns a byte takes at a column: TAB goes on to the next multiple of 8
abbrev pub width_at : Termios → ℕ → ℕ → ℕ
width_at t column b =
    if b == tab then 8 - column % 8
    else (if is_control b then (if echoctl t then 2 else 0) else 1)

-- the column behind these bytes, which begin at one
abbrev pub column_from : Termios → ℕ → List ℕ → ℕ
column_from t column [] = column
column_from t column (b ∷ line) = column_from t (column + width_at t column b) line

-- one column is rubbed out by BS SP BS, and so are several
abbrev pub rub_out : ℕ → List ℕ
rub_out zero = []
rub_out (suc columns) = 8 ∷ 32 ∷ 8 ∷ rub_out columns

-- how many columns a line has, and how many of them go where it is cut down to its first bytes
abbrev pub columns : Termios → List ℕ → ℕ
columns t line = column_from t 0 line

abbrev pub columns_gone : Termios → List ℕ → List ℕ → ℕ
columns_gone t before after = columns t before - columns t after

-- ERASE and WERASE rub out under ECHOE the columns of each byte that they took; else the key is echoed, where they took any
abbrev pub erase_echo : Termios → List ℕ → List ℕ → ℕ → List ℕ
erase_echo t before after b =
    if echoe t then rub_out (columns_gone t before after)
    else (if length after == length before then [] else echo_byte t b)

-- KILL rubs out the whole line under ECHOKE; else the key is echoed, and a newline under ECHOK
abbrev pub kill_echo : Termios → List ℕ → ℕ → List ℕ
kill_echo t before b =
    if echoke t then rub_out (columns t before)
    else echo_byte t b ++ (if echok t then newline ∷ [] else [])

-- REPRINT: the key, a newline, and the line once more
abbrev pub reprint_echo : Termios → List ℕ → ℕ → List ℕ
reprint_echo t before b = echo_byte t b ++ newline ∷ flat_map (echo_byte t) before

-- what is echoed under ECHO alone
abbrev pub under_echo : Termios → List ℕ → List ℕ
under_echo t bytes = if echo t then bytes else []

-- a newline is echoed under ECHO and, in canonical mode, under ECHONL; behind LNEXT it is an ordinary byte
abbrev pub typed_echo : Termios → Stroke → List ℕ
typed_echo t stroke =
    if stroke.byte == newline && not stroke.literal then (if echo t || (echonl t && icanon t) then newline ∷ [] else [])
    else under_echo t (echo_byte t stroke.byte)

-- A byte for which a full line has no room rings the bell under IMAXBEL, also without ECHO, and else isn't echoed.
abbrev pub ordinary_echo : Termios → List ℕ → Stroke → List ℕ
ordinary_echo t before stroke =
    if icanon t && not (has_room before) then (if imaxbel t then 7 ∷ [] else [])
    else typed_echo t stroke

-- What is echoed of a byte that is typed, by its key and by the line before it and behind it. Of EOF, LNEXT, START and STOP, and of a
-- carriage return that is ignored, nothing is.
abbrev pub echo_by : Key → Termios → List ℕ → List ℕ → Stroke → List ℕ
echo_by Intr t before after stroke = under_echo t (echo_byte t stroke.byte)
echo_by Quit t before after stroke = under_echo t (echo_byte t stroke.byte)
echo_by Susp t before after stroke = under_echo t (echo_byte t stroke.byte)
echo_by Erase t before after stroke = under_echo t (erase_echo t before after stroke.byte)
echo_by Werase t before after stroke = under_echo t (erase_echo t before after stroke.byte)
echo_by Kill t before after stroke = under_echo t (kill_echo t before stroke.byte)
echo_by Reprint t before after stroke = under_echo t (reprint_echo t before stroke.byte)
echo_by Delimiter t before after stroke = typed_echo t stroke
echo_by Ordinary t before after stroke = ordinary_echo t before stroke
echo_by _ t before after stroke = []

abbrev pub echo_of : Termios → List ℕ → List ℕ → Stroke → List ℕ
echo_of t before after stroke = echo_by stroke.key t before after stroke
