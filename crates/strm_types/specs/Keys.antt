-- Which key a byte is to the line discipline, and as which byte it is taken (termio(7I): c_iflag, c_lflag, "Special Characters").
use Rattle.std.specs.Prelude.{ℕ, Bool, true, false, ◌&&◌, ◌||◌, ◌==◌, ◌+◌, ◌%◌, nat_le, if◌then◌else◌, List, [], ◌∷◌}
use Rattle.strm_types.specs.declared.keys.Key.{Key}
use Rattle.strm_types.specs.declared.keys.Key.TheVariants.{Stop, Start, Intr, Quit, Susp, Ignored, Eof, Erase, Kill, Werase, Reprint, Lnext, Delimiter, Ordinary}
use Rattle.strm_types.specs.declared.keys.Stroke.{Stroke}
use Rattle.strm_types.specs.declared.termios.ControlChar.TheVariants as chars
use Rattle.strm_types.specs.declared.termios.Termios.{Termios}
use Rattle.strm_types.specs.Termios.{istrip, inlcr, igncr, icrnl, iuclc, ixon, ixany, isig, icanon, iexten, is_char}

-- line feed, which ends a line, and carriage return
abbrev pub newline : ℕ
newline = 10

abbrev pub carriage_return : ℕ
carriage_return = 13

-- the byte without its top bit, where ISTRIP says so
abbrev pub stripped : Termios → ℕ → ℕ
stripped t b = if istrip t then b % 128 else b

-- an upper-case letter as the lower-case one, where IUCLC says so
abbrev pub lowered : Termios → ℕ → ℕ
lowered t b = if iuclc t && (nat_le 65 b && nat_le b 90) then b + 32 else b

-- a carriage return as a newline under ICRNL, a newline as a carriage return under INLCR
abbrev pub ended : Termios → ℕ → ℕ
ended t b =
    if b == carriage_return then (if icrnl t then newline else b)
    else (if b == newline && inlcr t then carriage_return else b)

-- One key of several, on a condition each: the first one whose condition holds, and else another one.
abbrev pub first_of : List (Bool × Key) → Key → Key
first_of [] otherwise = otherwise
first_of ((holds, key) ∷ cases) otherwise = if holds then key else first_of cases otherwise

-- the keys that edit and end lines, in canonical mode; WERASE, REPRINT and LNEXT are keys under IEXTEN alone
abbrev pub line_key : Termios → ℕ → Key
line_key t b = first_of (
    (is_char t chars.Eof b, Eof)
    ∷ (is_char t chars.Erase b, Erase)
    ∷ (is_char t chars.Kill b, Kill)
    ∷ (iexten t && is_char t chars.Werase b, Werase)
    ∷ (iexten t && is_char t chars.Reprint b, Reprint)
    ∷ (iexten t && is_char t chars.Lnext b, Lnext)
    ∷ (b == newline || (is_char t chars.Eol b || is_char t chars.Eol2 b), Delimiter)
    ∷ []) Ordinary

-- The key that a byte is, behind ISTRIP and IUCLC: those of flow control under IXON, those of signals under ISIG, a carriage
-- return under IGNCR, and then, in canonical mode and once line ends are mapped, those of the line.
abbrev pub key_of : Termios → ℕ → Key
key_of t b = first_of (
    (ixon t && is_char t chars.Stop b, Stop)
    ∷ (ixon t && is_char t chars.Start b, Start)
    ∷ (isig t && is_char t chars.Intr b, Intr)
    ∷ (isig t && is_char t chars.Quit b, Quit)
    ∷ (isig t && is_char t chars.Susp b, Susp)
    ∷ (b == carriage_return && igncr t, Ignored)
    ∷ []) (if icanon t then line_key t (ended t b) else Ordinary)

-- Line ends are mapped behind the keys of flow control and of signals, which are echoed as they came.
abbrev pub byte_as : Key → Termios → ℕ → ℕ
byte_as Stop t b = b
byte_as Start t b = b
byte_as Intr t b = b
byte_as Quit t b = b
byte_as Susp t b = b
byte_as Ignored t b = b
byte_as _ t b = ended t b

-- A byte that is typed. Behind LNEXT (true) it is no key, and its line end isn't mapped.
abbrev pub taken_as : Bool → Termios → ℕ → Stroke
taken_as true t b = record { key = Ordinary; byte = b; literal = true }
taken_as false t b = let key = key_of t b in record { key = key; byte = byte_as key t b; literal = false }

abbrev pub stroke_of : Termios → Bool → ℕ → Stroke
stroke_of t after_lnext b = taken_as after_lnext t (lowered t (stripped t b))

-- Whether a byte that is typed while output is stopped starts it: START does, and under IXANY any other key but STOP. Behind
-- LNEXT no byte does.
abbrev pub starts_output : Termios → Key → Bool
starts_output t Start = true
starts_output t Stop = false
starts_output t _ = ixon t && ixany t

abbrev pub restarts : Termios → Stroke → Bool
restarts t stroke = if stroke.literal then false else starts_output t stroke.key
