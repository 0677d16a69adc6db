-- What a terminal is set to (termio(7I), ldterm(7M)): 35 bytes, which are four numbers of 32 bits, the most significant byte first,
-- and 19 control bytes.
use Rattle.std.specs.Prelude.{ℕ, Bool, ◌==◌, ◌&&◌, not, if◌then◌else◌, List, [], ◌∷◌, ◌++◌, length, drop, slice_index, Option, None, Some}
use Rattle.std.specs.Int.RustNames.{bit_and}
use Rattle.strm_types.specs.declared.termios.ControlChar.{ControlChar}
use Rattle.strm_types.specs.declared.termios.ControlChar.TheVariants.{Intr, Quit, Erase, Kill, Eof, Eol, Eol2, Start, Stop, Susp, Reprint, Werase, Lnext}
use Rattle.strm_types.specs.declared.termios.Termios.{Termios}
use Rattle.strm_types.specs.Ioctls.{word_at, word_bytes}

-- the 35 bytes
abbrev pub termios_bytes : Termios → List ℕ
termios_bytes t = word_bytes t.iflag.0 ++ (word_bytes t.oflag.0 ++ (word_bytes t.cflag ++ (word_bytes t.lflag.0 ++ t.control)))

-- what 35 bytes say; none where there are fewer or more
abbrev pub read_termios : List ℕ → Option Termios
read_termios bytes =
    if length bytes == 35
    then Some (record { iflag = record { 0 = word_at 0 bytes }; oflag = record { 0 = word_at 4 bytes }; cflag = word_at 8 bytes; lflag = record { 0 = word_at 12 bytes }; control = drop 16 bytes })
    else None

-- What a terminal is set to at first: ICRNL, IXON and IMAXBEL; OPOST and ONLCR; ISIG, ICANON, ECHO, ECHOE, ECHOK, ECHOCTL, ECHOKE
-- and IEXTEN.
abbrev pub first_termios : Termios
first_termios = record {
  iflag = record { 0 = 0x2500 };
  oflag = record { 0 = 0x5 };
  cflag = 0;
  lflag = record { 0 = 0x8a3b };
  control = 0x03 ∷ 0x1c ∷ 0x7f ∷ 0x15 ∷ 0x04 ∷ 0 ∷ 0 ∷ 0 ∷ 0x11 ∷ 0x13 ∷ 0x1a ∷ 0 ∷ 0x12 ∷ 0 ∷ 0x17 ∷ 0x16 ∷ 0 ∷ 0 ∷ 0 ∷ [];
}

-- the place of a control byte
abbrev pub place_of : ControlChar → ℕ
place_of Intr = 0
place_of Quit = 1
place_of Erase = 2
place_of Kill = 3
place_of Eof = 4
place_of Eol = 5
place_of Eol2 = 6
place_of Start = 8
place_of Stop = 9
place_of Susp = 10
place_of Reprint = 12
place_of Werase = 14
place_of Lnext = 15

abbrev pub control_char : ControlChar → Termios → ℕ
control_char key t = slice_index t.control (place_of key)

-- whether a byte is a control byte; one of value 0 is off, and no byte is it
abbrev pub is_char : Termios → ControlChar → ℕ → Bool
is_char t key byte = not (byte == 0) && (byte == control_char key t)

-- what is done to the bytes that come in

abbrev pub istrip : Termios → Bool
istrip t = bit_and t.iflag.0 0x20 == 0x20

abbrev pub inlcr : Termios → Bool
inlcr t = bit_and t.iflag.0 0x40 == 0x40

abbrev pub igncr : Termios → Bool
igncr t = bit_and t.iflag.0 0x80 == 0x80

abbrev pub icrnl : Termios → Bool
icrnl t = bit_and t.iflag.0 0x100 == 0x100

abbrev pub iuclc : Termios → Bool
iuclc t = bit_and t.iflag.0 0x200 == 0x200

abbrev pub ixon : Termios → Bool
ixon t = bit_and t.iflag.0 0x400 == 0x400

abbrev pub ixany : Termios → Bool
ixany t = bit_and t.iflag.0 0x800 == 0x800

abbrev pub imaxbel : Termios → Bool
imaxbel t = bit_and t.iflag.0 0x2000 == 0x2000

-- what is done to the bytes that go out

abbrev pub opost : Termios → Bool
opost t = bit_and t.oflag.0 0x1 == 0x1

abbrev pub olcuc : Termios → Bool
olcuc t = bit_and t.oflag.0 0x2 == 0x2

abbrev pub onlcr : Termios → Bool
onlcr t = bit_and t.oflag.0 0x4 == 0x4

abbrev pub ocrnl : Termios → Bool
ocrnl t = bit_and t.oflag.0 0x8 == 0x8

abbrev pub onocr : Termios → Bool
onocr t = bit_and t.oflag.0 0x10 == 0x10

abbrev pub onlret : Termios → Bool
onlret t = bit_and t.oflag.0 0x20 == 0x20

abbrev pub xtabs : Termios → Bool
xtabs t = bit_and t.oflag.0 0x1800 == 0x1800

-- how lines are edited, echoed and handed up, and which bytes are signals

abbrev pub isig : Termios → Bool
isig t = bit_and t.lflag.0 0x1 == 0x1

abbrev pub icanon : Termios → Bool
icanon t = bit_and t.lflag.0 0x2 == 0x2

abbrev pub echo : Termios → Bool
echo t = bit_and t.lflag.0 0x8 == 0x8

abbrev pub echoe : Termios → Bool
echoe t = bit_and t.lflag.0 0x10 == 0x10

abbrev pub echok : Termios → Bool
echok t = bit_and t.lflag.0 0x20 == 0x20

abbrev pub echonl : Termios → Bool
echonl t = bit_and t.lflag.0 0x40 == 0x40

abbrev pub noflsh : Termios → Bool
noflsh t = bit_and t.lflag.0 0x80 == 0x80

abbrev pub tostop : Termios → Bool
tostop t = bit_and t.lflag.0 0x100 == 0x100

abbrev pub echoctl : Termios → Bool
echoctl t = bit_and t.lflag.0 0x200 == 0x200

abbrev pub echoke : Termios → Bool
echoke t = bit_and t.lflag.0 0x800 == 0x800

abbrev pub iexten : Termios → Bool
iexten t = bit_and t.lflag.0 0x8000 == 0x8000
