-- What a terminal is set to, as worked out by hand from termio(7I) and ldterm(7M): its 35 bytes, each bit that has a name, and the
-- control bytes.
use Rattle.strm_rows.proofs.Prelude.{ℕ, ◌≡◌, ◌-◌, Bool, true, false, List, [], ◌∷◌, map, refl, replicate, None, Some, Termios, first_termios}
use Rattle.strm_rows.proofs.Prelude.{termios_bytes}
use Rattle.strm_types.specs.declared.termios.ControlChar.{ControlChar}
use Rattle.strm_types.specs.declared.termios.ControlChar.TheVariants.{Intr, Quit, Erase, Kill, Eof, Eol, Eol2, Start, Stop, Susp, Reprint, Werase, Lnext}
use Rattle.strm_types.specs.declared.termios.InputModes.{InputModes}
use Rattle.strm_types.specs.declared.termios.LocalModes.{LocalModes}
use Rattle.strm_types.specs.declared.termios.OutputModes.{OutputModes}
use Rattle.strm_types.specs.declared.termios.TheConstants.InputModes as input
use Rattle.strm_types.specs.declared.termios.TheConstants.LocalModes as local
use Rattle.strm_types.specs.declared.termios.TheConstants.OutputModes as output
use Rattle.strm_types.specs.Termios.{control_char, is_char, place_of, read_termios}
use Rattle.strm_types.specs.Termios.{echo, echoctl, echoe, echok, echoke, echonl, icanon, icrnl, iexten, igncr, imaxbel, inlcr, isig, istrip, iuclc, ixany, ixon, noflsh, ocrnl, olcuc, onlcr, onlret, onocr, opost, tostop, xtabs}

-- the 35 bytes

pub first-bytes : termios_bytes first_termios
    ≡ 0 ∷ 0 ∷ 0x25 ∷ 0 ∷ 0 ∷ 0 ∷ 0 ∷ 5 ∷ 0 ∷ 0 ∷ 0 ∷ 0 ∷ 0 ∷ 0 ∷ 0x8a ∷ 0x3b ∷ 0x03 ∷ 0x1c ∷ 0x7f ∷ 0x15 ∷ 0x04 ∷ 0 ∷ 0 ∷ 0 ∷ 0x11 ∷ 0x13 ∷ 0x1a ∷ 0 ∷ 0x12 ∷ 0 ∷ 0x17 ∷ 0x16 ∷ 0 ∷ 0 ∷ 0 ∷ []
first-bytes = refl

abbrev set_to : ℕ → ℕ → ℕ → ℕ → List ℕ → Termios
set_to iflag oflag cflag lflag control = record { iflag = record { 0 = iflag }; oflag = record { 0 = oflag }; cflag = cflag; lflag = record { 0 = lflag }; control = control }

-- control bytes that differ, each its place and 0x40 more
abbrev control : List ℕ
control = 0x40 ∷ 0x41 ∷ 0x42 ∷ 0x43 ∷ 0x44 ∷ 0x45 ∷ 0x46 ∷ 0x47 ∷ 0x48 ∷ 0x49 ∷ 0x4a ∷ 0x4b ∷ 0x4c ∷ 0x4d ∷ 0x4e ∷ 0x4f ∷ 0x50 ∷ 0x51 ∷ 0x52 ∷ []

-- bits without a name among those that have one
abbrev sample : Termios
sample = set_to 0xf1e2d3c4 0xa5968778 0x01020304 0xb4c5d6e7 control

abbrev sample_bytes : List ℕ
sample_bytes = 0xf1 ∷ 0xe2 ∷ 0xd3 ∷ 0xc4 ∷ 0xa5 ∷ 0x96 ∷ 0x87 ∷ 0x78 ∷ 1 ∷ 2 ∷ 3 ∷ 4 ∷ 0xb4 ∷ 0xc5 ∷ 0xd6 ∷ 0xe7 ∷ control

-- bits without a name, and bytes, are given back as they came
pub bytes-are-made : termios_bytes sample ≡ sample_bytes
bytes-are-made = refl

pub bytes-are-read : map read_termios (sample_bytes ∷ termios_bytes first_termios ∷ replicate 35 255 ∷ [])
    ≡ Some sample ∷ Some first_termios ∷ Some (set_to 0xffffffff 0xffffffff 0xffffffff 0xffffffff (replicate 19 255)) ∷ []
bytes-are-read = refl

pub other-lengths-are-none : map (λ n. read_termios (replicate n 0)) (0 ∷ 16 ∷ 34 ∷ 36 ∷ 70 ∷ []) ≡ replicate 5 None
other-lengths-are-none = refl

-- The bits that have a name. A word has one where it is all that is set, and where all is set; it has it not where all others are set, and
-- where nothing is.

abbrev told : (ℕ → Termios) → (Termios → Bool) → ℕ → List Bool
told with_word has bits = map (λ word. has (with_word word)) (bits ∷ 0xffffffff ∷ (0xffffffff - bits) ∷ 0 ∷ [])

abbrev told-rightly : List Bool
told-rightly = true ∷ true ∷ false ∷ false ∷ []

abbrev with_input : ℕ → Termios
with_input word = set_to word 0 0 0 control

abbrev with_output : ℕ → Termios
with_output word = set_to 0 word 0 0 control

abbrev with_local : ℕ → Termios
with_local word = set_to 0 0 0 word control

pub input-bits : told with_input istrip 0x20 ∷ told with_input inlcr 0x40 ∷ told with_input igncr 0x80 ∷ told with_input icrnl 0x100 ∷ told with_input iuclc 0x200 ∷ told with_input ixon 0x400 ∷ told with_input ixany 0x800 ∷ told with_input imaxbel 0x2000 ∷ []
    ≡ replicate 8 told-rightly
input-bits = refl

pub output-bits : told with_output opost 0x1 ∷ told with_output olcuc 0x2 ∷ told with_output onlcr 0x4 ∷ told with_output ocrnl 0x8 ∷ told with_output onocr 0x10 ∷ told with_output onlret 0x20 ∷ told with_output xtabs 0x1800 ∷ []
    ≡ replicate 7 told-rightly
output-bits = refl

pub local-bits : told with_local isig 0x1 ∷ told with_local icanon 0x2 ∷ told with_local echo 0x8 ∷ told with_local echoe 0x10 ∷ told with_local echok 0x20 ∷ told with_local echonl 0x40 ∷ told with_local noflsh 0x80 ∷ told with_local tostop 0x100 ∷ told with_local echoctl 0x200 ∷ told with_local echoke 0x800 ∷ told with_local iexten 0x8000 ∷ []
    ≡ replicate 11 told-rightly
local-bits = refl

-- one of its two bits isn't XTABS
pub half-of-xtabs : map (λ word. xtabs (with_output word)) (0x800 ∷ 0x1000 ∷ 0xfffff7ff ∷ 0xffffefff ∷ []) ≡ replicate 4 false
half-of-xtabs = refl

-- the names in code
pub names-of-bits : map (λ (modes : InputModes). modes.0) (input.ISTRIP ∷ input.INLCR ∷ input.IGNCR ∷ input.ICRNL ∷ input.IUCLC ∷ input.IXON ∷ input.IXANY ∷ input.IMAXBEL ∷ [])
    ∷ map (λ (modes : OutputModes). modes.0) (output.OPOST ∷ output.OLCUC ∷ output.ONLCR ∷ output.OCRNL ∷ output.ONOCR ∷ output.ONLRET ∷ output.XTABS ∷ [])
    ∷ map (λ (modes : LocalModes). modes.0) (local.ISIG ∷ local.ICANON ∷ local.ECHO ∷ local.ECHOE ∷ local.ECHOK ∷ local.ECHONL ∷ local.NOFLSH ∷ local.TOSTOP ∷ local.ECHOCTL ∷ local.ECHOKE ∷ local.IEXTEN ∷ [])
    ∷ []
    ≡ (0x20 ∷ 0x40 ∷ 0x80 ∷ 0x100 ∷ 0x200 ∷ 0x400 ∷ 0x800 ∷ 0x2000 ∷ []) ∷ (0x1 ∷ 0x2 ∷ 0x4 ∷ 0x8 ∷ 0x10 ∷ 0x20 ∷ 0x1800 ∷ []) ∷ (0x1 ∷ 0x2 ∷ 0x8 ∷ 0x10 ∷ 0x20 ∷ 0x40 ∷ 0x80 ∷ 0x100 ∷ 0x200 ∷ 0x800 ∷ 0x8000 ∷ []) ∷ []
names-of-bits = refl

-- what is on at first: ICRNL, IXON, IMAXBEL; OPOST, ONLCR; ISIG, ICANON, ECHO, ECHOE, ECHOK, ECHOCTL, ECHOKE, IEXTEN
pub first-modes : map (λ (has : Termios → Bool). has first_termios) (icrnl ∷ ixon ∷ imaxbel ∷ opost ∷ onlcr ∷ isig ∷ icanon ∷ echo ∷ echoe ∷ echok ∷ echoctl ∷ echoke ∷ iexten ∷ []) ≡ replicate 13 true
first-modes = refl

pub off-at-first : map (λ (has : Termios → Bool). has first_termios) (istrip ∷ inlcr ∷ igncr ∷ iuclc ∷ ixany ∷ olcuc ∷ ocrnl ∷ onocr ∷ onlret ∷ xtabs ∷ echonl ∷ noflsh ∷ tostop ∷ []) ≡ replicate 13 false
off-at-first = refl

-- the control bytes

abbrev keys : List ControlChar
keys = Intr ∷ Quit ∷ Erase ∷ Kill ∷ Eof ∷ Eol ∷ Eol2 ∷ Start ∷ Stop ∷ Susp ∷ Reprint ∷ Werase ∷ Lnext ∷ []

pub control-bytes-have-places : map place_of keys ≡ 0 ∷ 1 ∷ 2 ∷ 3 ∷ 4 ∷ 5 ∷ 6 ∷ 8 ∷ 9 ∷ 10 ∷ 12 ∷ 14 ∷ 15 ∷ []
control-bytes-have-places = refl

pub control-bytes : map (λ key. control_char key sample) keys ∷ map (λ key. control_char key first_termios) keys ∷ []
    ≡ (0x40 ∷ 0x41 ∷ 0x42 ∷ 0x43 ∷ 0x44 ∷ 0x45 ∷ 0x46 ∷ 0x48 ∷ 0x49 ∷ 0x4a ∷ 0x4c ∷ 0x4e ∷ 0x4f ∷ []) ∷ (0x03 ∷ 0x1c ∷ 0x7f ∷ 0x15 ∷ 0x04 ∷ 0 ∷ 0 ∷ 0x11 ∷ 0x13 ∷ 0x1a ∷ 0x12 ∷ 0x17 ∷ 0x16 ∷ []) ∷ []
control-bytes = refl

pub bytes-of-a-control-byte : map (is_char first_termios Quit) (0x1c ∷ 0x1b ∷ 0x1d ∷ 0x03 ∷ 0x9c ∷ 1 ∷ 0 ∷ []) ≡ true ∷ replicate 6 false
bytes-of-a-control-byte = refl

-- one of value 0 is off: no byte is it
pub control-bytes-that-are-off : map (is_char first_termios Eol) (0 ∷ 1 ∷ 5 ∷ 0x04 ∷ 0x0a ∷ 255 ∷ []) ∷ map (λ key. is_char (set_to 0 0 0 0 (replicate 19 0)) key 0) keys ∷ []
    ≡ replicate 6 false ∷ replicate 13 false ∷ []
control-bytes-that-are-off = refl
