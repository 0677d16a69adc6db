-- Which keys bytes are, as worked out by hand from termio(7I).
use Rattle.strm_rows.proofs.Prelude.{ℕ, ◌≡◌, if◌then◌else◌, true, false, List, [], ◌∷◌, map, refl, replicate, Key, Intr, Quit, Susp, Ignored, Eof}
use Rattle.strm_rows.proofs.Prelude.{Erase, Kill, Werase, Reprint, Lnext, Delimiter, Ordinary, Termios, first_termios}
use Rattle.std.proofs.Common.{◌==◌, ◌||◌}
use Rattle.strm_types.specs.declared.keys.Key.TheVariants.{Stop, Start}
use Rattle.strm_types.specs.declared.keys.Stroke.{Stroke}
use Rattle.strm_types.specs.Keys.{key_of, stroke_of, stripped, lowered, ended, restarts}

-- a terminal with other modes of input, and one with other local modes
abbrev pub with_input : ℕ → Termios → Termios
with_input word t = record t { iflag = record { 0 = word } }

abbrev pub with_local : ℕ → Termios → Termios
with_local word t = record t { lflag = record { 0 = word } }

-- a terminal whose control bytes of two places are this, and all others are off
abbrev pub with_chars : ℕ → ℕ → ℕ → Termios → Termios
with_chars a b byte t = record t {
  control = map (λ place. if place == a || place == b then byte else 0) (0 ∷ 1 ∷ 2 ∷ 3 ∷ 4 ∷ 5 ∷ 6 ∷ 7 ∷ 8 ∷ 9 ∷ 10 ∷ 11 ∷ 12 ∷ 13 ∷ 14 ∷ 15 ∷ 16 ∷ 17 ∷ 18 ∷ []);
}

abbrev pub with_char : ℕ → ℕ → Termios → Termios
with_char place byte t = with_chars place place byte t

abbrev stroke : Key → ℕ → Stroke
stroke key byte = record { key = key; byte = byte; literal = false }

abbrev literal : ℕ → Stroke
literal byte = record { key = Ordinary; byte = byte; literal = true }

-- each key

-- ^S ^Q ^C ^\ ^Z ^D DEL ^U ^W ^R ^V, NL and CR, and bytes beside them
abbrev bytes : List ℕ
bytes = 19 ∷ 17 ∷ 3 ∷ 28 ∷ 26 ∷ 4 ∷ 127 ∷ 21 ∷ 23 ∷ 18 ∷ 22 ∷ 10 ∷ 13 ∷ 97 ∷ 0 ∷ 9 ∷ 147 ∷ []

pub first-keys : map (key_of first_termios) bytes
    ≡ Stop ∷ Start ∷ Intr ∷ Quit ∷ Susp ∷ Eof ∷ Erase ∷ Kill ∷ Werase ∷ Reprint ∷ Lnext ∷ Delimiter ∷ Delimiter ∷ Ordinary ∷ Ordinary ∷ Ordinary ∷ Ordinary ∷ []
first-keys = refl

-- without IXON
pub no-flow-keys : map (key_of (with_input 0x2100 first_termios)) bytes
    ≡ Ordinary ∷ Ordinary ∷ Intr ∷ Quit ∷ Susp ∷ Eof ∷ Erase ∷ Kill ∷ Werase ∷ Reprint ∷ Lnext ∷ Delimiter ∷ Delimiter ∷ Ordinary ∷ Ordinary ∷ Ordinary ∷ Ordinary ∷ []
no-flow-keys = refl

-- without ISIG
pub no-signal-keys : map (key_of (with_local 0x8a3a first_termios)) bytes
    ≡ Stop ∷ Start ∷ Ordinary ∷ Ordinary ∷ Ordinary ∷ Eof ∷ Erase ∷ Kill ∷ Werase ∷ Reprint ∷ Lnext ∷ Delimiter ∷ Delimiter ∷ Ordinary ∷ Ordinary ∷ Ordinary ∷ Ordinary ∷ []
no-signal-keys = refl

-- without IEXTEN
pub no-extended-keys : map (key_of (with_local 0x0a3b first_termios)) bytes
    ≡ Stop ∷ Start ∷ Intr ∷ Quit ∷ Susp ∷ Eof ∷ Erase ∷ Kill ∷ Ordinary ∷ Ordinary ∷ Ordinary ∷ Delimiter ∷ Delimiter ∷ Ordinary ∷ Ordinary ∷ Ordinary ∷ Ordinary ∷ []
no-extended-keys = refl

-- without ICANON, and under IGNCR
pub no-line-keys : map (key_of (with_input 0x2580 (with_local 0x8a39 first_termios))) bytes
    ≡ Stop ∷ Start ∷ Intr ∷ Quit ∷ Susp ∷ Ordinary ∷ Ordinary ∷ Ordinary ∷ Ordinary ∷ Ordinary ∷ Ordinary ∷ Ordinary ∷ Ignored ∷ Ordinary ∷ Ordinary ∷ Ordinary ∷ Ordinary ∷ []
no-line-keys = refl

-- with no flag at all, also where no carriage return is mapped
pub no-keys : map (key_of (with_input 0 (with_local 0 first_termios))) bytes ≡ replicate 17 Ordinary
no-keys = refl

-- where each control byte is 0, only line ends are left; 0 is no key
pub keys-that-are-off : map (key_of (with_char 19 1 first_termios)) bytes
    ≡ Ordinary ∷ Ordinary ∷ Ordinary ∷ Ordinary ∷ Ordinary ∷ Ordinary ∷ Ordinary ∷ Ordinary ∷ Ordinary ∷ Ordinary ∷ Ordinary ∷ Delimiter ∷ Delimiter ∷ Ordinary ∷ Ordinary ∷ Ordinary ∷ Ordinary ∷ []
keys-that-are-off = refl

-- a letter at each place in turn; at those without a key it is ordinary
pub one-place-each : map (λ place. key_of (with_char place 120 first_termios) 120) (0 ∷ 1 ∷ 2 ∷ 3 ∷ 4 ∷ 5 ∷ 6 ∷ 7 ∷ 8 ∷ 9 ∷ 10 ∷ 11 ∷ 12 ∷ 13 ∷ 14 ∷ 15 ∷ 16 ∷ [])
    ≡ Intr ∷ Quit ∷ Erase ∷ Kill ∷ Eof ∷ Delimiter ∷ Delimiter ∷ Ordinary ∷ Start ∷ Stop ∷ Susp ∷ Ordinary ∷ Reprint ∷ Ordinary ∷ Werase ∷ Lnext ∷ Ordinary ∷ []
one-place-each = refl

-- A byte at two places: STOP and START, START and INTR, INTR and QUIT, QUIT and SUSP, SUSP and EOF, EOF and ERASE, ERASE and KILL, KILL and
-- WERASE, WERASE and REPRINT, REPRINT and LNEXT, LNEXT and EOL, LNEXT and EOL2.
abbrev at_two : List (ℕ × ℕ)
at_two = (9, 8) ∷ (8, 0) ∷ (0, 1) ∷ (1, 10) ∷ (10, 4) ∷ (4, 2) ∷ (2, 3) ∷ (3, 14) ∷ (14, 12) ∷ (12, 15) ∷ (15, 5) ∷ (15, 6) ∷ []

pub first-key-decides : map (λ places. key_of (with_chars places.0 places.1 120 first_termios) 120) at_two
    ≡ Stop ∷ Start ∷ Intr ∷ Quit ∷ Susp ∷ Eof ∷ Erase ∷ Kill ∷ Werase ∷ Reprint ∷ Lnext ∷ Lnext ∷ []
first-key-decides = refl

-- NL at a place of two, where it is no delimiter before it is a key
pub newline-at-two : map (λ places. key_of (with_chars places.0 places.1 10 first_termios) 10) at_two
    ≡ Stop ∷ Start ∷ Intr ∷ Quit ∷ Susp ∷ Eof ∷ Erase ∷ Kill ∷ Werase ∷ Reprint ∷ Lnext ∷ Lnext ∷ []
newline-at-two = refl

-- a switched-off key lets the next one be: STOP and INTR without IXON, INTR and EOF without ISIG, WERASE and EOL without IEXTEN
pub second-key-serves : key_of (with_input 0 (with_chars 9 0 120 first_termios)) 120 ∷ key_of (with_local 0x8a3a (with_chars 0 4 120 first_termios)) 120
    ∷ key_of (with_local 0x0a3b (with_chars 14 5 120 first_termios)) 120 ∷ []
    ≡ Intr ∷ Eof ∷ Delimiter ∷ []
second-key-serves = refl

-- what a byte is taken as

pub top-bit-is-cleared : map (stripped (with_input 0x20 first_termios)) (0 ∷ 127 ∷ 128 ∷ 193 ∷ 255 ∷ []) ≡ 0 ∷ 127 ∷ 0 ∷ 65 ∷ 127 ∷ []
top-bit-is-cleared = refl

pub top-bit-stays : map (stripped (with_input 0xffffffdf first_termios)) (0 ∷ 127 ∷ 128 ∷ 193 ∷ 255 ∷ []) ≡ 0 ∷ 127 ∷ 128 ∷ 193 ∷ 255 ∷ []
top-bit-stays = refl

pub letters-are-lowered : map (lowered (with_input 0x200 first_termios)) (64 ∷ 65 ∷ 66 ∷ 89 ∷ 90 ∷ 91 ∷ 97 ∷ 193 ∷ 10 ∷ []) ≡ 64 ∷ 97 ∷ 98 ∷ 121 ∷ 122 ∷ 91 ∷ 97 ∷ 193 ∷ 10 ∷ []
letters-are-lowered = refl

pub letters-stay : map (lowered (with_input 0xfffffdff first_termios)) (64 ∷ 65 ∷ 90 ∷ 91 ∷ []) ≡ 64 ∷ 65 ∷ 90 ∷ 91 ∷ []
letters-stay = refl

-- NL, CR and another byte under none of them, ICRNL, INLCR, and both
pub line-ends : map (λ word. map (ended (with_input word first_termios)) (10 ∷ 13 ∷ 97 ∷ [])) (0 ∷ 0x100 ∷ 0x40 ∷ 0x140 ∷ [])
    ≡ (10 ∷ 13 ∷ 97 ∷ []) ∷ (10 ∷ 10 ∷ 97 ∷ []) ∷ (13 ∷ 13 ∷ 97 ∷ []) ∷ (13 ∷ 10 ∷ 97 ∷ []) ∷ []
line-ends = refl

-- The top bit goes before letters are lowered, and both before keys: ^C, DEL, A and CR with the top bit, A alone; ERASE set to a letter.
pub mapped-before-keys : map (stroke_of (with_input 0x2720 first_termios) false) (131 ∷ 255 ∷ 193 ∷ 141 ∷ 65 ∷ [])
    ≡ stroke Intr 3 ∷ stroke Erase 127 ∷ stroke Ordinary 97 ∷ stroke Delimiter 10 ∷ stroke Ordinary 97 ∷ []
mapped-before-keys = refl

pub not-mapped : map (stroke_of first_termios false) (131 ∷ 255 ∷ 193 ∷ 141 ∷ 65 ∷ [])
    ≡ stroke Ordinary 131 ∷ stroke Ordinary 255 ∷ stroke Ordinary 193 ∷ stroke Ordinary 141 ∷ stroke Ordinary 65 ∷ []
not-mapped = refl

pub lowered-before-keys : map (λ byte. stroke_of (with_input 0x200 (with_char 2 byte first_termios)) false 65) (97 ∷ 65 ∷ []) ≡ stroke Erase 97 ∷ stroke Ordinary 97 ∷ []
lowered-before-keys = refl

-- CR and NL under ICRNL, INLCR, both, and IGNCR with each of them: behind IGNCR no CR is mapped, and none that came as NL is ignored
pub line-ends-typed : map (λ word. map (stroke_of (with_input word first_termios) false) (13 ∷ 10 ∷ [])) (0 ∷ 0x100 ∷ 0x40 ∷ 0x140 ∷ 0x80 ∷ 0x180 ∷ 0xc0 ∷ 0x1c0 ∷ [])
    ≡ (stroke Ordinary 13 ∷ stroke Delimiter 10 ∷ [])
    ∷ (stroke Delimiter 10 ∷ stroke Delimiter 10 ∷ [])
    ∷ (stroke Ordinary 13 ∷ stroke Ordinary 13 ∷ [])
    ∷ (stroke Delimiter 10 ∷ stroke Ordinary 13 ∷ [])
    ∷ (stroke Ignored 13 ∷ stroke Delimiter 10 ∷ [])
    ∷ (stroke Ignored 13 ∷ stroke Delimiter 10 ∷ [])
    ∷ (stroke Ignored 13 ∷ stroke Ordinary 13 ∷ [])
    ∷ (stroke Ignored 13 ∷ stroke Ordinary 13 ∷ []) ∷ []
line-ends-typed = refl

-- they are mapped without ICANON too
pub line-ends-raw : map (stroke_of (with_input 0x140 (with_local 0 first_termios)) false) (13 ∷ 10 ∷ []) ≡ stroke Ordinary 10 ∷ stroke Ordinary 13 ∷ []
line-ends-raw = refl

-- CR as STOP, START, INTR, QUIT and SUSP, under ICRNL and IGNCR: it isn't mapped, nor ignored
pub return-as-key : map (λ place. stroke_of (with_input 0x580 (with_char place 13 first_termios)) false 13) (9 ∷ 8 ∷ 0 ∷ 1 ∷ 10 ∷ [])
    ≡ stroke Stop 13 ∷ stroke Start 13 ∷ stroke Intr 13 ∷ stroke Quit 13 ∷ stroke Susp 13 ∷ []
return-as-key = refl

-- CR as EOF, ERASE, KILL, WERASE, REPRINT, LNEXT and EOL: the keys of lines come behind line ends, and a CR that is ignored is none of them
pub return-as-line-key : map (λ word. map (λ place. stroke_of (with_input word (with_char place 13 first_termios)) false 13) (4 ∷ 2 ∷ 3 ∷ 14 ∷ 12 ∷ 15 ∷ 5 ∷ [])) (0 ∷ 0x100 ∷ 0x80 ∷ [])
    ≡ (stroke Eof 13 ∷ stroke Erase 13 ∷ stroke Kill 13 ∷ stroke Werase 13 ∷ stroke Reprint 13 ∷ stroke Lnext 13 ∷ stroke Delimiter 13 ∷ [])
    ∷ replicate 7 (stroke Delimiter 10)
    ∷ replicate 7 (stroke Ignored 13) ∷ []
return-as-line-key = refl

-- NL as those, typed as CR under ICRNL: it is that key, taken as NL; and CR as those, typed as NL under INLCR
pub mapped-line-keys : map (λ place. stroke_of (with_char place 10 first_termios) false 13) (4 ∷ 2 ∷ 3 ∷ 14 ∷ 12 ∷ 15 ∷ 5 ∷ [])
    ≡ stroke Eof 10 ∷ stroke Erase 10 ∷ stroke Kill 10 ∷ stroke Werase 10 ∷ stroke Reprint 10 ∷ stroke Lnext 10 ∷ stroke Delimiter 10 ∷ []
mapped-line-keys = refl

pub mapped-line-keys-back : map (λ place. stroke_of (with_input 0x40 (with_char place 13 first_termios)) false 10) (4 ∷ 2 ∷ 3 ∷ 14 ∷ 12 ∷ 15 ∷ 6 ∷ [])
    ≡ stroke Eof 13 ∷ stroke Erase 13 ∷ stroke Kill 13 ∷ stroke Werase 13 ∷ stroke Reprint 13 ∷ stroke Lnext 13 ∷ stroke Delimiter 13 ∷ []
mapped-line-keys-back = refl

-- Behind LNEXT each byte is ordinary, and no line end is mapped or ignored.
pub literal-bytes : map (stroke_of first_termios true) bytes ≡ map literal bytes
literal-bytes = refl

pub literal-line-ends : map (λ word. map (stroke_of (with_input word first_termios) true) (13 ∷ 10 ∷ [])) (0x140 ∷ 0x80 ∷ []) ≡ replicate 2 (literal 13 ∷ literal 10 ∷ [])
literal-line-ends = refl

-- but its top bit is cleared, and it is lowered
pub literal-letters : map (stroke_of (with_input 0x2720 first_termios) true) (193 ∷ 65 ∷ 131 ∷ []) ≡ literal 97 ∷ literal 97 ∷ literal 3 ∷ []
literal-letters = refl

-- starting output again

abbrev keys : List Key
keys = Stop ∷ Start ∷ Intr ∷ Quit ∷ Susp ∷ Ignored ∷ Eof ∷ Erase ∷ Kill ∷ Werase ∷ Reprint ∷ Lnext ∷ Delimiter ∷ Ordinary ∷ []

-- START alone where one of IXON and IXANY isn't set, all keys but STOP where both are
pub keys-that-start : map (λ word. map (λ key. restarts (with_input word first_termios) (stroke key 97)) keys) (0x400 ∷ 0x800 ∷ 0xc00 ∷ [])
    ≡ (false ∷ true ∷ replicate 12 false) ∷ (false ∷ true ∷ replicate 12 false) ∷ (false ∷ replicate 13 true) ∷ []
keys-that-start = refl

pub literal-starts-nothing : restarts (with_input 0xc00 first_termios) (literal 97) ≡ false
literal-starts-nothing = refl
