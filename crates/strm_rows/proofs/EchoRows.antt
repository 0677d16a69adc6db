-- What is echoed, as worked out by hand from termio(7I).
use Rattle.strm_rows.proofs.Prelude.{ℕ, ◌≡◌, List, [], ◌∷◌, ◌++◌, map, refl, replicate, true, false, Key, Intr, Quit, Susp, Ignored, Eof, Erase, Kill}
use Rattle.strm_rows.proofs.Prelude.{Werase, Reprint, Lnext, Delimiter, Ordinary, Termios, first_termios}
use Rattle.std.specs.Prelude.{zero, suc}
use Rattle.strm_types.specs.declared.keys.Key.TheVariants.{Stop, Start}
use Rattle.strm_types.specs.Echo.{columns, echo_byte, echo_of, width_at}
use Rattle.strm_rows.proofs.KeyRows.{with_input, with_local}

-- local modes: ECHO is 8, ICANON 2, ECHOE 0x10, ECHOK 0x20, ECHONL 0x40, ECHOCTL 0x200, ECHOKE 0x800
abbrev local : ℕ → Termios
local word = with_local word first_termios

-- what a key echoes in such modes, by the line before it and behind it
abbrev echoes : ℕ → Key → ℕ → List ℕ → List ℕ → List ℕ
echoes word key byte before after = echo_of (local word) before after (record { key = key; byte = byte; literal = false })

-- so many columns rubbed out: BS SP BS each
abbrev pub rubbed : ℕ → List ℕ
rubbed zero = []
rubbed (suc n) = 8 ∷ 32 ∷ 8 ∷ rubbed n

-- bytes

-- NUL, ^C, TAB, LF, 31, the space, `^`, `~`, DEL, and bytes with their top bit
abbrev shown : List ℕ
shown = 0 ∷ 3 ∷ 9 ∷ 10 ∷ 31 ∷ 32 ∷ 94 ∷ 126 ∷ 127 ∷ 128 ∷ 159 ∷ 255 ∷ []

pub bytes-shown : map (echo_byte (local 0x200)) shown
    ≡ (94 ∷ 64 ∷ []) ∷ (94 ∷ 67 ∷ []) ∷ (9 ∷ []) ∷ (94 ∷ 74 ∷ []) ∷ (94 ∷ 95 ∷ []) ∷ (32 ∷ []) ∷ (94 ∷ []) ∷ (126 ∷ []) ∷ (94 ∷ 63 ∷ []) ∷ (128 ∷ []) ∷ (159 ∷ []) ∷ (255 ∷ []) ∷ []
bytes-shown = refl

pub bytes-as-they-are : map (echo_byte (local 0xfffffdff)) shown ≡ map (λ b. b ∷ []) shown
bytes-as-they-are = refl

-- columns

pub tabs : map (λ column. width_at first_termios column 9) (0 ∷ 1 ∷ 5 ∷ 7 ∷ 8 ∷ 9 ∷ 15 ∷ 16 ∷ []) ≡ 8 ∷ 7 ∷ 3 ∷ 1 ∷ 8 ∷ 7 ∷ 1 ∷ 8 ∷ []
tabs = refl

pub widths : map (λ word. map (width_at (local word) 3) shown) (0x200 ∷ 0xfffffdff ∷ [])
    ≡ (2 ∷ 2 ∷ 5 ∷ 2 ∷ 2 ∷ 1 ∷ 1 ∷ 1 ∷ 2 ∷ 1 ∷ 1 ∷ 1 ∷ []) ∷ (0 ∷ 0 ∷ 5 ∷ 0 ∷ 0 ∷ 1 ∷ 1 ∷ 1 ∷ 0 ∷ 1 ∷ 1 ∷ 1 ∷ []) ∷ []
widths = refl

-- "a", TAB, ^C, "b": the TAB goes on to column 8; TABs alone; a TAB behind a control byte
pub columns-of-lines : map (columns first_termios) ((97 ∷ 9 ∷ 3 ∷ 98 ∷ []) ∷ (9 ∷ 9 ∷ []) ∷ (3 ∷ 9 ∷ 97 ∷ 9 ∷ []) ∷ [] ∷ []) ≡ 11 ∷ 16 ∷ 16 ∷ 0 ∷ []
columns-of-lines = refl

pub columns-of-bare-lines : map (columns (local 0)) ((97 ∷ 9 ∷ 3 ∷ 98 ∷ []) ∷ (3 ∷ 9 ∷ 97 ∷ []) ∷ []) ≡ 9 ∷ 9 ∷ []
columns-of-bare-lines = refl

-- keys

-- those that are never echoed, in all modes
pub keys-without-echo : map (λ key. echoes 0xffffffff key 3 (97 ∷ []) []) (Stop ∷ Start ∷ Ignored ∷ Eof ∷ Lnext ∷ []) ≡ replicate 5 []
keys-without-echo = refl

-- without ECHO and ECHONL none is, whatever else is set
pub no-echo : map (λ key. echoes 0xffffffb7 key 10 (97 ∷ []) []) (Intr ∷ Quit ∷ Susp ∷ Erase ∷ Kill ∷ Werase ∷ Reprint ∷ Delimiter ∷ Ordinary ∷ []) ≡ replicate 9 []
no-echo = refl

-- with ECHONL alone, NL is, as a delimiter and in no other part
pub newline-alone : map (λ key. echoes 0xfffffff7 key 10 (97 ∷ []) []) (Intr ∷ Quit ∷ Susp ∷ Erase ∷ Kill ∷ Werase ∷ Reprint ∷ Delimiter ∷ []) ≡ replicate 7 [] ++ (10 ∷ []) ∷ []
newline-alone = refl

-- signal keys: ^C, TAB, LF and DEL under ECHO with ECHOCTL and without, also where the line is full
abbrev signal-keys : List Key
signal-keys = Intr ∷ Quit ∷ Susp ∷ []

pub signal-keys-shown : map (λ key. map (λ b. echoes 0x20a key b (replicate 255 97) []) (3 ∷ 9 ∷ 10 ∷ 127 ∷ 97 ∷ [])) signal-keys
    ≡ replicate 3 ((94 ∷ 67 ∷ []) ∷ (9 ∷ []) ∷ (94 ∷ 74 ∷ []) ∷ (94 ∷ 63 ∷ []) ∷ (97 ∷ []) ∷ [])
signal-keys-shown = refl

pub signal-keys-bare : map (λ key. map (λ b. echoes 0xa key b [] []) (3 ∷ 10 ∷ 97 ∷ [])) signal-keys ≡ replicate 3 ((3 ∷ []) ∷ (10 ∷ []) ∷ (97 ∷ []) ∷ [])
signal-keys-bare = refl

-- delimiters

-- NL: ECHO; neither; ECHONL and ICANON; ECHONL alone; ICANON alone; ECHO with all but ECHONL; ECHO, where the line is full
pub newline-echoed : map (λ word. echoes word Delimiter 10 (replicate 255 97) []) (0x8 ∷ 0 ∷ 0x42 ∷ 0x40 ∷ 0x2 ∷ 0xffffffbf ∷ [])
    ≡ (10 ∷ []) ∷ [] ∷ (10 ∷ []) ∷ [] ∷ [] ∷ (10 ∷ []) ∷ []
newline-echoed = refl

-- EOL set to ^D and to a letter: as an ordinary byte
pub other-delimiters : map (λ word. map (λ b. echoes word Delimiter b (replicate 255 97) []) (4 ∷ 97 ∷ [])) (0x20a ∷ 0xa ∷ 0xfffffff7 ∷ [])
    ≡ ((94 ∷ 68 ∷ []) ∷ (97 ∷ []) ∷ []) ∷ ((4 ∷ []) ∷ (97 ∷ []) ∷ []) ∷ ([] ∷ [] ∷ []) ∷ []
other-delimiters = refl

-- ordinary bytes

pub ordinary-bytes : map (λ word. map (λ b. echoes word Ordinary b (97 ∷ []) (97 ∷ b ∷ [])) (97 ∷ 9 ∷ 1 ∷ 127 ∷ 200 ∷ [])) (0x20a ∷ 0x208 ∷ 0xa ∷ 0xfffffff7 ∷ [])
    ≡ ((97 ∷ []) ∷ (9 ∷ []) ∷ (94 ∷ 65 ∷ []) ∷ (94 ∷ 63 ∷ []) ∷ (200 ∷ []) ∷ [])
    ∷ ((97 ∷ []) ∷ (9 ∷ []) ∷ (94 ∷ 65 ∷ []) ∷ (94 ∷ 63 ∷ []) ∷ (200 ∷ []) ∷ [])
    ∷ ((97 ∷ []) ∷ (9 ∷ []) ∷ (1 ∷ []) ∷ (127 ∷ []) ∷ (200 ∷ []) ∷ [])
    ∷ replicate 5 [] ∷ []
ordinary-bytes = refl

-- NL without ICANON is echoed as NL, under ECHO alone
pub raw-newline : map (λ word. echoes word Ordinary 10 [] []) (0x208 ∷ 0xfffffff5 ∷ []) ≡ (10 ∷ []) ∷ [] ∷ []
raw-newline = refl

-- behind LNEXT it is an ordinary byte, also to ECHONL
pub literal-newline : map (λ word. echo_of (local word) [] [] (record { key = Ordinary; byte = 10; literal = true })) (0x24a ∷ 0x4a ∷ 0xfffffff7 ∷ []) ≡ (94 ∷ 74 ∷ []) ∷ (10 ∷ []) ∷ [] ∷ []
literal-newline = refl

-- A line of 254 bytes has room. In one of 255 the bell rings under IMAXBEL, without ECHO too, and nothing is echoed without IMAXBEL. Without
-- ICANON no line is full.
abbrev typed_at_length : ℕ → ℕ → ℕ → List ℕ
typed_at_length input word n = echo_of (with_input input (local word)) (replicate n 97) [] (record { key = Ordinary; byte = 98; literal = false })

pub full-lines : map (typed_at_length 0x2000 0x20a) (254 ∷ 255 ∷ []) ++ map (typed_at_length 0xffffdfff 0x20a) (254 ∷ 255 ∷ []) ≡ (98 ∷ []) ∷ (7 ∷ []) ∷ (98 ∷ []) ∷ [] ∷ []
full-lines = refl

pub full-lines-without-echo : map (typed_at_length 0x2000 0xfffffff7) (254 ∷ 255 ∷ []) ++ map (typed_at_length 0 0xfffffff7) (254 ∷ 255 ∷ []) ≡ [] ∷ (7 ∷ []) ∷ [] ∷ [] ∷ []
full-lines-without-echo = refl

pub no-line-is-full : typed_at_length 0x2000 0x208 255 ∷ typed_at_length 0x2000 0xfffffff5 255 ∷ [] ≡ (98 ∷ []) ∷ [] ∷ []
no-line-is-full = refl

-- ERASE and WERASE

abbrev erasing : List Key
erasing = Erase ∷ Werase ∷ []

-- With ECHOE: a letter; TABs at columns 1, 0, 7 and 8; ^A, DEL; nothing; "cd " behind "ab "; TAB TAB "b" behind "a"; a TAB behind ^A.
abbrev cut : (List ℕ → List ℕ → List ℕ) → List (List ℕ)
cut echo =
    echo (97 ∷ 98 ∷ []) (97 ∷ [])
    ∷ echo (97 ∷ 9 ∷ []) (97 ∷ [])
    ∷ echo (9 ∷ []) []
    ∷ echo (replicate 7 97 ++ 9 ∷ []) (replicate 7 97)
    ∷ echo (replicate 8 97 ++ 9 ∷ []) (replicate 8 97)
    ∷ echo (1 ∷ []) []
    ∷ echo (97 ∷ 127 ∷ []) (97 ∷ [])
    ∷ echo [] []
    ∷ echo (97 ∷ 98 ∷ 32 ∷ 99 ∷ 100 ∷ 32 ∷ []) (97 ∷ 98 ∷ 32 ∷ [])
    ∷ echo (97 ∷ 9 ∷ 9 ∷ 98 ∷ []) (97 ∷ [])
    ∷ echo (1 ∷ 9 ∷ []) (1 ∷ [])
    ∷ []

pub erased-columns : map (λ key. cut (echoes 0x218 key 127)) erasing ≡ replicate 2 (map rubbed (1 ∷ 7 ∷ 8 ∷ 1 ∷ 8 ∷ 2 ∷ 2 ∷ 0 ∷ 3 ∷ 16 ∷ 6 ∷ []))
erased-columns = refl

pub erased-bare-columns : map (λ key. cut (echoes 0x18 key 127)) erasing ≡ replicate 2 (map rubbed (1 ∷ 7 ∷ 8 ∷ 1 ∷ 8 ∷ 0 ∷ 0 ∷ 0 ∷ 3 ∷ 16 ∷ 8 ∷ []))
erased-bare-columns = refl

-- without ECHOE the key, where something was taken
pub erasing-keys : map (λ word. map (λ key. echoes word key 127 (97 ∷ 98 ∷ []) (97 ∷ []) ∷ echoes word key 127 [] [] ∷ []) erasing) (0xffffffef ∷ 0xa ∷ [])
    ≡ replicate 2 ((94 ∷ 63 ∷ []) ∷ [] ∷ []) ∷ replicate 2 ((127 ∷ []) ∷ [] ∷ []) ∷ []
erasing-keys = refl

-- KILL

-- With ECHOKE the whole line is rubbed out, without ECHOE too; an empty line has no column.
pub killed-columns : map (λ word. map (λ line. echoes word Kill 21 line []) ((97 ∷ 98 ∷ 9 ∷ []) ∷ (97 ∷ 1 ∷ []) ∷ [] ∷ [])) (0xffffffff ∷ 0xa08 ∷ 0x808 ∷ [])
    ≡ map rubbed (8 ∷ 3 ∷ 0 ∷ []) ∷ map rubbed (8 ∷ 3 ∷ 0 ∷ []) ∷ map rubbed (8 ∷ 1 ∷ 0 ∷ []) ∷ []
killed-columns = refl

-- Without ECHOKE the key, and under ECHOK a newline, also for an empty line.
pub killing-keys : map (λ word. map (λ line. echoes word Kill 21 line []) ((97 ∷ 98 ∷ []) ∷ [] ∷ [])) (0xfffff7ff ∷ 0x208 ∷ 0x28 ∷ 0x18 ∷ [])
    ≡ replicate 2 (94 ∷ 85 ∷ 10 ∷ []) ∷ replicate 2 (94 ∷ 85 ∷ []) ∷ replicate 2 (21 ∷ 10 ∷ []) ∷ replicate 2 (21 ∷ []) ∷ []
killing-keys = refl

-- REPRINT: the key, a newline, and "a", TAB, a literal LF, ^A and "b"; an empty line
pub reprinted : map (λ word. map (λ line. echoes word Reprint 18 line []) ((97 ∷ 9 ∷ 10 ∷ 1 ∷ 98 ∷ []) ∷ [] ∷ [])) (0x208 ∷ 0xfffffdff ∷ [])
    ≡ ((94 ∷ 82 ∷ 10 ∷ 97 ∷ 9 ∷ 94 ∷ 74 ∷ 94 ∷ 65 ∷ 98 ∷ []) ∷ (94 ∷ 82 ∷ 10 ∷ []) ∷ [])
    ∷ ((18 ∷ 10 ∷ 97 ∷ 9 ∷ 10 ∷ 1 ∷ 98 ∷ []) ∷ (18 ∷ 10 ∷ []) ∷ []) ∷ []
reprinted = refl
