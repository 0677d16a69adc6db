-- A byte that is no key in this mode, and no line end that it turns into another byte, is an ordinary byte.
use Rattle.std.proofs.Common.{◌≡◌, ℕ, zero, suc, Bool, true, false, not, List, [], ◌∷◌, refl, sym, ap, ◌∙◌, arith}
use Rattle.std.specs.Prelude.{◌&&◌, ◌||◌, ◌==◌, if◌then◌else◌, slice_index}
use Rattle.std.specs.List.{list_any}
use Rattle.std.proofs.lemmas.Bool.Decides.{nat_tests}
use Rattle.strm_types.specs.declared.keys.Key.{Key}
use Rattle.strm_types.specs.declared.keys.Key.TheVariants.{Stop, Start, Intr, Quit, Susp, Ignored, Eof, Erase, Kill, Werase, Reprint, Lnext, Delimiter, Ordinary}
use Rattle.strm_types.specs.declared.keys.Stroke.{Stroke}
use Rattle.strm_types.specs.declared.termios.ControlChar.{ControlChar}
use Rattle.strm_types.specs.declared.termios.ControlChar.TheVariants as chars
use Rattle.strm_types.specs.declared.termios.Termios.{Termios}
use Rattle.strm_types.specs.Keys.{first_of, key_of, line_key, ended, newline, carriage_return, byte_as, lowered, stripped, stroke_of, taken_as}
use Rattle.strm_types.specs.Termios.{icanon, icrnl, iexten, igncr, inlcr, isig, ixon, is_char, place_of}
use Rattle.strm_ldterm.specs.PlainRuns.{has_keys, turns_ends}

and-false : (x y : Bool) → y ≡ false → (x && y) ≡ false
and-false true y h = h
and-false false y h = refl

pub or-left : (x y : Bool) → (x || y) ≡ false → x ≡ false
or-left true y h = h
or-left false y h = refl

pub or-right : (x y : Bool) → (x || y) ≡ false → y ≡ false
or-right true y h = absurd (let e : true ≡ false = h in cc)
or-right false y h = h

not-and : (x : Bool) → (not x && x) ≡ false
not-and true = refl
not-and false = refl

-- a byte isn't another one, whichever comes first
differs : (a b : ℕ) → (a == b) ≡ false → (b == a) ≡ false
differs a b h = grind (arith, nat_tests)

-- a byte that isn't among the control bytes is none of them; one that is off is 0
absent : (bytes : List ℕ) (at b : ℕ) → list_any (λ c. c == b) bytes ≡ false → (not (b == 0) && (b == slice_index bytes at)) ≡ false
absent [] at b h = not-and (b == 0)
absent (c ∷ bytes) zero b h = and-false (not (b == 0)) (b == c) (differs c b (or-left (c == b) (list_any (λ c. c == b) bytes) h))
absent (c ∷ bytes) (suc at) b h = absent bytes at b (or-right (c == b) (list_any (λ c. c == b) bytes) h)

or-first : (x y : Bool) → x ≡ true → (x || y) ≡ true
or-first true y h = refl
or-first false y h = absurd (let e : true ≡ false = sym h in cc)

or-second : (x y : Bool) → y ≡ true → (x || y) ≡ true
or-second true y h = refl
or-second false y h = h

or-none : (x y : Bool) → x ≡ false → y ≡ false → (x || y) ≡ false
or-none true y e h = e
or-none false y e h = h

and-swap : (x y : Bool) → (y && x) ≡ false → (x && y) ≡ false
and-swap true true h = h
and-swap true false h = refl
and-swap false y h = refl

-- What a mode rules out is out under that mode, and where a narrower mode asks for it.
ruled-out : (wide hit : Bool) → (wide && hit) ≡ false → wide ≡ true → hit ≡ false
ruled-out true hit none is = none
ruled-out false hit none is = absurd (let e : true ≡ false = sym is in cc)

not-asked : (mode wide hit met : Bool) → (mode ≡ true → wide ≡ true) → (wide && hit) ≡ false → (hit ≡ false → met ≡ false) → (mode && met) ≡ false
not-asked false wide hit met widens none so = refl
not-asked true wide hit met widens none so = so (ruled-out wide hit none (widens refl))

-- none of several cases holds
abbrev NoneHolds : List (Bool × Key) → Type 0
NoneHolds [] = Unit {0}
NoneHolds ((holds, key) ∷ cases) = (holds ≡ false) × NoneHolds cases

first_of-none : (cases : List (Bool × Key)) (otherwise : Key) → NoneHolds cases → first_of cases otherwise ≡ otherwise
first_of-none [] otherwise h = refl
first_of-none ((holds, key) ∷ cases) otherwise h = rw (h.0) (first_of-none cases otherwise h.1)

-- a choice of two equal keys
either : (first : Bool) (key otherwise : Key) → (first ≡ true → key ≡ otherwise) → (if first then key else otherwise) ≡ otherwise
either true key otherwise same = same refl
either false key otherwise same = refl

-- a line end that isn't taken as another one
stays-end : (return newlines icr inl : Bool) (b first second : ℕ) → (icr && return) ≡ false → (inl && newlines) ≡ false
    → (if return then (if icr then first else b) else (if newlines && inl then second else b)) ≡ b
stays-end true newlines true inl b first second one two = absurd (let e : true ≡ false = one in cc)
stays-end true newlines false inl b first second one two = refl
stays-end false true icr true b first second one two = absurd (let e : true ≡ false = two in cc)
stays-end false true icr false b first second one two = refl
stays-end false false icr inl b first second one two = refl

module _ (t : Termios) (b : ℕ) (not_newline : (b == newline) ≡ false) (none : list_any (λ c. c == b) t.control ≡ false) where
  no_char : (key : ControlChar) → is_char t key b ≡ false
  no_char key = absent t.control (place_of key) b none

  under : (mode : Bool) (key : ControlChar) → (mode && is_char t key b) ≡ false
  under mode key = and-false mode (is_char t key b) (no_char key)

  no_end : (b == newline || (is_char t chars.Eol b || is_char t chars.Eol2 b)) ≡ false
  no_end = rw (not_newline, no_char chars.Eol) (no_char chars.Eol2)

  line_key-plain : line_key t b ≡ Ordinary
  line_key-plain = first_of-none (
      (is_char t chars.Eof b, Eof)
      ∷ (is_char t chars.Erase b, Erase)
      ∷ (is_char t chars.Kill b, Kill)
      ∷ (iexten t && is_char t chars.Werase b, Werase)
      ∷ (iexten t && is_char t chars.Reprint b, Reprint)
      ∷ (iexten t && is_char t chars.Lnext b, Lnext)
      ∷ (b == newline || (is_char t chars.Eol b || is_char t chars.Eol2 b), Delimiter)
      ∷ []) Ordinary
      (no_char chars.Eof, (no_char chars.Erase, (no_char chars.Kill, (under (iexten t) chars.Werase, (under (iexten t) chars.Reprint, (under (iexten t) chars.Lnext, (no_end, tt)))))))

module _ (t : Termios) (b : ℕ) (keys : (has_keys t && list_any (λ c. c == b) t.control) ≡ false) (ends : (turns_ends t && (b == newline || b == carriage_return)) ≡ false) where
  abbrev hit : Bool
  hit = list_any (λ c. c == b) t.control

  abbrev end : Bool
  end = b == newline || b == carriage_return

  no_key : (mode : Bool) (key : ControlChar) → (mode ≡ true → has_keys t ≡ true) → (mode && is_char t key b) ≡ false
  no_key mode key widens = not-asked mode (has_keys t) hit (is_char t key b) widens keys (λ none. absent t.control (place_of key) b none)

  flow : ixon t ≡ true → has_keys t ≡ true
  flow is = or-second (icanon t) (isig t || ixon t) (or-second (isig t) (ixon t) is)

  signal : isig t ≡ true → has_keys t ≡ true
  signal is = or-second (icanon t) (isig t || ixon t) (or-first (isig t) (ixon t) is)

  no_return : (mode : Bool) → (mode ≡ true → turns_ends t ≡ true) → (mode && b == carriage_return) ≡ false
  no_return mode widens = not-asked mode (turns_ends t) end (b == carriage_return) widens ends (or-right (b == newline) (b == carriage_return))

  no_newline : (mode : Bool) → (mode ≡ true → turns_ends t ≡ true) → (mode && b == newline) ≡ false
  no_newline mode widens = not-asked mode (turns_ends t) end (b == newline) widens ends (or-left (b == newline) (b == carriage_return))

  abbrev mapped : Bool
  mapped = icrnl t || inlcr t

  ignores : igncr t ≡ true → turns_ends t ≡ true
  ignores is = or-second (icanon t) (igncr t || mapped) (or-first (igncr t) mapped is)

  maps : mapped ≡ true → turns_ends t ≡ true
  maps is = or-second (icanon t) (igncr t || mapped) (or-second (igncr t) mapped is)

  ended-plain : ended t b ≡ b
  ended-plain = stays-end (b == carriage_return) (b == newline) (icrnl t) (inlcr t) b newline carriage_return
      (no_return (icrnl t) (λ is. maps (or-first (icrnl t) (inlcr t) is))) (no_newline (inlcr t) (λ is. maps (or-second (icrnl t) (inlcr t) is)))

  -- in canonical mode it is none of the line's keys
  in_line : icanon t ≡ true → line_key t (ended t b) ≡ Ordinary
  in_line lines =
      let none = ruled-out (has_keys t) hit keys (or-first (icanon t) (isig t || ixon t) lines) in
      let no_end = ruled-out (turns_ends t) end ends (or-first (icanon t) (igncr t || mapped) lines) in
      ap (line_key t) ended-plain ∙ line_key-plain t b (or-left (b == newline) (b == carriage_return) no_end) none

  key_of-plain : key_of t b ≡ Ordinary
  key_of-plain = first_of-none (
      (ixon t && is_char t chars.Stop b, Stop)
      ∷ (ixon t && is_char t chars.Start b, Start)
      ∷ (isig t && is_char t chars.Intr b, Intr)
      ∷ (isig t && is_char t chars.Quit b, Quit)
      ∷ (isig t && is_char t chars.Susp b, Susp)
      ∷ (b == carriage_return && igncr t, Ignored)
      ∷ []) (if icanon t then line_key t (ended t b) else Ordinary) (
        no_key (ixon t) chars.Stop flow,
        (
          no_key (ixon t) chars.Start flow,
          (
            no_key (isig t) chars.Intr signal,
            (
              no_key (isig t) chars.Quit signal,
              (
                no_key (isig t) chars.Susp signal,
                (and-swap (b == carriage_return) (igncr t) (no_return (igncr t) ignores), tt),
              ),
            ),
          ),
        ),
      )
      ∙ either (icanon t) (line_key t (ended t b)) Ordinary in_line

  -- a newline isn't typed in canonical mode
  pub no-line-end : (icanon t && b == newline) ≡ false
  no-line-end = no_newline (icanon t) (or-first (icanon t) (igncr t || mapped))

  -- it is taken as itself
  pub taken_as-plain : taken_as false t b ≡ record { key = Ordinary; byte = b; literal = false }
  taken_as-plain =
      ap (λ (key : Key). let s : Stroke = record { key = key; byte = byte_as key t b; literal = false } in s) key_of-plain
      ∙ ap (λ (byte : ℕ). let s : Stroke = record { key = Ordinary; byte = byte; literal = false } in s) ended-plain

-- the stroke of such a byte
pub stroke_of-plain : (t : Termios) (behind : Bool) (byte near plain : ℕ) (may : Bool) → behind ≡ false → near ≡ stripped t byte → plain ≡ lowered t near
    → may ≡ (plain == newline || (plain == carriage_return || list_any (λ c. c == plain) t.control)) → may ≡ false
    → record { key = Ordinary; byte = plain; literal = false } ≡ stroke_of t behind byte
stroke_of-plain t behind byte near plain may not_behind near_is plain_is may_is not_key =
    let hit = list_any (λ c. c == plain) t.control in
    let no = sym may_is ∙ not_key in
    let rest = or-right (plain == newline) (plain == carriage_return || hit) no in
    let end = or-none (plain == newline) (plain == carriage_return) (or-left (plain == newline) (plain == carriage_return || hit) no) (or-left (plain == carriage_return) hit rest) in
    sym (taken_as-plain t plain
    (and-false (has_keys t) hit (or-right (plain == carriage_return) hit rest))
    (and-false (turns_ends t) (plain == newline || plain == carriage_return) end))
    ∙ ap (λ b. taken_as false t b) (plain_is ∙ ap (lowered t) near_is)
    ∙ ap (λ l. taken_as l t (lowered t (stripped t byte))) (sym not_behind)
