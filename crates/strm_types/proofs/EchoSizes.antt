-- No key has an echo of more than 6120 bytes: KILL rubs out 255 bytes of 8 columns at most, by three bytes a column.
use Rattle.std.proofs.Common.{ℕ, zero, suc, ◌≡◌, ◌+◌, ◌-◌, ◌*◌, ◌%◌, ◌≤◌, Bool, true, false, not, List, [], ◌∷◌, length, length-append, refl, arith}
use Rattle.std.specs.Prelude.{◌==◌, ◌&&◌, flat_map, if◌then◌else◌}
use Rattle.strm_types.specs.declared.keys.Key.{Key}
use Rattle.strm_types.specs.declared.keys.Key.TheVariants.{Stop, Start, Intr, Quit, Susp, Ignored, Eof, Erase, Kill, Werase, Reprint, Lnext, Delimiter, Ordinary}
use Rattle.strm_types.specs.declared.keys.Stroke.{Stroke}
use Rattle.strm_types.specs.declared.termios.Termios.{Termios}
use Rattle.strm_types.specs.Echo.{column_from, columns, echo_by, echo_byte, erase_echo, is_control, kill_echo, ordinary_echo, reprint_echo, rub_out, shown_control, tab, typed_echo, under_echo, width_at}
use Rattle.strm_types.specs.Keys.{newline}
use Rattle.strm_types.specs.Lines.{has_room}
use Rattle.strm_types.specs.Termios.{echo, echoctl, echoe, echok, echoke, icanon, imaxbel}

-- three bytes rub out a column
pub length-rub_out : (columns : ℕ) → length (rub_out columns) ≡ 3 * columns
length-rub_out zero = refl
length-rub_out (suc columns) = let less = length-rub_out columns in omega arith

-- a choice of two lists that are short, and of two numbers that are small
few-either : (first : Bool) (this that : List ℕ) (n : ℕ) → length this ≤ n → length that ≤ n → length (if first then this else that) ≤ n
few-either true this that n few few' = few
few-either false this that n few few' = few'

small-either : (first : Bool) (this that n : ℕ) → this ≤ n → that ≤ n → (if first then this else that) ≤ n
small-either true this that n small small' = small
small-either false this that n small small' = small'

module _ (t : Termios) where
  width_at-few : (column b : ℕ) → width_at t column b ≤ 8
  width_at-few column b =
      small-either (b == tab) (8 - column % 8) _ 8 (omega arith)
      (small-either (is_control b) _ 1 8 (small-either (echoctl t) 2 0 8 (omega arith) (omega arith)) (omega arith))

  column_from-few : (from : ℕ) (line : List ℕ) → column_from t from line ≤ from + 8 * length line
  column_from-few from [] = omega arith
  column_from-few from (b ∷ line) =
      let more = column_from-few (from + width_at t from b) line in
      let wide = width_at-few from b in
      omega arith

  echo_byte-few : (b : ℕ) → length (echo_byte t b) ≤ 2
  echo_byte-few b = few-either (is_control b && (not (b == tab) && echoctl t)) (94 ∷ shown_control b ∷ []) (b ∷ []) 2 (omega arith) (omega arith)

  shown-few : (line : List ℕ) → length (flat_map (echo_byte t) line) ≤ 2 * length line
  shown-few [] = omega arith
  shown-few (b ∷ line) =
      let one = echo_byte-few b in
      let more = shown-few line in
      let both = length-append (echo_byte t b) (flat_map (echo_byte t) line) in
      omega arith

  -- what is rubbed out of a line
  rubbed-few : (line : List ℕ) (columns : ℕ) → length line ≤ 255 → columns ≤ column_from t 0 line → length (rub_out columns) ≤ 6120
  rubbed-few line columns few within =
      let all = column_from-few 0 line in
      let three = length-rub_out columns in
      omega arith

  erase_echo-few : (before after : List ℕ) (b : ℕ) → length before ≤ 255 → length (erase_echo t before after b) ≤ 6120
  erase_echo-few before after b few =
      let one = echo_byte-few b in
      few-either (echoe t) (rub_out (columns t before - columns t after)) _ 6120 (rubbed-few before (columns t before - columns t after) few (omega arith))
      (few-either (length after == length before) [] (echo_byte t b) 6120 (omega arith) (omega arith))

  kill_echo-few : (before : List ℕ) (b : ℕ) → length before ≤ 255 → length (kill_echo t before b) ≤ 6120
  kill_echo-few before b few =
      let one = echo_byte-few b in
      let end : length (if echok t then newline ∷ [] else []) ≤ 1 = few-either (echok t) (newline ∷ []) [] 1 (omega arith) (omega arith) in
      let both = length-append (echo_byte t b) (if echok t then newline ∷ [] else []) in
      few-either (echoke t) (rub_out (columns t before)) _ 6120 (rubbed-few before (columns t before) few (omega arith)) (omega arith)

  reprint_echo-few : (before : List ℕ) (b : ℕ) → length before ≤ 255 → length (reprint_echo t before b) ≤ 6120
  reprint_echo-few before b few =
      let one = echo_byte-few b in
      let line = shown-few before in
      let both = length-append (echo_byte t b) (newline ∷ flat_map (echo_byte t) before) in
      omega arith

  under_echo-few : (bytes : List ℕ) → length bytes ≤ 6120 → length (under_echo t bytes) ≤ 6120
  under_echo-few bytes few = few-either (echo t) bytes [] 6120 few (omega arith)

  shown_key-few : (b : ℕ) → length (under_echo t (echo_byte t b)) ≤ 6120
  shown_key-few b = let one = echo_byte-few b in under_echo-few (echo_byte t b) (omega arith)

  typed_echo-few : (stroke : Stroke) → length (typed_echo t stroke) ≤ 6120
  typed_echo-few stroke =
      few-either (stroke.byte == newline && not stroke.literal) _ _ 6120 (few-either _ (newline ∷ []) [] 6120 (omega arith) (omega arith)) (shown_key-few stroke.byte)

  ordinary_echo-few : (before : List ℕ) (stroke : Stroke) → length (ordinary_echo t before stroke) ≤ 6120
  ordinary_echo-few before stroke =
      few-either (icanon t && not (has_room before)) _ _ 6120 (few-either (imaxbel t) (7 ∷ []) [] 6120 (omega arith) (omega arith)) (typed_echo-few stroke)

  pub echo-few : (key : Key) (before after : List ℕ) (stroke : Stroke) → length before ≤ 255 → length (echo_by key t before after stroke) ≤ 6120
  echo-few Intr before after stroke few = shown_key-few stroke.byte
  echo-few Quit before after stroke few = shown_key-few stroke.byte
  echo-few Susp before after stroke few = shown_key-few stroke.byte
  echo-few Erase before after stroke few = under_echo-few (erase_echo t before after stroke.byte) (erase_echo-few before after stroke.byte few)
  echo-few Werase before after stroke few = under_echo-few (erase_echo t before after stroke.byte) (erase_echo-few before after stroke.byte few)
  echo-few Kill before after stroke few = under_echo-few (kill_echo t before stroke.byte) (kill_echo-few before stroke.byte few)
  echo-few Reprint before after stroke few = under_echo-few (reprint_echo t before stroke.byte) (reprint_echo-few before stroke.byte few)
  echo-few Delimiter before after stroke few = typed_echo-few stroke
  echo-few Ordinary before after stroke few = ordinary_echo-few before stroke
  echo-few Stop before after stroke few = omega arith
  echo-few Start before after stroke few = omega arith
  echo-few Ignored before after stroke few = omega arith
  echo-few Eof before after stroke few = omega arith
  echo-few Lnext before after stroke few = omega arith
