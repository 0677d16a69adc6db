-- The size of a terminal's window (termio(7I): TIOCGWINSZ, TIOCSWINSZ; sys/termios.h: struct winsize): 8 bytes, which are four numbers
-- of 16 bits, the most significant byte first.
use Rattle.std.specs.Prelude.{ℕ, Bool, ◌==◌, ◌&&◌, if◌then◌else◌, List, ◌++◌, length, take, drop, Option, None, Some}
use Rattle.std.specs.Int.{w16, from_be_bytes, to_be_bytes}
use Rattle.strm_types.specs.declared.winsize.Winsize.{Winsize}

-- the two bytes of a number, and the number that stands so many bytes on
abbrev pub half_bytes : ℕ → List ℕ
half_bytes n = to_be_bytes w16 n

abbrev pub half_at : ℕ → List ℕ → ℕ
half_at at bytes = from_be_bytes w16 (take 2 (drop at bytes))

-- the 8 bytes: rows, columns, and the width and the height in pixels
abbrev pub winsize_bytes : Winsize → List ℕ
winsize_bytes w = half_bytes w.rows ++ (half_bytes w.columns ++ (half_bytes w.x_pixels ++ half_bytes w.y_pixels))

-- what 8 bytes say; none where there are fewer or more
abbrev pub read_winsize : List ℕ → Option Winsize
read_winsize bytes =
    if length bytes == 8
    then Some (record { rows = half_at 0 bytes; columns = half_at 2 bytes; x_pixels = half_at 4 bytes; y_pixels = half_at 6 bytes })
    else None

-- a window has no size at first
abbrev pub first_winsize : Winsize
first_winsize = record { rows = 0; columns = 0; x_pixels = 0; y_pixels = 0 }

-- whether two sizes are one
abbrev pub same_winsize : Winsize → Winsize → Bool
same_winsize v w = v.rows == w.rows && (v.columns == w.columns && (v.x_pixels == w.x_pixels && v.y_pixels == w.y_pixels))
