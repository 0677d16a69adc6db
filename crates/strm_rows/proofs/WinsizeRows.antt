-- The size of a window, as worked out by hand from termio(7I): its 8 bytes, and which sizes are one.
use Rattle.strm_rows.proofs.Prelude.{ℕ, ◌≡◌, true, false, [], ◌∷◌, map, refl, replicate, None, Some}
use Rattle.strm_types.specs.declared.winsize.Winsize.{Winsize}
use Rattle.strm_types.specs.Winsizes.{first_winsize, read_winsize, same_winsize, winsize_bytes}

abbrev pub window : ℕ → ℕ → ℕ → ℕ → Winsize
window rows columns x_pixels y_pixels = record { rows = rows; columns = columns; x_pixels = x_pixels; y_pixels = y_pixels }

pub no-size-at-first : first_winsize ≡ window 0 0 0 0
no-size-at-first = refl

abbrev sample : Winsize
sample = window 0x0102 0x0304 0x0506 0x0708

pub bytes-are-made : map winsize_bytes (sample ∷ window 24 80 0 0 ∷ window 65535 0 0 65535 ∷ [])
    ≡ (1 ∷ 2 ∷ 3 ∷ 4 ∷ 5 ∷ 6 ∷ 7 ∷ 8 ∷ []) ∷ (0 ∷ 24 ∷ 0 ∷ 80 ∷ 0 ∷ 0 ∷ 0 ∷ 0 ∷ []) ∷ (255 ∷ 255 ∷ 0 ∷ 0 ∷ 0 ∷ 0 ∷ 255 ∷ 255 ∷ []) ∷ []
bytes-are-made = refl

pub bytes-are-read : map read_winsize ((1 ∷ 2 ∷ 3 ∷ 4 ∷ 5 ∷ 6 ∷ 7 ∷ 8 ∷ []) ∷ replicate 8 255 ∷ []) ≡ Some sample ∷ Some (window 65535 65535 65535 65535) ∷ []
bytes-are-read = refl

pub other-lengths-are-none : map (λ n. read_winsize (replicate n 0)) (0 ∷ 1 ∷ 7 ∷ 9 ∷ 16 ∷ []) ≡ replicate 5 None
other-lengths-are-none = refl

-- a size is one with itself alone: each of the four numbers tells
pub sizes-that-differ : map (same_winsize sample) (sample ∷ window 0x0102 0x0304 0x0506 0x0709 ∷ window 0x0102 0x0304 0x0507 0x0708 ∷ window 0x0102 0x0305 0x0506 0x0708 ∷ window 0x0103 0x0304 0x0506 0x0708 ∷ [])
    ≡ true ∷ replicate 4 false
sizes-that-differ = refl
