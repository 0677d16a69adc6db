-- What is read of the payload of an ioctl message.
use Rattle.strm_frame.proofs.Prelude.{ℕ, ◌≡◌, ◌<◌, ◌≤◌, ◌-◌, min, false, cond, List, [], ◌∷◌, length, take, drop, refl, sym, ap, ◌∙◌, arith, inl, inr}
use Rattle.strm_frame.proofs.Prelude.{◌==◌, Option, None, Some, cases_eq, nat_tests, drop-take, length-take, take_all}
use Rattle.strm_frame.specs.Prelude.{word_at, filled}
use Rattle.std.proofs.lemmas.Bool.{cases_lt}
use Rattle.std.proofs.lemmas.List.{drop_all, length-drop, length-take-le}
use Rattle.strm_types.specs.declared.termios.Termios.{Termios}
use Rattle.strm_types.specs.declared.winsize.Winsize.{Winsize}
use Rattle.strm_types.specs.Signals.{signal_in}
use Rattle.strm_types.specs.Winsizes.{half_at}
use Rattle.strm_frame.proofs.Read.{first-of}

-- of 52 bytes that were read, those behind the header; none are behind it where no more than 16 were read
pub behind-first : (buffer bytes : List ℕ) (count : ℕ) → length buffer ≡ 52 → count ≡ min (length buffer) (length bytes) → drop 16 (take count (filled buffer bytes)) ≡ take 36 (drop 16 bytes)
behind-first buffer bytes count long is =
    ap (λ xs. drop 16 xs) (first-of buffer bytes count is ∙ ap (λ n. take n bytes) long) ∙ drop-take 16 36 bytes

pub none-behind : (bytes : List ℕ) (count : ℕ) → count ≡ min 52 (length bytes) → count ≤ 16 → take 36 (drop 16 bytes) ≡ []
none-behind bytes count is few = ap (λ xs. take 36 xs) (drop_all 16 bytes (omega arith))

pub rest-all : (n : ℕ) (xs : List ℕ) → take (length xs - n) (drop n xs) ≡ drop n xs
rest-all n xs = take_all (length xs - n) (drop n xs) (omega (arith, length-drop n xs))

module _ {A : Type 0} (read : List ℕ → Option A) where
  -- what is read of so many bytes alone
  abbrev pub read_of : ℕ → List ℕ → Option A
  read_of k bytes = cond (length bytes == k) (read bytes) None

  other-length : (k : ℕ) (bytes : List ℕ) → k < length bytes → read_of k bytes ≡ None
  other-length k bytes longer =
      let no : (length bytes == k) ≡ false = grind (arith, nat_tests) in
      ap (λ b. cond b (read bytes) None) no

  -- the first bytes tell it, where they are more than those
  pub first-tell : (k n : ℕ) (bytes : List ℕ) → k < n → read_of k (take n bytes) ≡ read_of k bytes
  first-tell k n bytes less = elim (cases_lt n (length bytes)) [
    | inl more ↦ (let long = length-take-le n bytes (omega arith) in other-length k (take n bytes) (omega arith) ∙ sym (other-length k bytes (omega arith)))
    | inr le ↦ ap (λ xs. read_of k xs) (take_all n bytes le)
  ]

  -- where they say something, they are all, and just so many
  pub so-many : (k : ℕ) (bytes : List ℕ) (v : A) → read_of k bytes ≡ Some v → length bytes ≡ k
  so-many k bytes v is = elim (cases_eq (length bytes) k) [
    | inl e ↦ e
    | inr ne ↦ (let no : (length bytes == k) ≡ false = grind (arith, nat_tests) in let none = ap (λ b. cond b (read bytes) None) no in absurd (cc))
  ]

  pub all-said : (k n : ℕ) (bytes : List ℕ) (v : A) → k < n → read_of k (take n bytes) ≡ Some v → take n bytes ≡ bytes
  all-said k n bytes v less is =
      let long = so-many k (take n bytes) v is in
      let some = length-take n bytes in
      take_all n bytes (omega arith)

-- a signal is one byte
pub signal-first : (bytes : List ℕ) → signal_in (take 36 bytes) ≡ signal_in bytes
signal-first [] = refl
signal-first (a ∷ []) = refl
signal-first (a ∷ b ∷ bytes) = refl

-- what a termios of 35 bytes says, and a window of 8
abbrev pub termios_read : List ℕ → Option Termios
termios_read bytes = Some (record { iflag = record { 0 = word_at 0 bytes }; oflag = record { 0 = word_at 4 bytes }; cflag = word_at 8 bytes; lflag = record { 0 = word_at 12 bytes }; control = drop 16 bytes })

abbrev pub window_read : List ℕ → Option Winsize
window_read bytes = Some (record { rows = half_at 0 bytes; columns = half_at 2 bytes; x_pixels = half_at 4 bytes; y_pixels = half_at 6 bytes })
