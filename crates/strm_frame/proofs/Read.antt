-- What is read of a message's first bytes.
use Rattle.strm_frame.proofs.Prelude.{ℕ, ◌≡◌, ◌≤◌, ◌+◌, min, Bool, cond, List, [], ◌∷◌, length, take, drop, refl, sym, ap, ◌∙◌, arith, Option, None}
use Rattle.strm_frame.proofs.Prelude.{Some, nat_tests, length-take, drop-take}
use Rattle.strm_frame.specs.Prelude.{read_ioc, word_at, filled}
use Rattle.std.specs.Int.{w32, from_be_bytes}
use Rattle.std.specs.Prelude.{nat_le}
use Rattle.std.proofs.lemmas.List.{take_min, take-take}
use Rattle.strm_types.specs.declared.ioctls.Ioc.{Ioc}
use Rattle.strm_types.specs.Flushing.{asked_by}
use Rattle.strm_msg.proofs.Gathering.{filled-first}

-- as many bytes of a buffer as a message has put there
pub first-of : (buffer bytes : List ℕ) (count : ℕ) → count ≡ min (length buffer) (length bytes) → take count (filled buffer bytes) ≡ take (length buffer) bytes
first-of buffer bytes count is = filled-first buffer bytes count (omega arith) (omega arith) ∙ ap (λ k. take k bytes) is ∙ take_min (length buffer) bytes

-- the first two bytes of an M_FLUSH say what it asks for
pub asked-first : (bytes : List ℕ) → asked_by (take 2 bytes) ≡ asked_by bytes
asked-first [] = refl
asked-first (a ∷ []) = refl
asked-first (a ∷ b ∷ bytes) = refl

-- and the first 16 of an ioctl are its header
word-first : (at k : ℕ) (bytes : List ℕ) → at + k ≡ 16 → 4 ≤ k → word_at at (take 16 bytes) ≡ word_at at bytes
word-first at k bytes all few = ap (λ xs. from_be_bytes w32 xs) (ap (λ n. take 4 (drop at (take n bytes))) (sym all) ∙ ap (λ xs. take 4 xs) (drop-take at k bytes) ∙ take-take 4 k (drop at bytes) few)

enough-first : (n : ℕ) → nat_le 16 (min 16 n) ≡ nat_le 16 n
enough-first n = grind (arith, nat_tests)

header-same : (t t' : Bool) (a a' b b' c c' d d' : ℕ) → t ≡ t' → a ≡ a' → b ≡ b' → c ≡ c' → d ≡ d' →
    cond {A = Option Ioc} t (Some (record { command = a; number = b; error = c; result = d })) None ≡ cond t' (Some (record { command = a'; number = b'; error = c'; result = d' })) None
header-same t t' a a' b b' c c' d d' te ae be ce de = rw (te, ae, be, ce, de) refl

pub ioc-first : (bytes : List ℕ) → read_ioc (take 16 bytes) ≡ read_ioc bytes
ioc-first bytes =
    header-same _ _ _ _ _ _ _ _ _ _ (ap (λ n. nat_le 16 n) (length-take 16 bytes) ∙ enough-first (length bytes))
    (word-first 0 16 bytes refl (omega arith)) (word-first 4 12 bytes refl (omega arith)) (word-first 8 8 bytes refl (omega arith)) (word-first 12 4 bytes refl (omega arith))
