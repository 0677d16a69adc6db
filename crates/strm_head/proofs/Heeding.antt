-- What is read of the first bytes of a message that says something to a head.
use Rattle.strm_head.proofs.Prelude.{ℕ, ◌≡◌, ◌≤◌, ◌+◌, ◌-◌, min, Bool, cond, List, [], ◌∷◌, length, take, drop, refl, sym, ap, ◌∙◌, arith, nat_le}
use Rattle.strm_head.proofs.Prelude.{◌==◌, Option, None, nat_tests, length-take, length-drop, take_all}
use Rattle.strm_head.specs.Prelude.{Ioc, ReadMode, options_in, PlainSlot, slot_answered, filled}
use Rattle.std.specs.Int.{w32, from_be_bytes}
use Rattle.std.specs.Prelude.{Some}
use Rattle.std.proofs.lemmas.List.{take_min, drop-take, take-take}
use Rattle.strm_types.specs.Ioctls.{read_ioc, word_at}
use Rattle.strm_types.specs.declared.options.Marks.{Marks}
use Rattle.strm_types.specs.declared.options.Options.{Options}
use Rattle.strm_types.specs.declared.slots.Slot.TheVariants as slots
use Rattle.strm_types.specs.Options.{are_marks, marks_in, mode_numbered, nothing_set, tostop_in, with_tostop}
use Rattle.strm_types.specs.Slots.{answer_body, slot_told, with_answer}
use Rattle.strm_msg.proofs.Gathering.{filled-first}

-- as many bytes of a buffer as a message has put there
pub first-of : (buffer bytes : List ℕ) (count : ℕ) → count ≡ min (length buffer) (length bytes) → take count (filled buffer bytes) ≡ take (length buffer) bytes
first-of buffer bytes count is = filled-first buffer bytes count (omega arith) (omega arith) ∙ ap (λ k. take k bytes) is ∙ take_min (length buffer) bytes

-- a number that stands within the first bytes
word-first : (n at k : ℕ) (bytes : List ℕ) → at + k ≡ n → 4 ≤ k → word_at at (take n bytes) ≡ word_at at bytes
word-first n at k bytes all few = ap (λ xs. from_be_bytes w32 xs) (ap (λ m. take 4 (drop at (take m bytes))) (sym all) ∙ ap (λ xs. take 4 xs) (drop-take at k bytes) ∙ take-take 4 k (drop at bytes) few)

enough-first : (n len : ℕ) → 16 ≤ n → nat_le 16 (min n len) ≡ nat_le 16 len
enough-first n len few = grind (arith, nat_tests)

header-same : (t t' : Bool) (a a' b b' c c' d d' : ℕ) → t ≡ t' → a ≡ a' → b ≡ b' → c ≡ c' → d ≡ d' →
    cond {A = Option Ioc} t (Some (record { command = a; number = b; error = c; result = d })) None ≡ cond t' (Some (record { command = a'; number = b'; error = c'; result = d' })) None
header-same t t' a a' b b' c c' d d' te ae be ce de = rw (te, ae, be, ce, de) refl

-- the header of an ioctl message, by its first 16 bytes or more
ioc-first : (n : ℕ) (bytes : List ℕ) → 16 ≤ n → read_ioc (take n bytes) ≡ read_ioc bytes
ioc-first n bytes few =
    header-same _ _ _ _ _ _ _ _ _ _ (ap (λ len. nat_le 16 len) (length-take n bytes) ∙ enough-first n (length bytes) few)
    (word-first n 0 n bytes (omega arith) (omega arith)) (word-first n 4 (n - 4) bytes (omega arith) (omega arith)) (word-first n 8 (n - 8) bytes (omega arith) (omega arith)) (word-first n 12 (n - 12) bytes (omega arith) (omega arith))

-- as many bytes behind the header as there is room for
pub body-first : (bytes : List ℕ) (n : ℕ) → n ≡ min (length (take (length bytes - 16) (drop 16 bytes))) 256 → take n (take (length bytes - 16) (drop 16 bytes)) ≡ answer_body bytes
body-first bytes n is =
    let whole : take (length bytes - 16) (drop 16 bytes) ≡ drop 16 bytes = take_all (length bytes - 16) (drop 16 bytes) (omega (arith, length-drop 16 bytes)) in
    let few : n ≡ min 256 (length (drop 16 bytes)) = omega (arith, is, ap length whole) in
    ap (λ xs. take n xs) whole ∙ ap (λ k. take k (drop 16 bytes)) few ∙ take_min 256 (drop 16 bytes)

-- the answer of an ioctl, by its first 272 bytes
behind-first : (bytes : List ℕ) → answer_body (take 272 bytes) ≡ answer_body bytes
behind-first bytes = ap (λ xs. take 256 xs) (drop-take 16 256 bytes) ∙ take-take 256 256 (drop 16 bytes) (omega arith)

answer-same : (is_ack : Bool) (number command : ℕ) (ioc : Ioc) (bytes : List ℕ) → with_answer is_ack number command ioc (take 272 bytes) ≡ with_answer is_ack number command ioc bytes
answer-same is_ack number command ioc bytes = ap (λ xs. slots.Answered number command is_ack ioc.error xs) (behind-first bytes)

told-same : (is_ack : Bool) (known : Option Ioc) (bytes : List ℕ) (slot : PlainSlot) → slot_told is_ack known (take 272 bytes) slot ≡ slot_told is_ack known bytes slot
told-same is_ack None bytes slot = refl
told-same is_ack (Some ioc) bytes slots.Free = refl
told-same is_ack (Some ioc) bytes (slots.Waiting number command) =
    ap (λ (after : PlainSlot). cond (ioc.number == number) after (slots.Waiting number command)) (answer-same is_ack number command ioc bytes)
told-same is_ack (Some ioc) bytes (slots.Answered number command acked error body) = refl

pub answered-first : (is_ack : Bool) (bytes : List ℕ) (slot : PlainSlot) → slot_answered is_ack (take 272 bytes) slot ≡ slot_answered is_ack bytes slot
answered-first is_ack bytes slot =
    ap (λ known. slot_told is_ack known (take 272 bytes) slot) (ioc-first 272 bytes (omega arith)) ∙ told-same is_ack (read_ioc bytes) bytes slot

-- options, by the first ten bytes
marks-same : (h h' l l' : ℕ) → h ≡ h' → l ≡ l' → cond {A = Option Marks} (are_marks h l) (Some (record { high = h; low = l })) None ≡ cond (are_marks h' l') (Some (record { high = h'; low = l' })) None
marks-same h h' l l' he le = rw (he, le) refl

marks-first : (rest : List ℕ) → marks_in (take 9 rest) ≡ marks_in rest
marks-first rest = marks-same _ _ _ _ (word-first 9 0 9 rest (omega arith) (omega arith)) (word-first 9 4 5 rest (omega arith) (omega arith))

tostop-first : (rest : List ℕ) → tostop_in (take 9 rest) ≡ tostop_in rest
tostop-first [] = refl
tostop-first (number ∷ rest) = refl

options-same : (mode : Option ReadMode) (n n' : ℕ) (tostop tostop' : Option Bool) (marks marks' : Option Marks) → n ≡ min 9 n' → tostop ≡ tostop' → marks ≡ marks' →
    cond {A = Options} (n == 0) (record { mode = mode; tostop = None; marks = None }) (cond (n == 1) (with_tostop mode tostop) (cond (n == 8) (record { mode = mode; tostop = None; marks = marks }) nothing_set))
    ≡ cond (n' == 0) (record { mode = mode; tostop = None; marks = None }) (cond (n' == 1) (with_tostop mode tostop') (cond (n' == 8) (record { mode = mode; tostop = None; marks = marks' }) nothing_set))
options-same mode n n' tostop tostop' marks marks' few stops same =
    let none : (n == 0) ≡ (n' == 0) = grind (arith, nat_tests) in
    let one : (n == 1) ≡ (n' == 1) = grind (arith, nat_tests) in
    let eight : (n == 8) ≡ (n' == 8) = grind (arith, nat_tests) in
    rw (none, one, eight, stops, same) refl

pub options-first : (bytes : List ℕ) → options_in (take 10 bytes) ≡ options_in bytes
options-first [] = refl
options-first (mode ∷ rest) = options-same (mode_numbered mode) _ _ _ _ _ _ (length-take 9 rest) (tostop-first rest) (marks-first rest)
