-- A visitor that is told of the blocks of a list measures one message of it.
use Rattle.std.proofs.Common.{ℕ, ◌≡◌, ◌≤◌, ◌<◌, ◌+◌, ◌-◌, ◌^◌, Bool, true, false, cond, List, [], ◌∷◌, ◌++◌, length, map, refl, sym, ap, ◌∙◌, arith}
use Rattle.std.specs.Prelude.{sum_by, min, not, ◌&&◌, ◌||◌, Option, None, Some, unwrap_or}
use Rattle.std.specs.List.{AllByRecursion}
use Rattle.std.proofs.lemmas.List.Sums.{sum_by-cons}
use Rattle.strm_types.specs.Kinds.{is_body_kind}
use Rattle.strm_types.specs.Queue.{first_size}
use Rattle.strm_blocks.specs.Blocks.{Block, StoreValue, IsStore, list_at}
use Rattle.strm_blocks.specs.Outcomes.{SeenBlock, seen_in, seen_on, told}
use Rattle.strm_msg.specs.Bytes.{length_of_part, data_blocks}
use Rattle.strm_msg.specs.Messages.{message_of, IsChain}
use Rattle.strm_msg.proofs.Chains.{bytes-sum, size-shown}
use Rattle.strm_queue.specs.declared.lengths.Measure.{Measure}
use Rattle.strm_queue.specs.Kept.{bytes_of}
use Rattle.strm_queue.specs.Lengths.{counted_blocks, length_on, longer, measured, or_next}
use Rattle.strm_queue.proofs.Bounds.{few-bytes, list-filled}

-- what is measured while it goes on
abbrev measuring : Bool → Bool → Bool → Option ℕ → Measure
measuring only over met found = record { data_only = only; passes_over = over; met = met; more = true; found = found }

abbrev measures : Measure → List SeenBlock → Measure
measures = told measured (λ v. v.more)

-- a length with the bytes of the blocks of a chain that count
abbrev run : Bool → Option ℕ → List Block → Option ℕ
run only found [] = found
run only found (b ∷ chain) = run only (longer only b.kind b.bytes found) chain

module _ (only over : Bool) where
  -- all blocks of a message behind its first one are measured
  rest-run : (found : Option ℕ) (chain : List Block) (more : List SeenBlock) → measures (measuring only over true found) (seen_in false chain ++ more) ≡ measures (measuring only over true (run only found chain)) more
  rest-run found [] more = refl
  rest-run found (b ∷ chain) more = rest-run (longer only b.kind b.bytes found) chain more

  -- the first block of a message ends what is measured, or doesn't
  abbrev first : Bool → Option ℕ → Bool → Block → List SeenBlock → Measure
  first met found ends b more =
      let v = cond ends (record (measuring only over met found) { more = false }) (record (measuring only over met found) { met = true; found = longer only b.kind b.bytes found }) in
      cond v.more (measures v more) v

  ends-not : (m o : Bool) → (m && not o) ≡ false → (m && (not o || false)) ≡ false
  ends-not true true is = refl
  ends-not true false is = absurd (cc)
  ends-not false o is = refl

  -- a message of which the first block doesn't end it is measured
  chain-run : (met : Bool) (chain : List Block) (more : List SeenBlock) → 0 < length chain → (met && not over) ≡ false → measures (measuring only over met None) (seen_in true chain ++ more) ≡ measures (measuring only over true (run only None chain)) more
  chain-run met [] more some none_ahead = absurd (omega arith)
  chain-run met (b ∷ chain) more some none_ahead =
      ap (λ ends. first met None ends b (seen_in false chain ++ more)) (ends-not met over none_ahead)
      ∙ rest-run (longer only b.kind b.bytes None) chain more

  -- another message behind one that has such a block ends it, and so does one behind any where none is passed over
  ends-some : (n : ℕ) (q : List (List Block)) → AllByRecursion (λ chain. 0 < length chain) q → (measures (measuring only over true (Some n)) (seen_on q)).found ≡ Some n
  ends-some n [] all = refl
  ends-some n ([] ∷ q) all = absurd (omega (arith, all.0))
  ends-some n ((b ∷ chain) ∷ q) all = at over
    where
      at : (o : Bool) → (first true (Some n) (not o || true) b (seen_in false chain ++ seen_on q)).found ≡ Some n
      at true = refl
      at false = refl

ends-none : (only : Bool) (q : List (List Block)) → AllByRecursion (λ chain. 0 < length chain) q → (measures (measuring only false true None) (seen_on q)).found ≡ None
ends-none only [] all = refl
ends-none only ([] ∷ q) all = absurd (omega (arith, all.0))
ends-none only ((b ∷ chain) ∷ q) all = refl

-- the bytes of the blocks that count, added up one by one
run-some : (only : Bool) (n : ℕ) (chain : List Block) → n + bytes_of chain ≤ 2 ^ 64 - 1 → run only (Some n) chain ≡ Some (n + bytes_of (counted_blocks only chain))
run-some true n [] few = ap (λ (k : ℕ). Some k) (let e : n ≡ n + 0 = omega arith in e)
run-some false n [] few = ap (λ (k : ℕ). Some k) (let e : n ≡ n + 0 = omega arith in e)
run-some false n (b ∷ chain) few =
    let s = sum_by-cons (λ (x : Block). length x.bytes) b chain in
    let one : min (n + length b.bytes) (2 ^ 64 - 1) ≡ n + length b.bytes = omega (arith, few, s) in
    let all : n + length b.bytes + bytes_of chain ≡ n + bytes_of (b ∷ chain) = omega (arith, s) in
    ap (λ k. run false (Some k) chain) one ∙ run-some false (n + length b.bytes) chain (omega (arith, few, s)) ∙ ap (λ (k : ℕ). Some k) all
run-some true n (b ∷ chain) few = at (is_body_kind b.kind) (λ k fits. run-some true k chain fits)
  where
    at : (is : Bool) → ((k : ℕ) → k + bytes_of chain ≤ 2 ^ 64 - 1 → run true (Some k) chain ≡ Some (k + bytes_of (data_blocks chain))) → run true (cond is (Some (min (n + length b.bytes) (2 ^ 64 - 1))) (Some n)) chain ≡ Some (n + bytes_of (cond is (b ∷ data_blocks chain) (data_blocks chain)))
    at false ih = ih n (omega (arith, few, sum_by-cons (λ (x : Block). length x.bytes) b chain))
    at true ih =
        let s = sum_by-cons (λ (x : Block). length x.bytes) b chain in
        let t = sum_by-cons (λ (x : Block). length x.bytes) b (data_blocks chain) in
        let one : min (n + length b.bytes) (2 ^ 64 - 1) ≡ n + length b.bytes = omega (arith, few, s) in
        let all : n + length b.bytes + bytes_of (data_blocks chain) ≡ n + bytes_of (b ∷ data_blocks chain) = omega (arith, t) in
        ap (λ k. run true (Some k) chain) one ∙ ih (n + length b.bytes) (omega (arith, few, s)) ∙ ap (λ (k : ℕ). Some k) all

-- a part of a message has the bytes of its blocks
part-bytes : (b : Block) (blocks : List Block) → length_of_part (b ∷ blocks) ≡ Some (length b.bytes + bytes_of blocks)
part-bytes b blocks = ap (λ (k : ℕ). Some k) (bytes-sum (b ∷ blocks) ∙ sum_by-cons (λ (x : Block). length x.bytes) b blocks)

run-value : (only : Bool) (chain : List Block) → bytes_of chain ≤ 2 ^ 64 - 1 → run only None chain ≡ length_of_part (counted_blocks only chain)
run-value true [] few = refl
run-value false [] few = refl
run-value false (b ∷ chain) few =
    let s = sum_by-cons (λ (x : Block). length x.bytes) b chain in
    let one : min (0 + length b.bytes) (2 ^ 64 - 1) ≡ length b.bytes = omega (arith, few, s) in
    ap (λ k. run false (Some k) chain) one ∙ run-some false (length b.bytes) chain (omega (arith, few, s)) ∙ sym (part-bytes b chain)
run-value true (b ∷ chain) few = at (is_body_kind b.kind) (λ fits. run-value true chain fits)
  where
    at : (is : Bool) → (bytes_of chain ≤ 2 ^ 64 - 1 → run true None chain ≡ length_of_part (data_blocks chain)) → run true (cond is (Some (min (0 + length b.bytes) (2 ^ 64 - 1))) None) chain ≡ length_of_part (cond is (b ∷ data_blocks chain) (data_blocks chain))
    at false ih = ih (omega (arith, few, sum_by-cons (λ (x : Block). length x.bytes) b chain))
    at true ih =
        let s = sum_by-cons (λ (x : Block). length x.bytes) b chain in
        let one : min (0 + length b.bytes) (2 ^ 64 - 1) ≡ length b.bytes = omega (arith, few, s) in
        ap (λ k. run true (Some k) chain) one ∙ run-some true (length b.bytes) chain (omega (arith, few, s)) ∙ sym (part-bytes b (data_blocks chain))

-- the first message, or the first one that has such a block
measured-list : (only over met : Bool) (q : List (List Block)) → AllByRecursion (λ chain. 0 < length chain) q → sum_by bytes_of q ≤ 2 ^ 64 - 1 → (met && not over) ≡ false
    → (measures (measuring only over met None) (seen_on q)).found ≡ length_on only over q
measured-list only over met [] all few none_ahead = refl
measured-list only over met (chain ∷ q) all few none_ahead =
    let s = sum_by-cons bytes_of chain q in
    ap (λ (v : Measure). v.found) (chain-run only over met chain (seen_on q) all.0 none_ahead)
    ∙ ap (λ found. (measures (measuring only over true found) (seen_on q)).found) (run-value only chain (omega (arith, few, s)))
    ∙ at (length_of_part (counted_blocks only chain)) over refl (λ none_ahead. measured-list only over true q all.1 (omega (arith, few, s)) none_ahead)
  where
    at : (found : Option ℕ) (o : Bool) → over ≡ o → ((true && not over) ≡ false → (measures (measuring only over true None) (seen_on q)).found ≡ length_on only over q) → (measures (measuring only over true found) (seen_on q)).found ≡ or_next over found (length_on only over q)
    at (Some n) o is ih = ends-some only over n q all.1
    at None true is ih =
        ih (ap not is)
        ∙ sym (ap (λ b. or_next b None (length_on only over q)) is)
    at None false is ih =
        ap (λ b. (measures (measuring only b true None) (seen_on q)).found) is ∙ ends-none only q all.1
        ∙ sym (ap (λ b. or_next b None (length_on only over q)) is)

pub measured-on : (s : StoreValue) (k : ℕ) (only over : Bool) → IsStore s → (told measured (λ v. v.more) (measuring only over false None) (seen_on (list_at s k))).found ≡ length_on only over (list_at s k)
measured-on s k only over is =
    measured-list only over false (list_at s k) (list-filled s k is) (omega (arith, few-bytes s is k 0)) refl

-- the size of the first message
pub first-length : (q : List (List Block)) → AllByRecursion IsChain q → unwrap_or (length_on false false q) 0 ≡ first_size (map message_of q)
first-length [] all = refl
first-length ([] ∷ q) all = absurd (omega (arith, all.0.some))
first-length ((b ∷ chain) ∷ q) all = bytes-sum (b ∷ chain) ∙ sym (size-shown (b ∷ chain) all.0)
