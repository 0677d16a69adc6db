-- A message whose first bytes were joined in a block that was hung in front of it.
use Rattle.std.proofs.Common.{ℕ, zero, suc, ℤ, pos, negsuc, ◌≡◌, ◌≢◌, ◌≤◌, ◌-◌, Bool, true, false, cond, List, [], ◌∷◌, ◌++◌, length, take, drop, None, Some, refl, sym, ap, ◌∙◌, arith, append_assoc}
use Rattle.std.specs.Prelude.{nat_le, ◌==◌, ◌||◌}
use Rattle.std.proofs.lemmas.Bool.Decides.{nat_tests}
use Rattle.std.proofs.lemmas.List.{length-append, length-take-le, take-append-le, take-append-drop, drop_all}
use Rattle.strm_types.specs.declared.refusals.Refusal.TheVariants.{Erange, Enosr}
use Rattle.strm_types.specs.Refused.{or_else, unless}
use Rattle.strm_blocks.specs.Blocks.{Block, StoreValue, IsInHand, IsFreshName, block_at, in_hand, held, dropped, changed, times_in, without, free_m, free_d, copy_of, trimmed_head}
use Rattle.strm_blocks.specs.Outcomes.{Copied}
use Rattle.strm_msg.specs.Bytes.{bytes_of, control_bytes, data_bytes}
use Rattle.strm_msg.specs.Made.{piece}
use Rattle.strm_msg.specs.Runs.{front_run}
use Rattle.strm_msg.specs.Pulled.{run_bytes, blocks_left, without_joined, asked_of, count_refusal, block_refusal, pull_refusal, joined, pulled, PulledUp}
use Rattle.strm_msg.proofs.Dropping.{run-parts}
use Rattle.strm_msg.proofs.AdjustingBytes.{bytes-append}
use Rattle.strm_msg.proofs.Hands.{other-name, held-is, held-chain, held-apart, stays-chain, held-changed}
use Rattle.strm_msg.proofs.InHand.{fresh-dropped}
use Rattle.strm_msg.proofs.PulledParts.{pulled-control, pulled-body}
use Rattle.strm_msg.proofs.Taking.{drop-append}

-- no more bytes than there are are joined
pub asked-within : (n : ℤ) (size count : ℕ) → asked_of n size ≡ Some count → count ≤ size
asked-within (pos n) size count is =
    let by : (v : Bool) → nat_le n size ≡ v → cond v (Some n) None ≡ Some count → count ≤ size =
    λ v. elim v as (λ w. nat_le n size ≡ w → cond w (Some n) None ≡ Some count → count ≤ size) [
      | true ↦ (λ le e. (let same : n ≡ count = cc in grind (arith, nat_tests)))
      | false ↦ (λ le e. absurd cc)
    ] in
    by (nat_le n size) refl is
asked-within (negsuc zero) size count is = let same : size ≡ count = cc in omega arith
asked-within (negsuc (suc n)) size count is = absurd cc

-- the run is a part of the message
pub run-whole : (chain : List Block) → run_bytes chain ++ bytes_of (drop (length (front_run chain)) chain) ≡ bytes_of chain
run-whole chain =
    sym (bytes-append (front_run chain) (drop (length (front_run chain)) chain)) ∙ ap (λ xs. bytes_of xs) (run-parts (block_at 0 chain).kind chain)

pub run-within : (chain : List Block) → length (run_bytes chain) ≤ length (bytes_of chain)
run-within chain =
    let whole = ap (λ xs. length xs) (run-whole chain) in
    let both = length-append (run_bytes chain) (bytes_of (drop (length (front_run chain)) chain)) in
    omega arith

pub asked-enough : (n : ℤ) (chain : List Block) {size : ℕ} (count : ℕ) → size ≡ length (run_bytes chain) → asked_of n size ≡ Some count → count ≤ length (run_bytes chain)
asked-enough n chain {size} count size_is is = let within = asked-within n size count is in omega arith

-- the bytes that are left
left-bytes : (n : ℕ) (run : List Block) → bytes_of (blocks_left n run) ≡ drop n (bytes_of run)
left-bytes n [] = sym (drop_all n [] (omega arith))
left-bytes n (b ∷ run) =
    let split = drop-append n b.bytes (bytes_of run) in
    let by : (v : Bool) → nat_le (length b.bytes) n ≡ v → bytes_of (cond v (blocks_left (n - length b.bytes) run) (trimmed_head n b ∷ run)) ≡ drop n (b.bytes ++ bytes_of run) =
    λ v. elim v as (λ w. nat_le (length b.bytes) n ≡ w → bytes_of (cond w (blocks_left (n - length b.bytes) run) (trimmed_head n b ∷ run)) ≡ drop n (b.bytes ++ bytes_of run)) [
      | true ↦ (λ e. (let le : length b.bytes ≤ n = grind (arith, nat_tests) in left-bytes (n - length b.bytes) run ∙ sym (ap (λ xs. xs ++ drop (n - length b.bytes) (bytes_of run)) (drop_all n b.bytes le)) ∙ sym split))
      | false ↦ (λ e. (let none : 0 ≡ n - length b.bytes = grind (arith, nat_tests) in ap (λ k. drop n b.bytes ++ drop k (bytes_of run)) none ∙ sym split))
    ] in
    by (nat_le (length b.bytes) n) refl

-- the same bytes are shown
pub pulled-shown : (number count : ℕ) (chain : List Block) → bytes_of (pulled number count chain) ≡ bytes_of chain
pulled-shown number count chain =
    let rest = drop (length (front_run chain)) chain in
    ap (λ xs. take count (run_bytes chain) ++ xs) (bytes-append (blocks_left count (front_run chain)) rest ∙ ap (λ xs. xs ++ bytes_of rest) (left-bytes count (front_run chain))) ∙ sym (append_assoc (take count (run_bytes chain)) (drop count (run_bytes chain)) (bytes_of rest)) ∙ ap (λ xs. xs ++ bytes_of rest) (take-append-drop count (run_bytes chain)) ∙ run-whole chain

-- the new block in front of the message
module _ {s s1 s2 : StoreValue} (i count : ℕ) {j w : ℕ} (is : IsInHand s i) (made : Copied s s1 j (piece (block_at 0 (in_hand s i)).kind (block_at 0 (in_hand s i)).band (take count (bytes_of (in_hand s i))))) (kept : w ≡ j) (linked : s2 ≡ changed (dropped s1 i) j (in_hand s1 j ++ in_hand s1 i)) where
  abbrev copy : Block
  copy = copy_of made.number (piece (block_at 0 (in_hand s i)).kind (block_at 0 (in_hand s i)).band (take count (bytes_of (in_hand s i))))

  abbrev base : StoreValue
  base = dropped s i

  apart : j ≢ i
  apart = held-apart s j (copy ∷ []) i made.fresh_name is

  whole : s2 ≡ held base j (copy ∷ in_hand s i)
  whole =
      let t = held s j (copy ∷ []) in
      let new : in_hand t j ≡ copy ∷ [] = held-chain s j (copy ∷ []) in
      let old : in_hand t i ≡ in_hand s i = stays-chain s j (copy ∷ []) i apart in
      let gone : dropped t i ≡ held base j (copy ∷ []) = ap (λ v. record s { hand = cond v s.hand (record { name = j; chain = copy ∷ [] } ∷ without i s.hand) }) (other-name j i apart) in
      linked ∙ ap (λ u. changed (dropped u i) j (in_hand u j ++ in_hand u i)) made.after ∙ ap (λ xs. changed (dropped t i) j (xs ++ in_hand t i)) new ∙ ap (λ xs. changed (dropped t i) j (copy ∷ xs)) old ∙ ap (λ u. changed u j (copy ∷ in_hand s i)) gone ∙ held-changed base j (copy ∷ []) (copy ∷ in_hand s i)

  fresh : IsFreshName base j
  fresh = fresh-dropped s i j made.fresh_name

  pub joined-in_hand : IsInHand s2 w
  joined-in_hand = ap (λ k. times_in k s2.hand) kept ∙ ap (λ t. times_in j t.hand) whole ∙ held-is base j (copy ∷ in_hand s i) fresh

  module _ (n : ℤ) {size : ℕ} (size_is : size ≡ length (run_bytes (in_hand s i))) (asked : asked_of n size ≡ Some count) (few : count ≤ 256) where
    enough : count ≤ length (run_bytes (in_hand s i))
    enough = asked-enough n (in_hand s i) count size_is asked

    first-bytes : take count (bytes_of (in_hand s i)) ≡ take count (run_bytes (in_hand s i))
    first-bytes =
        let chain = in_hand s i in
        ap (λ xs. take count xs) (sym (run-whole chain)) ∙ take-append-le count (run_bytes chain) (bytes_of (drop (length (front_run chain)) chain)) enough

    copy-is : copy ≡ joined made.number count (in_hand s i)
    copy-is =
        let chain = in_hand s i in
        let len : length (take count (run_bytes chain)) ≡ count = length-take-le count (run_bytes chain) enough in
        ap (λ xs. copy_of made.number (piece (block_at 0 chain).kind (block_at 0 chain).band xs)) first-bytes ∙ ap (λ k. record (joined made.number count chain) { room = 256 - k }) len

    granted : pull_refusal n s (in_hand s i) ≡ None
    granted =
        let m = made.room_m in
        let d = made.room_d in
        let some_m : (free_m s == 0) ≡ false = grind (arith, nat_tests) in
        let some_d : (free_d s == 0) ≡ false = grind (arith, nat_tests) in
        let fits : nat_le count 256 ≡ true = grind (arith, nat_tests) in
        let blocks : block_refusal s ≡ None = ap (λ v. cond (v || (free_d s == 0)) (Some Enosr) None) some_m ∙ ap (λ v. cond v (Some Enosr) None) some_d in
        ap (λ k. or_else (count_refusal (asked_of n k)) (block_refusal s)) (sym size_is) ∙ ap (λ o. or_else (count_refusal o) (block_refusal s)) asked ∙ ap (λ v. or_else (unless v Erange) (block_refusal s)) fits ∙ blocks

    pub pulled-up : {new : StoreValue} {r : ℕ} → r ≡ w → new ≡ changed s2 w (take 1 (in_hand s2 w) ++ without_joined (block_at 0 (in_hand s2 w)).kind count (drop 1 (in_hand s2 w))) → PulledUp s new i r n
    pulled-up {new} {r} name_is cut =
        let chain = in_hand s i in
        let t = held base j (copy ∷ chain) in
        let now : in_hand t j ≡ copy ∷ chain = held-chain base j (copy ∷ chain) in
        let done : new ≡ held base j (pulled made.number count chain) =
        cut ∙ ap (λ k. changed s2 k (take 1 (in_hand s2 k) ++ without_joined (block_at 0 (in_hand s2 k)).kind count (drop 1 (in_hand s2 k)))) kept ∙ ap (λ u. changed u j (take 1 (in_hand u j) ++ without_joined (block_at 0 (in_hand u j)).kind count (drop 1 (in_hand u j)))) whole ∙ ap (λ xs. changed t j (take 1 xs ++ without_joined (block_at 0 xs).kind count (drop 1 xs))) now ∙ held-changed base j (copy ∷ chain) (copy ∷ without_joined (block_at 0 chain).kind count chain) ∙ ap (λ (b : Block). held base j (b ∷ without_joined (block_at 0 chain).kind count chain)) copy-is in
        let named : r ≡ j = name_is ∙ kept in
        let after : new ≡ held base r (pulled made.number count chain) = done ∙ ap (λ k. held base k (pulled made.number count chain)) (sym named) in
        let shows : in_hand new r ≡ pulled made.number count chain = ap (λ u. in_hand u r) after ∙ held-chain base r (pulled made.number count chain) in
        record {
          number = made.number;
          count = count;
          asked = ap (λ k. asked_of n k) (sym size_is) ∙ asked;
          granted = granted;
          fresh_name = ap (λ k. times_in k s.hand) named ∙ made.fresh_name;
          exists = made.exists;
          fresh_number = made.fresh_number;
          after = after;
          shown = ap (λ xs. bytes_of xs) shows ∙ pulled-shown made.number count chain;
          control = ap (λ xs. control_bytes xs) shows ∙ pulled-control made.number count chain;
          body = ap (λ xs. data_bytes xs) shows ∙ pulled-body made.number count chain;
        }
