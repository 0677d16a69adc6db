-- What a message block shows of its data block, after a write and with its places moved.
use Rattle.std.proofs.Common.{ℕ, ◌≡◌, ◌≤◌, ◌<◌, ◌+◌, ◌-◌, true, false, eqb, ltb, List, [], ◌∷◌, ◌++◌, length, get_or, take, drop, refl, sym, ap, ◌∙◌, arith}
use Rattle.std.proofs.Math.ListN.{set}
use Rattle.std.specs.Prelude.{slice_range}
use Rattle.std.proofs.lemmas.Bool.Decides.{nat_tests}
use Rattle.std.proofs.lemmas.Grind.{get_or-set_at}
use Rattle.std.proofs.lemmas.List.{append_assoc, drop-append-le, drop-take, drop-drop, length-take-le, length-drop, length-append, take_at, take-take, get_or_append_left, get_or_push, get_or-set_other}

module _ (block : List ℕ) where
  range-is : (start at : ℕ) → start ≤ at → drop start (take at block) ≡ slice_range block start at
  range-is start at le =
      let e : at ≡ start + (at - start) = omega arith in
      ap (λ k. drop start (take k block)) e ∙ drop-take start (at - start) block

  pub length-range : (start at : ℕ) → start ≤ at → at ≤ length block → length (slice_range block start at) ≡ at - start
  length-range start at le within = length-take-le (at - start) (drop start block) (let l = length-drop start block in omega arith)

  -- what stands before a write, and then what was written
  pub shown-written : (bytes rest : List ℕ) (start at : ℕ) → start ≤ at → at ≤ length block → slice_range (take at block ++ (bytes ++ rest)) start (at + length bytes) ≡ slice_range block start at ++ bytes
  shown-written bytes rest start at le within =
      let front = length-take-le at block within in
      let cut = drop-append-le start (take at block) (bytes ++ rest) (omega arith) in
      let shown = slice_range block start at in
      let joined : drop start (take at block ++ (bytes ++ rest)) ≡ (shown ++ bytes) ++ rest = cut ∙ ap (λ xs. xs ++ (bytes ++ rest)) (range-is start at le) ∙ sym (append_assoc shown bytes rest) in
      let len = length-range start at le within in
      let all = length-append shown bytes in
      ap (λ xs. take (at + length bytes - start) xs) joined ∙ take_at (shown ++ bytes) rest (at + length bytes - start) (omega arith)

  -- the read place moved on
  pub shown-head : (start at n : ℕ) → n ≤ at - start → slice_range block (start + n) at ≡ drop n (slice_range block start at)
  shown-head start at n few =
      let e : at - start ≡ n + (at - (start + n)) = omega arith in
      let moved = drop-take n (at - (start + n)) (drop start block) in
      sym (ap (λ k. drop n (take k (drop start block))) e ∙ moved ∙ ap (λ xs. take (at - (start + n)) xs) (drop-drop n start block))

  -- the write place moved back
  pub shown-tail : (start at n : ℕ) → start ≤ at → at ≤ length block → n ≤ at - start → slice_range block start (at - n) ≡ take (length (slice_range block start at) - n) (slice_range block start at)
  shown-tail start at n le within few =
      let len = length-range start at le within in
      let e : at - n - start ≡ length (slice_range block start at) - n = omega arith in
      ap (λ k. take k (drop start block)) e ∙ sym (take-take (length (slice_range block start at) - n) (at - start) (drop start block) (omega arith))

-- a list of blocks of one size, with one more
pub sized-push : (blocks : List (List ℕ)) (block : List ℕ) (count size : ℕ) → length blocks ≡ count → length block ≡ size → ((n : ℕ) → n < count → length (get_or blocks n []) ≡ size) → (n : ℕ) → n < count + 1 → length (get_or (blocks ++ block ∷ []) n []) ≡ size
sized-push blocks block count size len here all n within =
    elim (ltb n count) as (λ b. (ltb n count ≡ b) → length (get_or (blocks ++ block ∷ []) n []) ≡ size) [
      | true ↦ (λ e. let below : n < count = grind (arith, nat_tests) in rw (get_or_append_left blocks (block ∷ []) [] n (omega arith)) (all n below))
      | false ↦ (λ e. let at : length blocks ≡ n = grind (arith, nat_tests) in rw (get_or_push blocks block [] n at) here)
    ] refl

-- and with one of them replaced
pub sized-set : (blocks : List (List ℕ)) (block : List ℕ) (d size : ℕ) → length block ≡ size → ((n : ℕ) → n < length blocks → length (get_or blocks n []) ≡ size) → (n : ℕ) → n < length blocks → length (get_or (set blocks d block) n []) ≡ size
sized-set blocks block d size here all n within =
    elim (eqb n d) as (λ b. (eqb n d ≡ b) → length (get_or (set blocks d block) n []) ≡ size) [
      | true ↦ (λ e. let same : n ≡ d = grind (arith, nat_tests) in rw (get_or-set_at blocks d n block [] same (omega arith)) here)
      | false ↦ (λ e. rw (get_or-set_other blocks d n block [] (grind (arith, nat_tests))) (all n within))
    ] refl
