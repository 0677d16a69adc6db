-- What bytes a message shows that was trimmed at one end.
use Rattle.std.proofs.Common.{ℕ, suc, ℤ, pos, negsuc, ◌≡◌, ◌≤◌, ◌<◌, ◌+◌, ◌-◌, min, true, false, unsigned_abs, List, [], ◌∷◌, ◌++◌, length, take, drop, reverse, refl, sym, ap, ◌∙◌, arith, inl, inr, append-nil}
use Rattle.std.specs.Prelude.{nat_le}
use Rattle.std.proofs.Math.Seq.{take-append-add}
use Rattle.std.proofs.lemmas.Bool.{cases_lt, le-leb, lt-leb, leb-true}
use Rattle.std.proofs.lemmas.List.{length-append, length-take, length-reverse, reverse-reverse, reverse-append, take-append-le, take-append-drop, drop-append-le, drop_all, take_all}
use Rattle.std.proofs.lemmas.Grind.{flat_map-append}
use Rattle.strm_blocks.specs.Blocks.{Block, trimmed_head, trimmed_tail}
use Rattle.strm_msg.specs.declared.adjust.End.{End}
use Rattle.strm_msg.specs.Bytes.{bytes_of}
use Rattle.strm_msg.specs.Runs.{front_run}
use Rattle.strm_msg.specs.Adjusted.{trimmed_by, trimmed_front, without_head, without_tail, has_bytes, trimmed, left_of, seen_from, trim_at, end_of}
use Rattle.strm_msg.proofs.Taking.{drop-append, drop-least}

pub bytes-append : (xs ys : List Block) → bytes_of (xs ++ ys) ≡ bytes_of xs ++ bytes_of ys
bytes-append xs ys = flat_map-append (λ (b : Block). b.bytes) xs ys

reverse-cons : (b : Block) (chain : List Block) → bytes_of (reverse (b ∷ chain)) ≡ bytes_of (reverse chain) ++ b.bytes
reverse-cons b chain =
    ap (λ xs. bytes_of xs) (reverse-append (b ∷ []) chain) ∙ bytes-append (reverse chain) (b ∷ []) ∙ ap (λ xs. bytes_of (reverse chain) ++ xs) (append-nil b.bytes)

bytes-reverse : (chain : List Block) → length (bytes_of (reverse chain)) ≡ length (bytes_of chain)
bytes-reverse [] = refl
bytes-reverse (b ∷ chain) =
    let ih = bytes-reverse chain in
    let back = ap (λ xs. length xs) (reverse-cons b chain) ∙ length-append (bytes_of (reverse chain)) b.bytes in
    let front = length-append b.bytes (bytes_of chain) in
    omega arith

-- as many bytes as the run has of which a number speaks
abbrev run_len : ℤ → List Block → ℕ
run_len n chain = length (bytes_of (front_run (seen_from (end_of n) chain)))

has-is : (n : ℤ) (chain : List Block) → has_bytes n chain ≡ nat_le (unsigned_abs n) (run_len n chain)
has-is (pos n) chain = refl
has-is (negsuc n) chain = ap (λ k. nat_le (suc n) k) (bytes-reverse (front_run (reverse chain)))

module _ (n : ℤ) (chain : List Block) {end : End} {size len : ℕ} (end_is : end ≡ end_of n) (size_is : size ≡ unsigned_abs n) (len_is : len ≡ length (bytes_of (front_run (seen_from end chain)))) where
  measured : len ≡ run_len n chain
  measured = len_is ∙ ap (λ e. length (bytes_of (front_run (seen_from e chain)))) end_is

  pub too-few : len < size → false ≡ has_bytes n chain
  too-few few = let m = measured in sym (has-is n chain ∙ lt-leb (unsigned_abs n) (run_len n chain) (omega arith))

  pub enough : size ≤ len → true ≡ has_bytes n chain
  enough has = let m = measured in sym (has-is n chain ∙ le-leb (unsigned_abs n) (run_len n chain) (omega arith))

-- what is left of the chain
trimmed-is : (n : ℤ) (chain : List Block) → seen_from (end_of n) (trimmed_front (trim_at (end_of n)) (unsigned_abs n) (length (front_run (seen_from (end_of n) chain))) (seen_from (end_of n) chain)) ≡ trimmed n chain
trimmed-is (pos n) chain = refl
trimmed-is (negsuc n) chain = ap (λ k. reverse (trimmed_front trimmed_tail (suc n) k (reverse chain))) (sym (length-reverse (front_run (reverse chain))))

pub trimmed-at : (n : ℤ) (chain : List Block) {end : End} {size blocks : ℕ} → end ≡ end_of n → size ≡ unsigned_abs n → blocks ≡ length (front_run (seen_from end chain)) → seen_from end (trimmed_front (trim_at end) size blocks (seen_from end chain)) ≡ trimmed n chain
trimmed-at n chain {end} {size} {blocks} end_is size_is blocks_is =
    ap (λ k. seen_from end (trimmed_front (trim_at end) size k (seen_from end chain))) blocks_is ∙ ap (λ m. seen_from end (trimmed_front (trim_at end) m (length (front_run (seen_from end chain))) (seen_from end chain))) size_is ∙ ap (λ e. seen_from e (trimmed_front (trim_at e) (unsigned_abs n) (length (front_run (seen_from e chain))) (seen_from e chain))) end_is ∙ trimmed-is n chain

-- bytes trimmed off blocks, the first one first
pub trimmed-heads : (n : ℕ) (blocks : List Block) → bytes_of (trimmed_by trimmed_head n blocks) ≡ drop n (bytes_of blocks)
trimmed-heads n [] = sym (drop_all n [] (omega arith))
trimmed-heads n (b ∷ blocks) =
    ap (λ xs. xs ++ bytes_of (trimmed_by trimmed_head (n - length b.bytes) blocks)) (drop-least n (min n (length b.bytes)) b.bytes refl) ∙ ap (λ xs. drop n b.bytes ++ xs) (trimmed-heads (n - length b.bytes) blocks) ∙ sym (drop-append n b.bytes (bytes_of blocks))

-- and off blocks that are seen from the last one on
take-parts : (n : ℕ) (xs ys : List ℕ) → take (length xs - (n - length ys)) xs ++ take (length ys - min n (length ys)) ys ≡ take (length (xs ++ ys) - n) (xs ++ ys)
take-parts n xs ys =
    let both = length-append xs ys in
    elim (cases_lt (length ys) n) [
      | inl more ↦
          (let none : length ys - min n (length ys) ≡ 0 = omega arith in
          let e : length xs - (n - length ys) ≡ length (xs ++ ys) - n = omega arith in
          ap (λ k. take (length xs - (n - length ys)) xs ++ take k ys) none ∙ append-nil (take (length xs - (n - length ys)) xs) ∙ ap (λ k. take k xs) e ∙ sym (take-append-le (length (xs ++ ys) - n) xs ys (omega arith)))
      | inr le ↦
          (let all : length xs ≤ length xs - (n - length ys) = omega arith in
          let e : length xs + (length ys - min n (length ys)) ≡ length (xs ++ ys) - n = omega arith in
          ap (λ zs. zs ++ take (length ys - min n (length ys)) ys) (take_all (length xs - (n - length ys)) xs all) ∙ sym (take-append-add xs ys (length ys - min n (length ys))) ∙ ap (λ k. take k (xs ++ ys)) e)
    ]

trimmed-tails : (n : ℕ) (blocks : List Block) → bytes_of (reverse (trimmed_by trimmed_tail n blocks)) ≡ take (length (bytes_of (reverse blocks)) - n) (bytes_of (reverse blocks))
trimmed-tails n [] = sym (take_all (0 - n) [] (omega arith))
trimmed-tails n (b ∷ blocks) =
    let last = take (length b.bytes - min n (length b.bytes)) b.bytes in
    let others = bytes_of (reverse blocks) in
    reverse-cons (trimmed_tail (min n (length b.bytes)) b) (trimmed_by trimmed_tail (n - length b.bytes) blocks) ∙ ap (λ xs. xs ++ last) (trimmed-tails (n - length b.bytes) blocks) ∙ take-parts n others b.bytes ∙ sym (ap (λ xs. take (length xs - n) xs) (reverse-cons b blocks))

-- the run at the front and the blocks behind it
take-taken : (k : ℕ) (chain : List Block) → take (length (take k chain)) chain ≡ take k chain
take-taken k chain =
    let len = length-take k chain in
    elim (cases_lt k (length chain)) [
      | inl lt ↦ ap (λ m. take m chain) (let e : length (take k chain) ≡ k = omega arith in e)
      | inr ge ↦ take_all (length (take k chain)) chain (omega arith) ∙ sym (take_all k chain ge)
    ]

module _ (chain : List Block) where
  abbrev run : List Block
  run = front_run chain

  abbrev behind : List Block
  behind = drop (length run) chain

  front-taken : take (length run) chain ≡ run
  front-taken = take-taken _ chain

  parts : run ++ behind ≡ chain
  parts = ap (λ xs. xs ++ behind) (sym front-taken) ∙ take-append-drop (length run) chain

  trimmed-parts : (trim : ℕ → Block → Block) (n : ℕ) → trimmed_front trim n (length run) chain ≡ trimmed_by trim n run ++ behind
  trimmed-parts trim n = ap (λ xs. trimmed_by trim n xs ++ behind) front-taken

  pub head-bytes : (n : ℕ) → n ≤ length (bytes_of run) → bytes_of (without_head n chain) ≡ drop n (bytes_of chain)
  head-bytes n has =
      ap (λ xs. bytes_of xs) (trimmed-parts trimmed_head n) ∙ bytes-append (trimmed_by trimmed_head n run) behind ∙ ap (λ xs. xs ++ bytes_of behind) (trimmed-heads n run) ∙ sym (drop-append-le n (bytes_of run) (bytes_of behind) has) ∙ sym (ap (λ xs. drop n xs) (bytes-append run behind)) ∙ ap (λ xs. drop n (bytes_of xs)) parts

  -- the chain that is seen from its last block on
  reversed-bytes : (n : ℕ) → n ≤ length (bytes_of run) → bytes_of (reverse (trimmed_front trimmed_tail n (length run) chain)) ≡ take (length (bytes_of (reverse chain)) - n) (bytes_of (reverse chain))
  reversed-bytes n has =
      let blocks = trimmed_by trimmed_tail n run in
      let shown = bytes_of (reverse run) in
      let others = bytes_of (reverse behind) in
      let same = bytes-reverse run in
      let both = length-append others shown in
      let turned : (xs : List Block) → bytes_of (reverse (xs ++ behind)) ≡ others ++ bytes_of (reverse xs) = λ xs. (ap (λ ys. bytes_of ys) (reverse-append xs behind) ∙ bytes-append (reverse behind) (reverse xs)) in
      let whole : others ++ shown ≡ bytes_of (reverse chain) = sym (turned run) ∙ ap (λ xs. bytes_of (reverse xs)) parts in
      let e : length others + (length shown - n) ≡ length (others ++ shown) - n = omega arith in
      ap (λ xs. bytes_of (reverse xs)) (trimmed-parts trimmed_tail n) ∙ turned blocks ∙ ap (λ xs. others ++ xs) (trimmed-tails n run) ∙ sym (take-append-add others shown (length shown - n)) ∙ ap (λ k. take k (others ++ shown)) e ∙ ap (λ xs. take (length xs - n) xs) whole

tail-bytes : (chain : List Block) (n : ℕ) → n ≤ length (bytes_of (front_run (reverse chain))) → bytes_of (without_tail n chain) ≡ take (length (bytes_of chain) - n) (bytes_of chain)
tail-bytes chain n has =
    let view = reverse chain in
    ap (λ k. bytes_of (reverse (trimmed_front trimmed_tail n k view))) (length-reverse (front_run view)) ∙ reversed-bytes view n has ∙ ap (λ xs. take (length (bytes_of xs) - n) (bytes_of xs)) (reverse-reverse chain)

pub trimmed-bytes : (n : ℤ) (chain : List Block) → true ≡ has_bytes n chain → bytes_of (trimmed n chain) ≡ left_of n (bytes_of chain)
trimmed-bytes (pos n) chain has = head-bytes chain n (leb-true n (run_len (pos n) chain) (sym has))
trimmed-bytes (negsuc n) chain has = tail-bytes chain (suc n) (leb-true (suc n) (run_len (negsuc n) chain) (sym (has-is (negsuc n) chain) ∙ sym has))
