-- The first bytes of a chain, copied block by block.
use Rattle.strm_head.proofs.Prelude.{ℕ, ◌≡◌, ◌≤◌, ◌<◌, ◌+◌, ◌-◌, Bool, true, false, List, ◌++◌, length, take, drop, refl, sym, ap, ◌∙◌, arith}
use Rattle.strm_head.proofs.Prelude.{append_assoc, append-nil, length-append, nat_le, nat_tests, take_all}
use Rattle.strm_head.specs.Prelude.{Block, block_at, bytes_of}
use Rattle.std.specs.Prelude.{min}
use Rattle.std.proofs.lemmas.List.{take-append-le}
use Rattle.std.proofs.Math.Seq.{take-append-add}
use Rattle.strm_msg.proofs.Parts.{chain-at}

-- the first of some bytes, and as many of those behind as are still wanted
take-parts : (n : ℕ) (xs ys : List ℕ) → take (min n (length xs)) xs ++ take (n - min n (length xs)) ys ≡ take n (xs ++ ys)
take-parts n xs ys = at (nat_le n (length xs)) refl
  where
    at : (b : Bool) → nat_le n (length xs) ≡ b → take (min n (length xs)) xs ++ take (n - min n (length xs)) ys ≡ take n (xs ++ ys)
    at true is =
        let le : n ≤ length xs = grind (arith, nat_tests) in
        let part : min n (length xs) ≡ n = omega arith in
        let none : n - n ≡ 0 = omega arith in
        ap (λ k. take k xs ++ take (n - k) ys) part ∙ ap (λ k. take n xs ++ take k ys) none ∙ append-nil (take n xs) ∙ sym (take-append-le n xs ys le)
    at false is =
        let lt : length xs < n = grind (arith, nat_tests) in
        let part : min n (length xs) ≡ length xs = omega arith in
        let more : length xs + (n - length xs) ≡ n = omega arith in
        ap (λ k. take k xs ++ take (n - k) ys) part ∙ ap (λ zs. zs ++ take (n - length xs) ys) (take_all (length xs) xs (omega arith)) ∙ sym (take-append-add xs ys (n - length xs)) ∙ ap (λ k. take k (xs ++ ys)) more

-- the bytes of a block and of those behind it
block-first : (chain : List Block) (at : ℕ) (bytes : List ℕ) → at < length chain → bytes ≡ (block_at at chain).bytes → bytes_of (drop at chain) ≡ bytes ++ bytes_of (drop (at + 1) chain)
block-first chain at bytes within is = ap bytes_of (chain-at chain at within) ∙ ap (λ xs. xs ++ bytes_of (drop (at + 1) chain)) (sym is)

pub length-first : (chain : List Block) (at : ℕ) (bytes : List ℕ) → at < length chain → bytes ≡ (block_at at chain).bytes → length (bytes_of (drop at chain)) ≡ length bytes + length (bytes_of (drop (at + 1) chain))
length-first chain at bytes within is = ap length (block-first chain at bytes within is) ∙ length-append bytes (bytes_of (drop (at + 1) chain))

-- one block more is copied
pub copied-more : (chain : List Block) (at left part : ℕ) (bytes out out' all : List ℕ) → at < length chain → bytes ≡ (block_at at chain).bytes → part ≡ min left (length bytes) → out' ≡ out ++ take part bytes
    → out ++ take left (bytes_of (drop at chain)) ≡ all → out' ++ take (left - part) (bytes_of (drop (at + 1) chain)) ≡ all
copied-more chain at left part bytes out out' all within bytes_is part_is out_is sofar =
    let rest = bytes_of (drop (at + 1) chain) in
    ap (λ xs. xs ++ take (left - part) rest) out_is ∙ append_assoc out (take part bytes) (take (left - part) rest)
    ∙ ap (λ k. out ++ (take k bytes ++ take (left - k) rest)) part_is
    ∙ ap (λ xs. out ++ xs) (take-parts left bytes rest ∙ ap (take left) (sym (block-first chain at bytes within bytes_is))) ∙ sofar
