-- How much of a part a get gives, by the blocks of the part.
use Rattle.strm_head.proofs.Prelude.{ℕ, ◌≡◌, ◌≤◌, min, Bool, List, [], ◌∷◌, ◌++◌, length, append-nil, take, drop, Some, refl, sym, ap, ◌∙◌, arith}
use Rattle.strm_head.proofs.Prelude.{inl, inr, nat_lt, option_map, length-take, length-take-le, take_all, drop_all}
use Rattle.strm_head.specs.Prelude.{part, Block, bytes_of, length_of_part, part_of, filled}
use Rattle.std.proofs.Common.{Option, unwrap_or}
use Rattle.std.proofs.lemmas.Bool.{cases_lt}

-- bytes that are taken by the lesser number
take-least : (k n : ℕ) (xs : List ℕ) → n ≡ min k (length xs) → take n xs ≡ take k xs
take-least k n xs is =
    elim (cases_lt k (length xs)) [
      | inl lt ↦ ap (λ m. take m xs) (let e : n ≡ k = omega arith in e)
      | inr ge ↦ take_all n xs (omega arith) ∙ sym (take_all k xs ge)
    ]

taken-part : (n : ℕ) (blocks : List Block) → take n (bytes_of blocks) ≡ part (option_map (take n) (part_of blocks))
taken-part n [] = take_all n [] (omega arith)
taken-part n (b ∷ blocks) = refl

given-length : (most : ℕ) (blocks : List Block) → option_map (λ k. min most k) (length_of_part blocks) ≡ option_map (λ (cells : List ℕ). length cells) (option_map (take most) (part_of blocks))
given-length most [] = refl
given-length most (b ∷ blocks) = ap Some (sym (length-take most (bytes_of (b ∷ blocks))))

given-count : (most : ℕ) (blocks : List Block) → unwrap_or (option_map (λ k. min most k) (length_of_part blocks)) 0 ≡ min most (length (bytes_of blocks))
given-count most [] = omega arith
given-count most (b ∷ blocks) = refl

part-length : (blocks : List Block) → unwrap_or (length_of_part blocks) 0 ≡ length (part (part_of blocks))
part-length [] = refl
part-length (b ∷ blocks) = refl

module _ (most : ℕ) (blocks : List Block) (len : Option ℕ) (len_is : len ≡ length_of_part blocks) where
  pub given-is : (given : Option ℕ) → given ≡ option_map (λ k. min most k) len → given ≡ option_map (λ (cells : List ℕ). length cells) (option_map (take most) (part_of blocks))
  given-is given is = is ∙ ap (option_map (λ k. min most k)) len_is ∙ given-length most blocks

  pub count-is : (given : Option ℕ) (count : ℕ) → given ≡ option_map (λ k. min most k) len → count ≡ unwrap_or given 0 → count ≡ min most (length (bytes_of blocks))
  count-is given count is so = so ∙ ap (λ o. unwrap_or o 0) (is ∙ ap (option_map (λ k. min most k)) len_is) ∙ given-count most blocks

  pub more-is : (more : Bool) → more ≡ nat_lt most (unwrap_or len 0) → more ≡ nat_lt most (length (part (part_of blocks)))
  more-is more is = is ∙ ap (λ o. nat_lt most (unwrap_or o 0)) len_is ∙ ap (nat_lt most) (part-length blocks)

-- the bytes that are given
pub taken-is : (most count : ℕ) (blocks : List Block) (bytes : List ℕ) → count ≡ min most (length (bytes_of blocks)) → bytes ≡ take count (bytes_of blocks) → bytes ≡ part (option_map (take most) (part_of blocks))
taken-is most count blocks bytes is so = so ∙ take-least most count (bytes_of blocks) is ∙ taken-part most blocks

-- an empty buffer that was given room for so many bytes, which were then written
pub written-whole : (items slice buffer bytes : List ℕ) (count : ℕ) → slice ≡ items → length items ≡ count → count ≤ length bytes → buffer ≡ filled slice bytes
    → take (length items) (buffer ++ drop (length buffer) items) ≡ take count bytes
written-whole items slice buffer bytes count slice_is long has is =
    let all : filled items bytes ≡ take count bytes =
    ap (λ xs. take (length items) bytes ++ xs) (drop_all (length bytes) items (omega (arith, long, has))) ∙ append-nil (take (length items) bytes) ∙ ap (λ n. take n bytes) long in
    let whole : buffer ≡ take count bytes = is ∙ ap (λ xs. filled xs bytes) slice_is ∙ all in
    let same : length buffer ≡ count = ap length whole ∙ length-take-le count bytes has in
    ap (λ xs. take (length items) (buffer ++ xs)) (drop_all (length buffer) items (omega (arith, same, long)))
    ∙ ap (take (length items)) (append-nil buffer)
    ∙ take_all (length items) buffer (omega (arith, same, long))
    ∙ whole
