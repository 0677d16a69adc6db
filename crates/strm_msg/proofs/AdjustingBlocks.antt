-- A message that was trimmed at one end has the same blocks.
use Rattle.std.proofs.Common.{ℕ, suc, ℤ, pos, negsuc, ◌≡◌, ◌-◌, min, true, false, cond, eqb, List, [], ◌∷◌, ◌++◌, length, take, drop, map, reverse, refl, sym, ap, ◌∙◌, arith}
use Rattle.std.proofs.lemmas.List.{length-map, map-append, reverse-append, reverse-reverse, take-append-drop}
use Rattle.strm_blocks.specs.Blocks.{Block, StoreValue, in_hand, changed, IsInHand, names_of, used, references, free_m, free_d, total, trimmed_head, trimmed_tail}
use Rattle.strm_blocks.proofs.Laws.{total-changed, free_d-same}
use Rattle.strm_blocks.proofs.Values.{sum_by-map}
use Rattle.strm_msg.specs.Runs.{front_run}
use Rattle.strm_msg.specs.Adjusted.{trimmed_by, trimmed_front, trimmed, adjusted, has_bytes, without_bytes}

map-reverse : (chain : List Block) → map without_bytes (reverse chain) ≡ reverse (map without_bytes chain)
map-reverse [] = refl
map-reverse (b ∷ chain) =
    ap (λ xs. map without_bytes xs) (reverse-append (b ∷ []) chain) ∙ map-append without_bytes (reverse chain) (b ∷ []) ∙ ap (λ xs. xs ++ without_bytes b ∷ []) (map-reverse chain) ∙ sym (reverse-append (without_bytes b ∷ []) (map without_bytes chain))

module _ (trim : ℕ → Block → Block) (same : (n : ℕ) (b : Block) → without_bytes (trim n b) ≡ without_bytes b) where
  kept-by : (n : ℕ) (blocks : List Block) → map without_bytes (trimmed_by trim n blocks) ≡ map without_bytes blocks
  kept-by n [] = refl
  kept-by n (b ∷ blocks) =
      ap (λ x. x ∷ map without_bytes (trimmed_by trim (n - length b.bytes) blocks)) (same (min n (length b.bytes)) b) ∙ ap (λ xs. without_bytes b ∷ xs) (kept-by (n - length b.bytes) blocks)

  kept-front : (n at : ℕ) (chain : List Block) → map without_bytes (trimmed_front trim n at chain) ≡ map without_bytes chain
  kept-front n at chain =
      map-append without_bytes (trimmed_by trim n (take at chain)) (drop at chain) ∙ ap (λ xs. xs ++ map without_bytes (drop at chain)) (kept-by n (take at chain)) ∙ sym (map-append without_bytes (take at chain) (drop at chain)) ∙ ap (λ xs. map without_bytes xs) (take-append-drop at chain)

  kept-back : (n at : ℕ) (chain : List Block) → map without_bytes (reverse (trimmed_front trim n at (reverse chain))) ≡ map without_bytes chain
  kept-back n at chain =
      map-reverse (trimmed_front trim n at (reverse chain)) ∙ ap (λ xs. reverse xs) (kept-front n at (reverse chain)) ∙ sym (map-reverse (reverse chain)) ∙ ap (λ xs. map without_bytes xs) (reverse-reverse chain)

trimmed-keeps : (n : ℤ) (chain : List Block) → map without_bytes (trimmed n chain) ≡ map without_bytes chain
trimmed-keeps (pos n) chain = kept-front trimmed_head (λ n b. refl) n _ chain
trimmed-keeps (negsuc n) chain = kept-back trimmed_tail (λ n b. refl) (suc n) _ chain

pub adjusted-keeps : (n : ℤ) (chain : List Block) → map without_bytes (adjusted n chain) ≡ map without_bytes chain
adjusted-keeps n chain =
    elim (has_bytes n chain) as (λ v. map without_bytes (cond v (trimmed n chain) chain) ≡ map without_bytes chain) [ true ↦ trimmed-keeps n chain | false ↦ refl ]

-- no bytes trimmed
none-by : (blocks : List Block) → trimmed_by trimmed_head 0 blocks ≡ blocks
none-by [] = refl
none-by (b ∷ blocks) =
    let none : min 0 (length b.bytes) ≡ 0 = omega arith in
    let left : 0 - length b.bytes ≡ 0 = omega arith in
    ap (λ m. trimmed_head m b ∷ trimmed_by trimmed_head (0 - length b.bytes) blocks) none ∙ ap (λ m. b ∷ trimmed_by trimmed_head m blocks) left ∙ ap (λ xs. b ∷ xs) (none-by blocks)

pub adjusted-none : (chain : List Block) → adjusted (pos 0) chain ≡ chain
adjusted-none chain =
    let run = length (front_run chain) in
    let none : trimmed (pos 0) chain ≡ chain = ap (λ xs. xs ++ drop run chain) (none-by (take run chain)) ∙ take-append-drop run chain in
    elim (has_bytes (pos 0) chain) as (λ v. cond v (trimmed (pos 0) chain) chain ≡ chain) [ true ↦ none | false ↦ refl ]

-- the same blocks in hand, the same blocks free
module _ (s : StoreValue) (i : ℕ) (chain : List Block) (is : IsInHand s i) (same : map without_bytes chain ≡ map without_bytes (in_hand s i)) where
  same-total : (f : List Block → ℕ) → f chain ≡ f (in_hand s i) → total f (changed s i chain) ≡ total f s
  same-total f same = let t = total-changed f s i chain is in omega arith

  same-length : length chain ≡ length (in_hand s i)
  same-length = sym (length-map chain without_bytes) ∙ ap (λ xs. length xs) same ∙ length-map (in_hand s i) without_bytes

  pub same-free_m : free_m (changed s i chain) ≡ free_m s
  unfolding free_m used
  same-free_m = ap (λ k. s.mblks - k) (same-total length same-length)

  names-is : (d : ℕ) (blocks : List Block) → names_of d (map without_bytes blocks) ≡ names_of d blocks
  names-is d blocks = sum_by-map (λ (b : Block). cond {A = ℕ} (eqb b.number d) 1 0) without_bytes blocks

  same-references : (d : ℕ) → references (changed s i chain) d ≡ references s d
  unfolding references
  same-references d = same-total (names_of d) (sym (names-is d chain) ∙ ap (λ xs. names_of d xs) same ∙ names-is d (in_hand s i))

  pub same-free_d : free_d (changed s i chain) ≡ free_d s
  same-free_d = free_d-same s (changed s i chain) refl same-references
