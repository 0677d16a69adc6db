-- How large the chains of a store's messages are.
use Rattle.std.proofs.Common.{ℕ, ◌≡◌, ◌≤◌, ◌+◌, true, false, cond, ◌==◌, List, [], ◌∷◌, length, refl, arith}
use Rattle.std.specs.Prelude.{sum_by}
use Rattle.std.proofs.lemmas.List.Sums.{sum_by-cons}
use Rattle.strm_blocks.specs.Blocks.{Block, Held, StoreValue, IsStore, extent, used, in_hand, chain_in}

-- the chain of a name weighs no more than all in hand
pub chain-le : (f : List Block → ℕ) → (i : ℕ) → (hand : List Held) → f [] ≡ 0 → f (chain_in i hand) ≤ sum_by (λ h. f h.chain) hand
chain-le f i [] none = omega arith
chain-le f i (h ∷ hand) none =
    let ih = chain-le f i hand none in
    let s = sum_by-cons (λ (h : Held). f h.chain) h hand in
    elim (h.name == i) as (λ b. f (cond b h.chain (chain_in i hand)) ≤ sum_by (λ h. f h.chain) (h ∷ hand)) [ true ↦ omega arith | false ↦ omega arith ]

-- a message in hand has at most 65536 blocks
pub blocks-few : (s : StoreValue) (i : ℕ) → IsStore s → length (in_hand s i) ≤ 65536
unfolding used
blocks-few s i is =
    let le = chain-le (λ c. length c) i s.hand refl in
    let e = is.enough in
    let f = is.few_mblks in
    omega arith

-- and at most 16 MiB of bytes
bytes-extent : (chain : List Block) → sum_by (λ b. length b.bytes) chain ≤ extent chain
bytes-extent [] = omega arith
bytes-extent (b ∷ chain) =
    omega (arith, bytes-extent chain, sum_by-cons (λ (x : Block). length x.bytes) b chain, sum_by-cons (λ (x : Block). length x.bytes + x.room) b chain)

pub bytes-few : (s : StoreValue) (i : ℕ) → IsStore s → sum_by (λ b. length b.bytes) (in_hand s i) ≤ 16777216
unfolding used
bytes-few s i is =
    omega (arith, bytes-extent (in_hand s i), chain-le extent i s.hand refl, is.small, is.enough, is.few_mblks)
