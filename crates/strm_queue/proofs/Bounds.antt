-- The bytes of a store's messages are few enough to add.
use Rattle.std.proofs.Common.{ℕ, zero, suc, ◌≡◌, ◌≤◌, ◌<◌, ◌+◌, Bool, true, false, List, [], ◌∷◌, length, refl, arith}
use Rattle.std.specs.Prelude.{sum_by, slice_index_or, if◌then◌else◌, ◌==◌}
use Rattle.std.specs.List.{AllByRecursion}
use Rattle.std.proofs.lemmas.List.Sums.{sum_by-cons}
use Rattle.strm_blocks.specs.Blocks.{Block, Held, StoreValue, IsStore, extent, missing, chain_in, in_hand, list_at}
use Rattle.strm_queue.specs.Kept.{bytes_of}

-- a sum of smaller numbers is smaller
pub sum-le : {A : Type 0} (f g : A → ℕ) → ((x : A) → f x ≤ g x) → (xs : List A) → sum_by f xs ≤ sum_by g xs
sum-le f g le [] = omega arith
sum-le f g le (x ∷ xs) = let here = le x in omega (arith, here, sum-le f g le xs, sum_by-cons f x xs, sum_by-cons g x xs)

-- a block's bytes are part of its extent
pub bytes-extent : (chain : List Block) → bytes_of chain ≤ extent chain
bytes-extent chain = sum-le (λ b. length b.bytes) (λ b. length b.bytes + b.room) (λ b. omega arith) chain

-- what one message in hand has is part of what all have
pub hand-le : (g : List Block → ℕ) → g [] ≡ 0 → (i : ℕ) (hand : List Held) → g (chain_in i hand) ≤ sum_by (λ h. g h.chain) hand
hand-le g none i [] = omega (arith, none)
hand-le g none i (h ∷ hand) = hand-at (h.name == i) (hand-le g none i hand)
  where
    hand-at : (b : Bool) → g (chain_in i hand) ≤ sum_by (λ x. g x.chain) hand → g (if b then h.chain else chain_in i hand) ≤ sum_by (λ x. g x.chain) (h ∷ hand)
    hand-at true ih = omega (arith, sum_by-cons (λ x. g x.chain) h hand)
    hand-at false ih = omega (arith, ih, sum_by-cons (λ x. g x.chain) h hand)

-- what one list has is part of what all have
pub list-le : (g : List Block → ℕ) (lists : List (List (List Block))) (k : ℕ) → sum_by g (slice_index_or lists k []) ≤ sum_by (λ q. sum_by g q) lists
list-le g [] k = omega arith
list-le g (q ∷ lists) zero = omega (arith, sum_by-cons (λ x. sum_by g x) q lists)
list-le g (q ∷ lists) (suc k) = omega (arith, list-le g lists k, sum_by-cons (λ x. sum_by g x) q lists)

-- a list's bytes and a message's in hand are at most 16 MiB together
pub few-bytes : (s : StoreValue) → IsStore s → (k i : ℕ) → sum_by bytes_of (list_at s k) + bytes_of (in_hand s i) ≤ 16777216
few-bytes s is k i =
    let a : sum_by bytes_of (list_at s k) ≤ sum_by extent (list_at s k) = sum-le bytes_of extent bytes-extent (list_at s k) in
    let b : bytes_of (in_hand s i) ≤ extent (in_hand s i) = bytes-extent (in_hand s i) in
    omega (arith, a, b, list-le extent s.lists k, hand-le extent refl i s.hand, is.small, is.enough, is.few_mblks)

-- each message of a store has a block
each-some : (q : List (List Block)) → sum_by missing q ≡ 0 → AllByRecursion (λ chain. 0 < length chain) q
each-some [] none = tt
each-some (chain ∷ q) none =
    let sum = sum_by-cons missing chain q in
    (omega (arith, sum, none), each-some q (omega (arith, sum, none)))

pub list-filled : (s : StoreValue) (k : ℕ) → IsStore s → AllByRecursion (λ chain. 0 < length chain) (list_at s k)
list-filled s k is = each-some (list_at s k) (omega (arith, list-le missing s.lists k, is.filled))
