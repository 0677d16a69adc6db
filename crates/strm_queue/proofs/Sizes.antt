-- How many messages stand on a queue, and how many bytes they have.
use Rattle.std.proofs.Common.{ℕ, zero, suc, ◌≡◌, ◌≤◌, ◌+◌, List, [], ◌∷◌, length, map, refl, arith}
use Rattle.std.specs.Prelude.{sum_by, slice_index_or}
use Rattle.std.specs.List.{AllByRecursion}
use Rattle.std.proofs.lemmas.List.Sums.{sum_by-cons}
use Rattle.strm_types.specs.Message.{size_of}
use Rattle.strm_types.specs.Queue as plain
use Rattle.strm_blocks.specs.Blocks.{Block, StoreValue, IsStore, list_at, used, missing}
use Rattle.strm_msg.specs.Messages.{message_of, IsChain}
use Rattle.strm_msg.proofs.Chains.{size-shown}
use Rattle.strm_queue.specs.Kept as kept
use Rattle.strm_blocks.proofs.Laws.{used-is}

-- a message has a block at least, or it is missing one
one-long : (q : List (List Block)) → length q ≤ sum_by length q + sum_by missing q
one-long [] = omega arith
one-long (c ∷ q) = omega (arith, one-long q, sum_by-cons (λ (x : List Block). length x) c q, sum_by-cons missing c q)

pub all-long : (lists : List (List (List Block))) → sum_by length lists ≤ sum_by (λ q. sum_by length q) lists + sum_by (λ q. sum_by missing q) lists
all-long [] = omega arith
all-long (q ∷ lists) =
    omega (arith, all-long lists, one-long q, sum_by-cons (λ (x : List (List Block)). length x) q lists, sum_by-cons (λ (x : List (List Block)). sum_by length x) q lists, sum_by-cons (λ (x : List (List Block)). sum_by missing x) q lists)

-- no list has more messages than blocks are in use
list-long : (lists : List (List (List Block))) (k : ℕ) → length (slice_index_or lists k []) ≤ sum_by length lists
list-long [] k = omega arith
list-long (q ∷ lists) zero = omega (arith, sum_by-cons (λ (x : List (List Block)). length x) q lists)
list-long (q ∷ lists) (suc k) = omega (arith, list-long lists k, sum_by-cons (λ (x : List (List Block)). length x) q lists)

pub list-enough : (s : StoreValue) (k : ℕ) → IsStore s → length (list_at s k) ≤ used s
list-enough s k is = omega (arith, list-long s.lists k, all-long s.lists, is.filled, used-is s)

-- the bytes of chains are those of the messages
pub bytes-same : (q : List (List Block)) → AllByRecursion IsChain q → sum_by kept.bytes_of q ≡ plain.bytes_of (map message_of q)
bytes-same [] all = refl
bytes-same (chain ∷ q) all =
    omega (arith, size-shown chain all.0, bytes-same q all.1, sum_by-cons kept.bytes_of chain q, sum_by-cons size_of (message_of chain) (map message_of q))
