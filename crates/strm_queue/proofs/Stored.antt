-- A queue beside its list in a store.
use Rattle.std.proofs.Common.{ℕ, Bool, true, false, ◌≡◌, ◌≤◌, ◌<◌, ◌+◌, List, [], ◌∷◌, length, refl, ap, subst, ◌∙◌, arith, get_or-set_same}
use Rattle.std.specs.Prelude.{sum_by, slice_set, if◌then◌else◌, ◌==◌}
use Rattle.std.proofs.lemmas.Bool.Decides.{nat_tests}
use Rattle.std.proofs.lemmas.List.Sums.{sum_by-cons}
use Rattle.strm_types.specs.declared.limits.TheConstants.{LISTS}
use Rattle.strm_types.proofs.Ranked.{sum-put, sum-put_back}
use Rattle.strm_blocks.specs.Blocks.{Block, StoreValue, IsStore, in_hand, list_at, held, placed, dropped, put, put_back, rank_of}
use Rattle.strm_queue.specs.declared.flow.Flow.{Flow}
use Rattle.strm_queue.specs.Flows.{count_in, added_to, removed_from}
use Rattle.strm_queue.specs.Kept.{bytes_of, band_of, is_data, flow_at, data_share, other_share, AreCounted, AllBands}
use Rattle.strm_queue.proofs.Bounds.{few-bytes}
use Rattle.strm_queue.proofs.Counted.{counted-added, counted-removed, count-kept, count-few, data-here, other-here, all-put, all-put_back}

-- a list that was placed is there
pub list-placed : (s : StoreValue) (k : ℕ) (q : List (List Block)) → k < length s.lists → list_at (placed s k q) k ≡ q
list-placed s k q lt = get_or-set_same s.lists k q [] lt

-- a band's count and a message's bytes can be added
pub count-fits : (s : StoreValue) (k i band : ℕ) (flows : List Flow) → IsStore s → AreCounted flows (list_at s k) → band < 256 → count_in (flow_at band flows) + bytes_of (in_hand s i) ≤ 16777216
count-fits s k i band flows is counted low =
    omega (arith, few-bytes s is k i, count-few band (list_at s k), count-kept band (flow_at band flows) (list_at s k) (counted.each band low))

-- the numbers are right after a put, and after a put back
pub put-counted : (s : StoreValue) (k i : ℕ) (flows : List Flow) → IsStore s → k < LISTS → AreCounted flows (list_at s k) → band_of (in_hand s i) < 256
    → AreCounted (slice_set flows (band_of (in_hand s i)) (added_to (is_data (in_hand s i)) (bytes_of (in_hand s i)) (flow_at (band_of (in_hand s i)) flows))) (list_at (placed (dropped s i) k (put (in_hand s i) (list_at s k))) k)
put-counted s k i flows is lt counted low =
    rw (list-placed (dropped s i) k (put (in_hand s i) (list_at s k)) (omega (arith, is.eight)))
    (counted-added flows (list_at s k) (put (in_hand s i) (list_at s k)) (in_hand s i) low (λ f. sum-put rank_of f (in_hand s i) (list_at s k)) (all-put (λ chain. band_of chain < 256) rank_of (in_hand s i) (list_at s k) low counted.bands) counted)

pub put_back-counted : (s : StoreValue) (k i : ℕ) (flows : List Flow) → IsStore s → k < LISTS → AreCounted flows (list_at s k) → band_of (in_hand s i) < 256
    → AreCounted (slice_set flows (band_of (in_hand s i)) (added_to (is_data (in_hand s i)) (bytes_of (in_hand s i)) (flow_at (band_of (in_hand s i)) flows))) (list_at (placed (dropped s i) k (put_back (in_hand s i) (list_at s k))) k)
put_back-counted s k i flows is lt counted low =
    rw (list-placed (dropped s i) k (put_back (in_hand s i) (list_at s k)) (omega (arith, is.eight)))
    (counted-added flows (list_at s k) (put_back (in_hand s i) (list_at s k)) (in_hand s i) low (λ f. sum-put_back rank_of f (in_hand s i) (list_at s k)) (all-put_back (λ chain. band_of chain < 256) rank_of (in_hand s i) (list_at s k) low counted.bands) counted)

-- a message that was taken off a list is part of its counts
pub taken-fits : (s : StoreValue) (k : ℕ) (flows : List Flow) (chain : List Block) (rest : List (List Block)) → AreCounted flows (list_at s k) → list_at s k ≡ chain ∷ rest → band_of chain < 256
    → bytes_of chain ≤ (if is_data chain then (flow_at (band_of chain) flows).data_bytes else (flow_at (band_of chain) flows).other_bytes)
taken-fits s k flows chain rest counted is low =
    part-fits (is_data chain) refl
  where
    part-fits : (b : Bool) → is_data chain ≡ b → bytes_of chain ≤ (if b then (flow_at (band_of chain) flows).data_bytes else (flow_at (band_of chain) flows).other_bytes)
    part-fits true e =
        let here : data_share (band_of chain) chain ≡ bytes_of chain = data-here chain ∙ rw e refl in
        omega (arith, here, (counted.each (band_of chain) low).data_sum, ap (λ q. sum_by (data_share (band_of chain)) q) is, sum_by-cons (data_share (band_of chain)) chain rest)
    part-fits false e =
        let here : other_share (band_of chain) chain ≡ bytes_of chain = other-here chain ∙ rw e refl in
        omega (arith, here, (counted.each (band_of chain) low).other_sum, ap (λ q. sum_by (other_share (band_of chain)) q) is, sum_by-cons (other_share (band_of chain)) chain rest)

-- the numbers are right after a take
pub take-counted : (s : StoreValue) (k : ℕ) (flows : List Flow) (chain : List Block) (rest : List (List Block)) → AreCounted flows (list_at s k) → list_at s k ≡ chain ∷ rest → band_of chain < 256
    → AreCounted (slice_set flows (band_of chain) (removed_from (is_data chain) (bytes_of chain) (flow_at (band_of chain) flows))) rest
take-counted s k flows chain rest counted is low =
    counted-removed flows (list_at s k) rest chain low (λ f. ap (λ q. sum_by f q) is ∙ sum_by-cons f chain rest) (subst AllBands is counted.bands).1 counted

-- the chain of a message that has just come in hand
pub held-chain : (s : StoreValue) (i : ℕ) (chain : List Block) → in_hand (held s i chain) i ≡ chain
held-chain s i chain = let same : (i == i) ≡ true = grind (arith, nat_tests) in rw same refl
