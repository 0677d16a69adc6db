-- A module that comes on top of others, whose queues stand on the next two lists behind theirs.
use Rattle.strm_pair.proofs.Prelude.{ℕ, zero, suc, ◌≡◌, ◌≤◌, ◌<◌, ◌+◌, ◌*◌, Bool, true, false, List, [], ◌∷◌, refl, arith, nat_tests, nat_le, sum_by, sum_by-cons, Option}
use Rattle.strm_pair.proofs.Prelude.{None, Some}
use Rattle.strm_pair.specs.Prelude.{QueuePair, StoreValue, list_at, once, all_of, AreHeld, owns, queues_own}
use Rattle.strm_pair.specs.AnyModules.{AnyStanding, IsHeld}
use Rattle.strm_pair.specs.ModuleLists.{Lines, Spans, either-few, either-once, either-within, spans}
use Rattle.strm_pair.specs.Shows.{one_pair}
use Rattle.strm_pair.specs.Streams.{AreFor}

-- one that has a list has queues
pub some-pair : (queues : Option QueuePair) (k : ℕ) → 0 < queues_own queues k → one_pair queues ≡ 1
some-pair None k some = absurd (omega (arith, some))
some-pair (Some pair) k some = refl

pub no-pair : (queues : Option QueuePair) (k : ℕ) → one_pair queues ≡ 0 → queues_own queues k ≡ 0
no-pair None k none = refl
no-pair (Some pair) k none = absurd (omega (arith, none))

module _ (s : StoreValue) (first : ℕ) (x : AnyStanding) (xs : List AnyStanding) (fits : IsHeld s x) (held : AreHeld IsHeld owns s xs) (lines : Lines first (all_of owns xs)) where
  -- how many lists the others have
  abbrev many : ℕ
  many = 2 * sum_by (λ (y : AnyStanding). one_pair y.queues) xs

  abbrev next : ℕ
  next = first + many

  below : Spans first many (all_of owns xs)
  below = spans s first xs held lines

  all-lists : (k : ℕ) → all_of owns (x ∷ xs) k ≡ owns x k + all_of owns xs k
  all-lists k = sum_by-cons (λ y. owns y k) x xs

  low-list : (k : ℕ) → 0 < all_of owns xs k → k < next
  low-list k some = by (nat_le next k) refl
    where
      by : (b : Bool) → nat_le next k ≡ b → k < next
      by true is = let high : next ≤ k = grind (arith, nat_tests) in absurd (omega (arith, below.none k high, some))
      by false is = grind (arith, nat_tests)

  module _ (at : one_pair x.queues ≡ 1 → (k : ℕ) → owns x k ≡ once next k + once (next + 1) k) where
    within : (k : ℕ) → 0 < owns x k → (next ≤ k) × (k < next + 2)
    within k some = either-within next k (omega (arith, some, at (some-pair x.queues k some) k))

    few : (k : ℕ) → owns x k ≤ 1
    few k = by (owns x k) refl
      where
        by : (n : ℕ) → owns x k ≡ n → owns x k ≤ 1
        by zero none = omega (arith, none)
        by (suc n) some = omega (arith, at (some-pair x.queues k (omega (arith, some))) k, either-few next k)

    pub top-held : AreHeld IsHeld owns s (x ∷ xs)
    top-held = record {
      each = (fits, held.each);
      apart = λ k. by k (owns x k) refl;
      order = (λ j k others own. omega (arith, low-list j others, (within k own).0), held.order);
    }
      where
        by : (k n : ℕ) → owns x k ≡ n → all_of owns (x ∷ xs) k ≤ 1
        by k zero none = omega (arith, all-lists k, none, held.apart k)
        by k (suc n) some = omega (arith, all-lists k, few k, below.none k (within k (omega (arith, some))).0)

    module _ (room : one_pair x.queues ≡ 1 → many + 2 ≤ 6) (owned : (k : ℕ) → 0 < all_of owns xs k → (first ≤ k) × (k < first + 6))
        (spare : (k : ℕ) → first ≤ k → k < first + 6 → all_of owns (x ∷ xs) k ≡ 0 → list_at s k ≡ []) where
      all-owned : (k : ℕ) → 0 < all_of owns (x ∷ xs) k → (first ≤ k) × (k < first + 6)
      all-owned k some = by (owns x k) refl
        where
          by : (n : ℕ) → owns x k ≡ n → (first ≤ k) × (k < first + 6)
          by zero none = owned k (omega (arith, all-lists k, none, some))
          by (suc n) own =
              let in_two = within k (omega (arith, own)) in
              let fits = room (some-pair x.queues k (omega (arith, own))) in
              (omega (arith, in_two.0), omega (arith, in_two.1, fits))

      -- a list below one of its own is one of the others', or of its own
      own-below : (j k : ℕ) → first ≤ j → j ≤ k → 0 < owns x k → 0 < all_of owns (x ∷ xs) j
      own-below j k low le own = by (nat_le next j) refl
        where
          by : (b : Bool) → nat_le next j ≡ b → 0 < all_of owns (x ∷ xs) j
          by true is =
              let high : next ≤ j = grind (arith, nat_tests) in
              let one = either-once next j high (omega (arith, le, (within k own).1)) in
              omega (arith, all-lists j, at (some-pair x.queues k own) j, one)
          by false is =
              let less : j < next = grind (arith, nat_tests) in
              omega (arith, all-lists j, below.all j low less)

      all-closed : (j k : ℕ) → first ≤ j → j ≤ k → 0 < all_of owns (x ∷ xs) k → 0 < all_of owns (x ∷ xs) j
      all-closed j k low le some = by (owns x k) refl
        where
          by : (n : ℕ) → owns x k ≡ n → 0 < all_of owns (x ∷ xs) j
          by zero none = omega (arith, lines.closed j k low le (omega (arith, all-lists k, none, some)), all-lists j)
          by (suc n) own = own-below j k low le (omega (arith, own))

      pub top-for : AreFor s first (all_of owns (x ∷ xs))
      top-for = record { owned = all-owned; closed = all-closed; spare = spare }
