-- The queues that a module is given as its name makes it.
use Rattle.strm_pair.proofs.Prelude.{ℕ, zero, suc, ◌≡◌, ◌≢◌, ◌<◌, ◌≤◌, ◌+◌, Bool, true, false, cond, [], refl, sym, ap, arith, nat_tests, false≢true}
use Rattle.strm_pair.proofs.Prelude.{Option, None, Some, IfSome, is_some, ◌==◌, once-self}
use Rattle.strm_pair.specs.Prelude.{ModuleName, queues_named, StoreValue, list_at, QueuePair, once, IsPairReady, queues_in, queues_own, HasInHand}
use Rattle.strm_ldterm.specs.declared.ldterm.Ldterm.{Ldterm}
use Rattle.strm_types.specs.Standings.{new_pair}
use Rattle.strm_pair.specs.Given.{GivenFor}
use Rattle.strm_pair.specs.ModuleLists.{once-is}

-- two names are never one
pub once-two : (a b k : ℕ) → a ≢ b → once a k + once b k ≤ 1
unfolding once
once-two a b k apart = by (a == k) (b == k) refl refl
  where
    by : (c d : Bool) → (a == k) ≡ c → (b == k) ≡ d → cond {A = ℕ} c 1 0 + cond {A = ℕ} d 1 0 ≤ 1
    by true true one two = absurd (apart (grind (arith, nat_tests)))
    by true false one two = omega arith
    by false true one two = omega arith
    by false false one two = omega arith

-- there are none, or some
pub none-are : (queues : Option QueuePair) → is_some queues ≡ false → queues ≡ None
none-are None is = refl
none-are (Some pair) is = absurd (false≢true (sym is))

-- an ldterm fits them where there are some
pub ldterm-fits : (s : StoreValue) (x : Ldterm) (queues : Option QueuePair) → is_some queues ≡ true
    → ((pair : QueuePair) → HasInHand s x (Some pair)) → HasInHand s x queues
ldterm-fits s x None has held = absurd (false≢true has)
ldterm-fits s x (Some pair) has held = held pair

pub some-own : (queues : Option QueuePair) (k : ℕ) → 0 < queues_own queues k → is_some queues ≡ true
some-own None k some = absurd (omega (arith, some))
some-own (Some pair) k some = refl

-- their two lists are from a number on, and no other one
module _ (name : ModuleName) (first : ℕ) where
  pub own-within : (queues : Option QueuePair) → GivenFor name first queues → (k : ℕ) → 0 < queues_own queues k → (first ≤ k) × (k < first + 2)
  own-within queues given k some = by (once first k) refl
    where
      own : queues_own queues k ≡ once first k + once (first + 1) k
      own = given.own (some-own queues k some) k

      by : (n : ℕ) → once first k ≡ n → (first ≤ k) × (k < first + 2)
      by zero none = let at = once-is (first + 1) k (omega (arith, some, none, own)) in (omega (arith, at), omega (arith, at))
      by (suc n) one = let at = once-is first k (omega (arith, one)) in (omega (arith, at), omega (arith, at))

  pub own-apart : (queues : Option QueuePair) → GivenFor name first queues → (k : ℕ) → queues_own queues k ≤ 1
  own-apart None given k = omega arith
  own-apart (Some pair) given k = omega (arith, given.own refl k, once-two first (first + 1) k (λ e. absurd (omega (arith, e))))

  -- where nothing stands on them they are new
  module _ (s : StoreValue) where
    first-empty : (pair : QueuePair) → GivenFor name first (Some pair) → ((k : ℕ) → 0 < queues_own (Some pair) k → list_at s k ≡ []) → list_at s first ≡ []
    first-empty pair given empty = empty first (omega (arith, given.own refl first, once-self first))

    next-empty : (pair : QueuePair) → GivenFor name first (Some pair) → ((k : ℕ) → 0 < queues_own (Some pair) k → list_at s k ≡ []) → list_at s (first + 1) ≡ []
    next-empty pair given empty = empty (first + 1) (omega (arith, given.own refl (first + 1), once-self (first + 1)))

    pub given-are : (queues : Option QueuePair) → GivenFor name first queues → ((k : ℕ) → 0 < queues_own queues k → list_at s k ≡ []) → queues_in s queues ≡ queues_named name
    given-are None given empty = ap (λ has. cond has (Some new_pair) None) given.has
    given-are (Some pair) given empty = given.state s (first-empty pair given empty) (next-empty pair given empty)

    pub given-ready : (queues : Option QueuePair) → GivenFor name first queues → ((k : ℕ) → 0 < queues_own queues k → list_at s k ≡ []) → IfSome queues (IsPairReady s)
    given-ready None given empty = tt
    given-ready (Some pair) given empty = given.ready s (first-empty pair given empty) (next-empty pair given empty)
