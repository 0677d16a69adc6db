-- What the lists of a stack of modules show: each pair of queues stands on two of them, behind those of the modules below it, the read queue's first.
use Rattle.std.specs.Prelude.{ℕ, zero, suc, ◌≡◌, ◌<◌, ◌≤◌, ◌+◌, ◌*◌, ◌==◌, Bool, true, false, List, [], ◌∷◌, map, sum_by, nat_le, Option, None, Some}
use Rattle.std.specs.List.{AllByRecursion}
use Rattle.std.proofs.Common.{arith, cond, refl, ap, sym, ◌∙◌}
use Rattle.std.proofs.lemmas.Bool.Decides.{nat_tests}
use Rattle.std.proofs.lemmas.List.Sums.{sum_by-cons}
use Rattle.strm_pair.specs.Prelude.{rank_of, IsOrdered, queues_of_modules, Block, StoreValue, list_at, message_of, messages_on}
use Rattle.strm_pair.specs.Prelude.{Standing, QueuePair, once, all_of, AreHeld, owns, queues_in, standing}
use Rattle.strm_types.specs.Ranked as ranked
use Rattle.strm_blocks.specs.Blocks as blocks
use Rattle.strm_msg.proofs.Chains.{rank-same}
use Rattle.strm_frame.proofs.Handing.{once-self}
use Rattle.strm_pair.specs.declared.modules.AnyModule.{AnyModule}
use Rattle.strm_pair.specs.AnyModules.{AnyStanding, IsHeld, module_in}
use Rattle.strm_pair.specs.Shows.{ShowsModules, ShowsPair, one_pair, pairs_of}
use Rattle.strm_pair.specs.Streams.{AreFor, AreShown}

-- chains in order are messages in order
ranks-map : (chain : List Block) (q : List (List Block)) → AllByRecursion (λ later. blocks.rank_of later ≤ blocks.rank_of chain) q → AllByRecursion (λ m. rank_of m ≤ rank_of (message_of chain)) (map message_of q)
ranks-map chain [] all = tt
ranks-map chain (later ∷ q) all = (omega (arith, rank-same later, rank-same chain, all.0), ranks-map chain q all.1)

pub ordered-map : (q : List (List Block)) → ranked.IsOrdered blocks.rank_of q → IsOrdered (map message_of q)
ordered-map [] o = tt
ordered-map (chain ∷ q) o = (ranks-map chain q o.0, ordered-map q o.1)

-- the name that a list is of
pub once-is : (l k : ℕ) → 0 < once l k → l ≡ k
unfolding once
once-is l k some = by (l == k) refl some
  where
    by : (b : Bool) → (l == k) ≡ b → 0 < cond {A = ℕ} b 1 0 → l ≡ k
    by true same some = grind (arith, nat_tests)
    by false other some = absurd (omega (arith, some))

-- of two lists in order the first is no higher than one that is either, and the second is one that is above the first
pub first-low : (r w k : ℕ) → r < w → 0 < once r k + once w k → r ≤ k
first-low r w k less some = by (once r k) refl
  where
    by : (n : ℕ) → once r k ≡ n → r ≤ k
    by zero none = let at = once-is w k (omega (arith, some, none)) in omega (arith, at, less)
    by (suc n) one = let at = once-is r k (omega (arith, one)) in omega (arith, at)

pub second-is : (r w k : ℕ) → r < k → 0 < once r k + once w k → w ≡ k
second-is r w k less some = by (once r k) refl
  where
    by : (n : ℕ) → once r k ≡ n → w ≡ k
    by zero none = once-is w k (omega (arith, some, none))
    by (suc n) one = let at = once-is r k (omega (arith, one)) in absurd (omega (arith, at, less))

-- one that is either of two that follow one another, and those that are
pub either-once : (a k : ℕ) → a ≤ k → k < a + 2 → once a k + once (a + 1) k ≡ 1
unfolding once
either-once a k low high = at (a == k) refl
  where
    at : (v : Bool) → (a == k) ≡ v → cond {A = ℕ} v 1 0 + cond {A = ℕ} (a + 1 == k) 1 0 ≡ 1
    at true is = let no : (a + 1 == k) ≡ false = grind (arith, nat_tests) in rw no refl
    at false is = let yes : (a + 1 == k) ≡ true = grind (arith, nat_tests) in rw yes refl

pub either-within : (a k : ℕ) → 0 < once a k + once (a + 1) k → (a ≤ k) × (k < a + 2)
either-within a k some = by (once a k) refl
  where
    by : (n : ℕ) → once a k ≡ n → (a ≤ k) × (k < a + 2)
    by zero none = let at = once-is (a + 1) k (omega (arith, some, none)) in (omega (arith, at), omega (arith, at))
    by (suc n) one = let at = once-is a k (omega (arith, one)) in (omega (arith, at), omega (arith, at))

pub either-few : (a k : ℕ) → once a k + once (a + 1) k ≤ 1
either-few a k = by (once a k + once (a + 1) k) refl
  where
    by : (n : ℕ) → once a k + once (a + 1) k ≡ n → once a k + once (a + 1) k ≤ 1
    by zero none = omega (arith, none)
    by (suc n) some = let at = either-within a k (omega (arith, some)) in omega (arith, either-once a k at.0 at.1)

module _ (s : StoreValue) where
  one-same : (queues : Option QueuePair) → one_pair (queues_in s queues) ≡ one_pair queues
  one-same None = refl
  one-same (Some pair) = refl

  pub pairs-same : (xs : List AnyStanding) → pairs_of (map (module_in s) xs) ≡ sum_by (λ (x : AnyStanding). one_pair x.queues) xs
  pairs-same [] = refl
  pairs-same (x ∷ xs) = omega (
    arith,
    sum_by-cons (λ (y : AnyStanding). one_pair y.queues) x xs,
    sum_by-cons (λ (p : Standing ℕ). one_pair p.queues) (module_in s x) (map (module_in s) xs),
    one-same x.queues,
    pairs-same xs,
  )

-- Lists from a number on are owned, so many, and none behind them.
pub record Spans (first n : ℕ) (owns : ℕ → ℕ) : Type 0 where
  pub all : (k : ℕ) → first ≤ k → k < first + n → 0 < owns k
  pub none : (k : ℕ) → first + n ≤ k → owns k ≡ 0

-- The first lists from a number on are owned.
pub record Lines (first : ℕ) (owns : ℕ → ℕ) : Type 0 where
  pub owned : (k : ℕ) → 0 < owns k → first ≤ k
  pub closed : (j k : ℕ) → first ≤ j → j ≤ k → 0 < owns k → 0 < owns j

pub for-lines : (s : StoreValue) (first : ℕ) (owns : ℕ → ℕ) → AreFor s first owns → Lines first owns
for-lines s first owns are = record { owned = λ k some. (are.owned k some).0; closed = are.closed }

module _ (s : StoreValue) (first : ℕ) where
  -- how many lists the modules have
  abbrev lists_among : List AnyStanding → ℕ
  lists_among xs = 2 * sum_by (λ (x : AnyStanding). one_pair x.queues) xs

  -- the modules below one
  module _ (x : AnyStanding) (xs : List AnyStanding) (held : AreHeld IsHeld owns s (x ∷ xs)) where
    all-lists : (k : ℕ) → all_of owns (x ∷ xs) k ≡ owns x k + all_of owns xs k
    all-lists k = sum_by-cons (λ y. owns y k) x xs

    pub held-below : AreHeld IsHeld owns s xs
    held-below = record { each = held.each.1; apart = λ k. omega (arith, held.apart k, all-lists k); order = held.order.1 }

    pub closed-below : (j k : ℕ) → j ≤ k → 0 < all_of owns (x ∷ xs) j → 0 < all_of owns xs k → 0 < all_of owns xs j
    closed-below j k le one below = by (all_of owns xs j) refl
      where
        by : (n : ℕ) → all_of owns xs j ≡ n → 0 < all_of owns xs j
        by zero none = absurd (let less = held.order.0 k j below (omega (arith, one, none, all-lists j)) in omega (arith, less, le))
        by (suc n) some = omega (arith, some)

    pub lines-below : Lines first (all_of owns (x ∷ xs)) → Lines first (all_of owns xs)
    lines-below lines = record {
      owned = λ k some. lines.owned k (omega (arith, some, all-lists k));
      closed = λ j k low le some. closed-below j k le (lines.closed j k low le (omega (arith, some, all-lists k))) some;
    }

  -- where the lists of a pair of queues stand, above modules whose lists stand so
  module _ (x : AnyModule) (pair : QueuePair) (xs : List AnyStanding) (held : AreHeld IsHeld owns s (standing x (Some pair) ∷ xs))
      (lines : Lines first (all_of owns (standing x (Some pair) ∷ xs))) (n : ℕ) (below : Spans first n (all_of owns xs)) where
    abbrev reads : ℕ
    reads = pair.read.list

    abbrev writes : ℕ
    writes = pair.write.list

    all-are : (k : ℕ) → all_of owns (standing x (Some pair) ∷ xs) k ≡ once reads k + once writes k + all_of owns xs k
    all-are k = sum_by-cons (λ y. owns y k) (standing x (Some pair)) xs

    apart : reads < writes
    apart = held.each.0.queues.apart

    -- no list of the others is one of its own
    not-below : (k : ℕ) → first ≤ k → 0 < once reads k + once writes k → first + n ≤ k
    not-below k low own = by (nat_le (first + n) k) refl
      where
        by : (b : Bool) → nat_le (first + n) k ≡ b → first + n ≤ k
        by true is = grind (arith, nat_tests)
        by false is =
            let less : k < first + n = grind (arith, nat_tests) in
            absurd (omega (arith, below.all k low less, held.apart k, all-are k, own))

    -- its lists are the next two
    own-at : (k : ℕ) → first + n ≤ k → 0 < all_of owns (standing x (Some pair) ∷ xs) k → 0 < once reads k + once writes k
    own-at k high some = omega (arith, some, all-are k, below.none k high)

    reads-low : first ≤ reads
    reads-low = lines.owned reads (omega (arith, all-are reads, once-self reads))

    reads-high : first + n ≤ reads
    reads-high = not-below reads reads-low (omega (arith, once-self reads))

    pub reads-at : reads ≡ first + n
    reads-at =
        let own = lines.closed (first + n) reads (omega arith) reads-high (omega (arith, all-are reads, once-self reads)) in
        let low = first-low reads writes (first + n) apart (own-at (first + n) (omega arith) own) in
        omega (arith, low, reads-high)

    pub writes-at : writes ≡ first + n + 1
    writes-at =
        let behind : first + n + 1 ≤ writes = omega (arith, reads-at, apart) in
        let own = lines.closed (first + n + 1) writes (omega arith) behind (omega (arith, all-are writes, once-self writes)) in
        second-is reads writes (first + n + 1) (omega (arith, reads-at)) (own-at (first + n + 1) (omega arith) own)

    pub spans-above : Spans first (n + 2) (all_of owns (standing x (Some pair) ∷ xs))
    spans-above = record {
      all = λ k low high. lines.closed k writes low (omega (arith, high, writes-at)) (omega (arith, all-are writes, once-self writes));
      none = λ k high. by k high (once reads k + once writes k) refl;
    }
      where
        by : (k : ℕ) → first + (n + 2) ≤ k → (m : ℕ) → once reads k + once writes k ≡ m → all_of owns (standing x (Some pair) ∷ xs) k ≡ 0
        by k high zero none = omega (arith, all-are k, none, below.none k (omega (arith, high)))
        by k high (suc m) some =
            let is = second-is reads writes k (omega (arith, high, reads-at)) (omega (arith, some)) in absurd (omega (arith, is, high, writes-at))

  -- the lists of modules stand one behind the other
  pub spans : (xs : List AnyStanding) → AreHeld IsHeld owns s xs → Lines first (all_of owns xs) → Spans first (lists_among xs) (all_of owns xs)
  spans [] held lines = record { all = λ k low high. absurd (omega (arith, low, high)); none = λ k high. refl }
  spans (x ∷ xs) held lines = by x.queues held lines (spans xs (held-below x xs held) (lines-below x xs held lines))
    where
      by : (queues : Option QueuePair) → (let y = standing x.module queues in AreHeld IsHeld owns s (y ∷ xs) → Lines first (all_of owns (y ∷ xs))
          → Spans first (lists_among xs) (all_of owns xs) → Spans first (lists_among (y ∷ xs)) (all_of owns (y ∷ xs)))
      by None held lines below =
          let y = standing x.module None in
          let same = sum_by-cons (λ (z : AnyStanding). one_pair z.queues) y xs in
          record {
            all = λ k low high. omega (arith, below.all k low (omega (arith, high, same)), sum_by-cons (λ z. owns z k) y xs);
            none = λ k high. omega (arith, below.none k (omega (arith, high, same)), sum_by-cons (λ z. owns z k) y xs);
          }
      by (Some pair) held lines below =
          let y = standing x.module (Some pair) in
          let more : lists_among xs + 2 ≡ lists_among (y ∷ xs) = omega (arith, sum_by-cons (λ (z : AnyStanding). one_pair z.queues) y xs) in
          let above = spans-above x.module pair xs held lines (lists_among xs) below in
          record {
            all = λ k low high. above.all k low (omega (arith, high, more));
            none = λ k high. above.none k (omega (arith, high, more));
          }

  -- and show their queues
  pair-shown : (x : AnyModule) (pair : QueuePair) (xs : List AnyStanding) → AreHeld IsHeld owns s (standing x (Some pair) ∷ xs)
      → Lines first (all_of owns (standing x (Some pair) ∷ xs)) → ShowsPair s (first + 2 * pairs_of (map (module_in s) xs)) (queues_in s (Some pair))
  pair-shown x pair xs held lines =
      let y = standing x (Some pair) in
      let below = spans xs (held-below y xs held) (lines-below y xs held lines) in
      let n = lists_among xs in
      let same : first + 2 * pairs_of (map (module_in s) xs) ≡ first + n = ap (λ m. first + 2 * m) (pairs-same s xs) in (
        ap (messages_on s) (same ∙ sym (reads-at x pair xs held lines n below)),
        ap (λ k. messages_on s (k + 1)) same ∙ ap (messages_on s) (sym (writes-at x pair xs held lines n below)),
      )

  all-shown : (xs : List AnyStanding) → AreHeld IsHeld owns s xs → Lines first (all_of owns xs)
      → ShowsModules s first (map (module_in s) xs) × AllByRecursion (λ q. IsOrdered q.messages) (queues_of_modules (map (module_in s) xs))
  all-shown [] held lines = (tt, tt)
  all-shown (x ∷ xs) held lines = by x.queues held lines (all-shown xs (held-below x xs held) (lines-below x xs held lines))
    where
      by : (queues : Option QueuePair) → (let y = standing x.module queues in AreHeld IsHeld owns s (y ∷ xs) → Lines first (all_of owns (y ∷ xs))
          → ShowsModules s first (map (module_in s) xs) × AllByRecursion (λ q. IsOrdered q.messages) (queues_of_modules (map (module_in s) xs))
          → ShowsModules s first (map (module_in s) (y ∷ xs)) × AllByRecursion (λ q. IsOrdered q.messages) (queues_of_modules (map (module_in s) (y ∷ xs))))
      by None held lines below = ((tt, below.0), below.1)
      by (Some pair) held lines below =
          let ready = held.each.0.queues in (
            (pair-shown x.module pair xs held lines, below.0),
            (ordered-map (list_at s pair.read.list) ready.read.messages.ordered, (ordered-map (list_at s pair.write.list) ready.write.messages.ordered, below.1)),
          )

  -- so six have room for no more than three pairs
  pub three-pairs : (xs : List AnyStanding) → AreHeld IsHeld owns s xs → AreFor s first (all_of owns xs) → pairs_of (map (module_in s) xs) ≤ 3
  three-pairs xs held are = by (nat_le (pairs_of (map (module_in s) xs)) 3) refl
    where
      by : (b : Bool) → nat_le (pairs_of (map (module_in s) xs)) 3 ≡ b → pairs_of (map (module_in s) xs) ≤ 3
      by true is = grind (arith, nat_tests)
      by false is =
          let many : 3 < pairs_of (map (module_in s) xs) = grind (arith, nat_tests) in
          let owned = (spans xs held (for-lines s first (all_of owns xs) are)).all (first + 6) (omega arith) (omega (arith, many, pairs-same s xs)) in
          absurd (omega (arith, (are.owned (first + 6) owned).1))

  pub stack-shown : (xs : List AnyStanding) → AreHeld IsHeld owns s xs → AreFor s first (all_of owns xs) → AreShown s first (map (module_in s) xs)
  stack-shown xs held are =
      let lines = for-lines s first (all_of owns xs) are in
      let shown = all-shown xs held lines in
      record {
        modules = shown.0;
        few = three-pairs xs held are;
        others = λ k low high. are.spare k (omega (arith, low)) high ((spans xs held lines).none k (omega (arith, low, pairs-same s xs)));
        ordered = shown.1;
      }

-- without a module no list is owned
pub none-own : (s : StoreValue) (xs : List AnyStanding) → map (module_in s) xs ≡ [] → (k : ℕ) → all_of owns xs k ≡ 0
none-own s [] none k = refl
none-own s (x ∷ xs) none k = absurd (cc)
