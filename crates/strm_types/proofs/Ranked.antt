-- Lists in order of rank: what put and put back do to the lanes.
use Rattle.std.proofs.Common.{ℕ, zero, suc, ◌≡◌, ◌≤◌, ◌<◌, ◌+◌, Bool, true, false, cond, List, [], ◌∷◌, ◌++◌, map, refl, ap, ◌∙◌, arith}
use Rattle.std.specs.Prelude.{sum_by, if◌then◌else◌, ◌==◌, nat_le, nat_lt}
use Rattle.std.specs.List.{AllByRecursion}
use Rattle.std.proofs.lemmas.Bool.Decides.{nat_tests}
use Rattle.std.proofs.lemmas.List.Sums.{sum_by-cons}
use Rattle.strm_types.specs.Ranked as ranked
use Rattle.strm_types.specs.Ranked.{lanes_down}

module _ {A : Type 0} (rank : A → ℕ) where
  -- a bound on all ranks may grow
  pub AllRanks-weaken : (low high : ℕ) → low ≤ high → (q : List A) → AllByRecursion (λ later. rank later ≤ low) q → AllByRecursion (λ later. rank later ≤ high) q
  AllRanks-weaken low high le [] all = tt
  AllRanks-weaken low high le (m ∷ q) all = (omega (arith, all.0), AllRanks-weaken low high le q all.1)

  -- a put keeps a bound on all ranks
  pub AllRanks-put : (bound : ℕ) (m : A) (q : List A) → rank m ≤ bound → AllByRecursion (λ later. rank later ≤ bound) q → AllByRecursion (λ later. rank later ≤ bound) (ranked.put rank m q)
  AllRanks-put bound m [] le all = (le, tt)
  AllRanks-put bound m (x ∷ q) le all =
      elim (nat_le (rank m) (rank x)) as (λ b. AllByRecursion (λ later. rank later ≤ bound) (cond b (x ∷ ranked.put rank m q) (m ∷ x ∷ q))) [ true ↦ (all.0, AllRanks-put bound m q le all.1) | false ↦ (le, all) ]

  pub AllRanks-put_back : (bound : ℕ) (m : A) (q : List A) → rank m ≤ bound → AllByRecursion (λ later. rank later ≤ bound) q → AllByRecursion (λ later. rank later ≤ bound) (ranked.put_back rank m q)
  AllRanks-put_back bound m [] le all = (le, tt)
  AllRanks-put_back bound m (x ∷ q) le all =
      elim (nat_lt (rank m) (rank x)) as (λ b. AllByRecursion (λ later. rank later ≤ bound) (cond b (x ∷ ranked.put_back rank m q) (m ∷ x ∷ q))) [ true ↦ (all.0, AllRanks-put_back bound m q le all.1) | false ↦ (le, all) ]

  -- put keeps the order
  Ordered-put-at : (m x : A) (q : List A) (b : Bool) → nat_le (rank m) (rank x) ≡ b → ranked.IsOrdered rank (x ∷ q) → ranked.IsOrdered rank (ranked.put rank m q) → ranked.IsOrdered rank (cond b (x ∷ ranked.put rank m q) (m ∷ x ∷ q))
  Ordered-put-at m x q true is o ih = (AllRanks-put (rank x) m q (grind (arith, nat_tests)) o.0, ih)
  Ordered-put-at m x q false is o ih =
      let above : rank x ≤ rank m = grind (arith, nat_tests) in ((above, AllRanks-weaken (rank x) (rank m) above q o.0), o)

  pub Ordered-put : (m : A) (q : List A) → ranked.IsOrdered rank q → ranked.IsOrdered rank (ranked.put rank m q)
  Ordered-put m [] o = (tt, tt)
  Ordered-put m (x ∷ q) o = Ordered-put-at m x q _ refl o (Ordered-put m q o.1)

  -- put_back keeps the order
  Ordered-put_back-at : (m x : A) (q : List A) (b : Bool) → nat_lt (rank m) (rank x) ≡ b → ranked.IsOrdered rank (x ∷ q) → ranked.IsOrdered rank (ranked.put_back rank m q) → ranked.IsOrdered rank (cond b (x ∷ ranked.put_back rank m q) (m ∷ x ∷ q))
  Ordered-put_back-at m x q true is o ih = (AllRanks-put_back (rank x) m q (grind (arith, nat_tests)) o.0, ih)
  Ordered-put_back-at m x q false is o ih =
      let above : rank x ≤ rank m = grind (arith, nat_tests) in ((above, AllRanks-weaken (rank x) (rank m) above q o.0), o)

  pub Ordered-put_back : (m : A) (q : List A) → ranked.IsOrdered rank q → ranked.IsOrdered rank (ranked.put_back rank m q)
  Ordered-put_back m [] o = (tt, tt)
  Ordered-put_back m (x ∷ q) o = Ordered-put_back-at m x q _ refl o (Ordered-put_back m q o.1)

  -- a lane above all ranks is empty
  pub lane-above : (r bound : ℕ) (q : List A) → bound < r → AllByRecursion (λ later. rank later ≤ bound) q → ranked.lane rank r q ≡ []
  lane-above r bound [] lt all = refl
  lane-above r bound (x ∷ q) lt all =
      let no : (rank x == r) ≡ false = grind (arith, nat_tests) in
      rw no (lane-above r bound q lt all.1)

  -- the lane of one more member in front
  abbrev pub front_of : Bool → A → List A → List A
  front_of b m q = if b then m ∷ q else q

  -- put adds to the lane of its rank, at the end, and to no other
  abbrev pub behind : Bool → A → List A → List A
  behind b m q = if b then q ++ m ∷ [] else q

  lane-put-stays : (r : ℕ) (m x : A) (q : List A) (b : Bool) → ranked.lane rank r (ranked.put rank m q) ≡ behind (rank m == r) m (ranked.lane rank r q) → cond b (x ∷ ranked.lane rank r (ranked.put rank m q)) (ranked.lane rank r (ranked.put rank m q)) ≡ behind (rank m == r) m (cond b (x ∷ ranked.lane rank r q) (ranked.lane rank r q))
  lane-put-stays r m x q true ih = rw ih (elim (rank m == r) as (λ b. x ∷ behind b m (ranked.lane rank r q) ≡ behind b m (x ∷ ranked.lane rank r q)) [ true ↦ refl | false ↦ refl ])
  lane-put-stays r m x q false ih = ih

  lane-put-here : (r : ℕ) (m : A) (q : List A) (b : Bool) → (b ≡ true → ranked.lane rank r q ≡ []) → cond b (m ∷ ranked.lane rank r q) (ranked.lane rank r q) ≡ behind b m (ranked.lane rank r q)
  lane-put-here r m q true none = rw (none refl) refl
  lane-put-here r m q false none = refl

  lane-put-at : (r : ℕ) (m x : A) (q : List A) (b : Bool) → nat_le (rank m) (rank x) ≡ b → ranked.IsOrdered rank (x ∷ q) → ranked.lane rank r (ranked.put rank m q) ≡ behind (rank m == r) m (ranked.lane rank r q) → ranked.lane rank r (cond b (x ∷ ranked.put rank m q) (m ∷ x ∷ q)) ≡ behind (rank m == r) m (ranked.lane rank r (x ∷ q))
  lane-put-at r m x q true is o ih = lane-put-stays r m x q (rank x == r) ih
  lane-put-at r m x q false is o ih =
      lane-put-here r m (x ∷ q) (rank m == r) (λ same. lane-above r (rank x) (x ∷ q) (grind (arith, nat_tests)) (omega arith, o.0))

  pub lane-put : (r : ℕ) (m : A) (q : List A) → ranked.IsOrdered rank q → ranked.lane rank r (ranked.put rank m q) ≡ behind (rank m == r) m (ranked.lane rank r q)
  lane-put r m [] o = elim (rank m == r) as (λ b. cond b (m ∷ []) [] ≡ behind b m []) [ true ↦ refl | false ↦ refl ]
  lane-put r m (x ∷ q) o = lane-put-at r m x q _ refl o (lane-put r m q o.1)

  -- put_back adds to the lane of its rank, in front, and to no other
  lane-put_back-stays : (r : ℕ) (m x : A) (q : List A) (b : Bool) → (b ≡ true → (rank m == r) ≡ false) → ranked.lane rank r (ranked.put_back rank m q) ≡ front_of (rank m == r) m (ranked.lane rank r q) → cond b (x ∷ ranked.lane rank r (ranked.put_back rank m q)) (ranked.lane rank r (ranked.put_back rank m q)) ≡ front_of (rank m == r) m (cond b (x ∷ ranked.lane rank r q) (ranked.lane rank r q))
  lane-put_back-stays r m x q true apart ih = rw (ih, apart refl) refl
  lane-put_back-stays r m x q false apart ih = ih

  lane-put_back-at : (r : ℕ) (m x : A) (q : List A) (b : Bool) → nat_lt (rank m) (rank x) ≡ b → ranked.lane rank r (ranked.put_back rank m q) ≡ front_of (rank m == r) m (ranked.lane rank r q) → ranked.lane rank r (cond b (x ∷ ranked.put_back rank m q) (m ∷ x ∷ q)) ≡ front_of (rank m == r) m (ranked.lane rank r (x ∷ q))
  lane-put_back-at r m x q true is ih = lane-put_back-stays r m x q (rank x == r) (λ same. grind (arith, nat_tests)) ih
  lane-put_back-at r m x q false is ih = refl

  pub lane-put_back : (r : ℕ) (m : A) (q : List A) → ranked.lane rank r (ranked.put_back rank m q) ≡ front_of (rank m == r) m (ranked.lane rank r q)
  lane-put_back r m [] = refl
  lane-put_back r m (x ∷ q) = lane-put_back-at r m x q _ refl (lane-put_back r m q)

  -- an ordered list is its lanes, joined from the highest rank down
  lanes_down-beyond : (n : ℕ) (m : A) (q : List A) → n < rank m → lanes_down rank n (m ∷ q) ≡ lanes_down rank n q
  unfolding lanes_down
  lanes_down-beyond zero m q lt = let no : (rank m == 0) ≡ false = grind (arith, nat_tests) in rw no refl
  lanes_down-beyond (suc n) m q lt =
      let no : (rank m == suc n) ≡ false = grind (arith, nat_tests) in
      let ih : lanes_down rank n (m ∷ q) ≡ lanes_down rank n q = lanes_down-beyond n m q (omega arith) in rw (no, ih) refl

  lanes_down-front-at : (n : ℕ) (m : A) (q : List A) (b : Bool) → (rank m == suc n) ≡ b → rank m ≤ suc n → AllByRecursion (λ later. rank later ≤ rank m) q → (rank m ≤ n → lanes_down rank n (m ∷ q) ≡ m ∷ lanes_down rank n q) → cond b (m ∷ ranked.lane rank (suc n) q) (ranked.lane rank (suc n) q) ++ lanes_down rank n (m ∷ q) ≡ m ∷ (ranked.lane rank (suc n) q ++ lanes_down rank n q)
  lanes_down-front-at n m q true is le all ih = ap (λ xs. m ∷ (ranked.lane rank (suc n) q ++ xs)) (lanes_down-beyond n m q (grind (arith, nat_tests)))
  lanes_down-front-at n m q false is le all ih =
      let none : ranked.lane rank (suc n) q ≡ [] = lane-above (suc n) (rank m) q (grind (arith, nat_tests)) all in
      rw none (ih (grind (arith, nat_tests)))

  lanes_down-front : (n : ℕ) (m : A) (q : List A) → rank m ≤ n → AllByRecursion (λ later. rank later ≤ rank m) q → lanes_down rank n (m ∷ q) ≡ m ∷ lanes_down rank n q
  unfolding lanes_down
  lanes_down-front zero m q le all =
      let yes : (rank m == 0) ≡ true = grind (arith, nat_tests) in rw yes refl
  lanes_down-front (suc n) m q le all = lanes_down-front-at n m q _ refl le all (λ low. lanes_down-front n m q low all)

  lanes_down-none : (n : ℕ) → lanes_down rank n [] ≡ []
  unfolding lanes_down
  lanes_down-none zero = refl
  lanes_down-none (suc n) = lanes_down-none n

  pub lanes_down-whole : (n : ℕ) (q : List A) → ranked.IsOrdered rank q → AllByRecursion (λ m. rank m ≤ n) q → lanes_down rank n q ≡ q
  lanes_down-whole n [] o all = lanes_down-none n
  lanes_down-whole n (m ∷ q) o all = lanes_down-front n m q all.0 o.0 ∙ ap (λ xs. m ∷ xs) (lanes_down-whole n q o.1 all.1)

  -- sums over a list gain what is put on it
  sum-put-at : (f : A → ℕ) (m x : A) (q : List A) (b : Bool) → sum_by f (ranked.put rank m q) ≡ f m + sum_by f q → sum_by f (cond b (x ∷ ranked.put rank m q) (m ∷ x ∷ q)) ≡ f m + sum_by f (x ∷ q)
  sum-put-at f m x q true ih = omega (arith, ih, sum_by-cons f x (ranked.put rank m q), sum_by-cons f x q)
  sum-put-at f m x q false ih = sum_by-cons f m (x ∷ q)

  pub sum-put : (f : A → ℕ) (m : A) (q : List A) → sum_by f (ranked.put rank m q) ≡ f m + sum_by f q
  sum-put f m [] = sum_by-cons f m []
  sum-put f m (x ∷ q) = sum-put-at f m x q _ (sum-put f m q)

  sum-put_back-at : (f : A → ℕ) (m x : A) (q : List A) (b : Bool) → sum_by f (ranked.put_back rank m q) ≡ f m + sum_by f q → sum_by f (cond b (x ∷ ranked.put_back rank m q) (m ∷ x ∷ q)) ≡ f m + sum_by f (x ∷ q)
  sum-put_back-at f m x q true ih = omega (arith, ih, sum_by-cons f x (ranked.put_back rank m q), sum_by-cons f x q)
  sum-put_back-at f m x q false ih = sum_by-cons f m (x ∷ q)

  pub sum-put_back : (f : A → ℕ) (m : A) (q : List A) → sum_by f (ranked.put_back rank m q) ≡ f m + sum_by f q
  sum-put_back f m [] = sum_by-cons f m []
  sum-put_back f m (x ∷ q) = sum-put_back-at f m x q _ (sum-put_back f m q)

  -- behind members of this rank or more, a put comes last
  pub put-last : (m : A) (q : List A) → AllByRecursion (λ x. rank m ≤ rank x) q → ranked.put rank m q ≡ q ++ m ∷ []
  put-last m [] all = refl
  put-last m (x ∷ q) all =
      let yes : nat_le (rank m) (rank x) ≡ true = let le : rank m ≤ rank x = all.0 in grind (arith, nat_tests) in
      rw yes (ap (λ xs. x ∷ xs) (put-last m q all.1))

  -- before members of this rank or less, what is put back comes first
  pub put_back-first : (m : A) (q : List A) → AllByRecursion (λ x. rank x ≤ rank m) q → ranked.put_back rank m q ≡ m ∷ q
  put_back-first m [] all = refl
  put_back-first m (x ∷ q) all =
      let no : nat_lt (rank m) (rank x) ≡ false = let le : rank x ≤ rank m = all.0 in grind (arith, nat_tests) in rw no refl

-- a map that keeps ranks commutes with a put and with a put back
module _ {A B : Type 0} (f : A → B) (rank : A → ℕ) (mapped : B → ℕ) (same : (x : A) → mapped (f x) ≡ rank x) where
  put-map-at : (m x : A) (q : List A) (b : Bool) → map f (ranked.put rank m q) ≡ ranked.put mapped (f m) (map f q)
      → map f (cond b (x ∷ ranked.put rank m q) (m ∷ x ∷ q)) ≡ cond b (f x ∷ ranked.put mapped (f m) (map f q)) (f m ∷ f x ∷ map f q)
  put-map-at m x q true ih = ap (λ xs. f x ∷ xs) ih
  put-map-at m x q false ih = refl

  pub put-map : (m : A) (q : List A) → map f (ranked.put rank m q) ≡ ranked.put mapped (f m) (map f q)
  put-map m [] = refl
  put-map m (x ∷ q) = rw (same m, same x) (put-map-at m x q (nat_le (rank m) (rank x)) (put-map m q))

  put_back-map-at : (m x : A) (q : List A) (b : Bool) → map f (ranked.put_back rank m q) ≡ ranked.put_back mapped (f m) (map f q)
      → map f (cond b (x ∷ ranked.put_back rank m q) (m ∷ x ∷ q)) ≡ cond b (f x ∷ ranked.put_back mapped (f m) (map f q)) (f m ∷ f x ∷ map f q)
  put_back-map-at m x q true ih = ap (λ xs. f x ∷ xs) ih
  put_back-map-at m x q false ih = refl

  pub put_back-map : (m : A) (q : List A) → map f (ranked.put_back rank m q) ≡ ranked.put_back mapped (f m) (map f q)
  put_back-map m [] = refl
  put_back-map m (x ∷ q) = rw (same m, same x) (put_back-map-at m x q (nat_lt (rank m) (rank x)) (put_back-map m q))
