-- Lists in order of rank, and the places of messages that are put on them.
use Rattle.std.proofs.Common.{ℕ, zero, suc, ◌≡◌, ◌≤◌, ◌<◌, ◌+◌, ◌-◌, Bool, true, false, cond, eqb, List, [], ◌∷◌, ◌++◌, length, take, drop, get_or, map, filter, refl, ap, ◌∙◌, arith}
use Rattle.std.proofs.Math.ListN.{set}
use Rattle.std.specs.Prelude.{nat_le, nat_lt, replicate}
use Rattle.std.specs.List.{prefix_len, AllByRecursion}
use Rattle.std.proofs.lemmas.Bool.Decides.{nat_tests}
use Rattle.std.proofs.lemmas.Grind.{get_or-set_at}
use Rattle.std.proofs.lemmas.List.{get_or-set_other}
use Rattle.strm_types.specs.Ranked as ranked
use Rattle.strm_types.proofs.Ranked.{AllRanks-weaken, Ordered-put, Ordered-put_back, put-map, put_back-map}
use Rattle.strm_blocks.specs.Blocks.{rank_of, put, put_back}
use Rattle.strm_blocks.specs.Message.{rank_in, listed_rank, AreOrdered, without_at}
use Rattle.strm_blocks.specs.Table.{chain_of, lists_of}
use Rattle.strm_blocks.specs.declared.message.Message.{Message}
use Rattle.strm_blocks.proofs.Values.{rank-value}

module _ {A : Type 0} (rank : A → ℕ) where
  -- a member that is put at the end of those of at least its rank, or before those of at most its rank
  put-place-at : (m x : A) (q : List A) (n : ℕ) (b : Bool) → take n q ++ ((m ∷ []) ++ drop n q) ≡ ranked.put rank m q → take (cond b (1 + n) 0) (x ∷ q) ++ ((m ∷ []) ++ drop (cond b (1 + n) 0) (x ∷ q)) ≡ cond b (x ∷ ranked.put rank m q) (m ∷ x ∷ q)
  put-place-at m x q n true ih = let one : 1 + n ≡ suc n = omega arith in ap (λ k. take k (x ∷ q) ++ ((m ∷ []) ++ drop k (x ∷ q))) one ∙ ap (λ rest. x ∷ rest) ih
  put-place-at m x q n false ih = refl

  pub put-place : (m : A) (q : List A) → take (prefix_len (λ x. nat_le (rank m) (rank x)) q) q ++ ((m ∷ []) ++ drop (prefix_len (λ x. nat_le (rank m) (rank x)) q) q) ≡ ranked.put rank m q
  put-place m [] = refl
  put-place m (x ∷ q) = put-place-at m x q (prefix_len (λ x. nat_le (rank m) (rank x)) q) (nat_le (rank m) (rank x)) (put-place m q)

  put_back-place-at : (m x : A) (q : List A) (n : ℕ) (b : Bool) → take n q ++ ((m ∷ []) ++ drop n q) ≡ ranked.put_back rank m q → take (cond b (1 + n) 0) (x ∷ q) ++ ((m ∷ []) ++ drop (cond b (1 + n) 0) (x ∷ q)) ≡ cond b (x ∷ ranked.put_back rank m q) (m ∷ x ∷ q)
  put_back-place-at m x q n true ih = let one : 1 + n ≡ suc n = omega arith in ap (λ k. take k (x ∷ q) ++ ((m ∷ []) ++ drop k (x ∷ q))) one ∙ ap (λ rest. x ∷ rest) ih
  put_back-place-at m x q n false ih = refl

  pub put_back-place : (m : A) (q : List A) → take (prefix_len (λ x. nat_lt (rank m) (rank x)) q) q ++ ((m ∷ []) ++ drop (prefix_len (λ x. nat_lt (rank m) (rank x)) q) q) ≡ ranked.put_back rank m q
  put_back-place m [] = refl
  put_back-place m (x ∷ q) = put_back-place-at m x q (prefix_len (λ x. nat_lt (rank m) (rank x)) q) (nat_lt (rank m) (rank x)) (put_back-place m q)

  -- where the last member has a rank or more, all have
  last-lowest : (r : ℕ) (d : A) (q : List A) → 0 < length q → ranked.IsOrdered rank q → r ≤ rank (get_or q (length q - 1) d) → AllByRecursion (λ x. r ≤ rank x) q
  last-lowest r d [] some o le = absurd (omega arith)
  last-lowest r d (x ∷ []) some o le = (le, tt)
  last-lowest r d (x ∷ y ∷ q) some o le =
      let e : length (x ∷ y ∷ q) - 1 ≡ suc (length (y ∷ q) - 1) = omega arith in
      let last = ap (λ n. rank (get_or (x ∷ y ∷ q) n d)) e in
      let ih = last-lowest r d (y ∷ q) (omega arith) o.1 (omega arith) in
      let here : r ≤ rank y = ih.0 in
      let above : rank y ≤ rank x = o.0.0 in
      (omega arith, ih)

  prefix-all : (r : ℕ) (q : List A) → AllByRecursion (λ x. r ≤ rank x) q → length q ≡ prefix_len (λ x. nat_le r (rank x)) q
  prefix-all r [] all = refl
  prefix-all r (x ∷ q) all =
      let yes : nat_le r (rank x) ≡ true = let le : r ≤ rank x = all.0 in grind (arith, nat_tests) in
      let ih = prefix-all r q all.1 in
      rw yes (omega arith)

  pub behind-last : (r : ℕ) (d : A) (q : List A) → 0 < length q → ranked.IsOrdered rank q → r ≤ rank (get_or q (length q - 1) d) → length q ≡ prefix_len (λ x. nat_le r (rank x)) q
  behind-last r d q some o le = prefix-all r q (last-lowest r d q some o le)

  -- members that are taken out leave the order
  AllRanks-filter : (bound : ℕ) (p : A → Bool) (q : List A) → AllByRecursion (λ x. rank x ≤ bound) q → AllByRecursion (λ x. rank x ≤ bound) (filter p q)
  AllRanks-filter bound p [] all = tt
  AllRanks-filter bound p (x ∷ q) all = elim (p x) as (λ b. AllByRecursion (λ x. rank x ≤ bound) (cond b (x ∷ filter p q) (filter p q))) [ true ↦ (all.0, AllRanks-filter bound p q all.1) | false ↦ AllRanks-filter bound p q all.1 ]

  pub Ordered-filter : (p : A → Bool) (q : List A) → ranked.IsOrdered rank q → ranked.IsOrdered rank (filter p q)
  Ordered-filter p [] o = tt
  Ordered-filter p (x ∷ q) o = elim (p x) as (λ b. ranked.IsOrdered rank (cond b (x ∷ filter p q) (filter p q))) [ true ↦ (AllRanks-filter (rank x) p q o.0, Ordered-filter p q o.1) | false ↦ Ordered-filter p q o.1 ]

-- a message taken off
AllRanks-without : (bound n : ℕ) (q : List Message) → AllByRecursion (λ m. listed_rank m ≤ bound) q → AllByRecursion (λ m. listed_rank m ≤ bound) (without_at n q)
AllRanks-without bound zero [] all = tt
AllRanks-without bound (suc n) [] all = tt
AllRanks-without bound zero (m ∷ q) all = all.1
AllRanks-without bound (suc n) (m ∷ q) all = (all.0, AllRanks-without bound n q all.1)

pub Ordered-without : (n : ℕ) (q : List Message) → ranked.IsOrdered listed_rank q → ranked.IsOrdered listed_rank (without_at n q)
Ordered-without zero [] o = tt
Ordered-without (suc n) [] o = tt
Ordered-without zero (m ∷ q) o = o.1
Ordered-without (suc n) (m ∷ q) o = (AllRanks-without (listed_rank m) n q o.0, Ordered-without n q o.1)

-- a message put in its place
pub Ordered-behind : (m : Message) (q q' : List Message) (p : ℕ) → ranked.IsOrdered listed_rank q → p ≡ prefix_len (λ x. nat_le (rank_in m.blocks) (rank_in x.blocks)) q → q' ≡ take p q ++ ((m ∷ []) ++ drop p q) → ranked.IsOrdered listed_rank q'
Ordered-behind m q q' p o ep eq = rw (eq, ep, put-place listed_rank m q) (Ordered-put listed_rank m q o)

pub Ordered-before : (m : Message) (q q' : List Message) (p : ℕ) → ranked.IsOrdered listed_rank q → p ≡ prefix_len (λ x. nat_lt (rank_in m.blocks) (rank_in x.blocks)) q → q' ≡ take p q ++ ((m ∷ []) ++ drop p q) → ranked.IsOrdered listed_rank q'
Ordered-before m q q' p o ep eq = rw (eq, ep, put_back-place listed_rank m q) (Ordered-put_back listed_rank m q o)

-- all lists, where one changes
pub AreOrdered-set : (lists : List (List Message)) (k : ℕ) (q : List Message) → k < length lists → AreOrdered lists → ranked.IsOrdered listed_rank q → AreOrdered (set lists k q)
AreOrdered-set lists k q within all o j = elim (eqb j k) as (λ b. (eqb j k ≡ b) → ranked.IsOrdered listed_rank (get_or (set lists k q) j [])) [
  | true ↦ (λ e. let same : j ≡ k = grind (arith, nat_tests) in rw (get_or-set_at lists k j q [] same (omega arith)) o)
  | false ↦ (λ e. rw (get_or-set_other lists k j q [] (grind (arith, nat_tests))) (all j))
] refl

get_or-empty : (n k : ℕ) → get_or {A = List Message} (replicate n []) k [] ≡ []
get_or-empty zero k = refl
get_or-empty (suc n) zero = refl
get_or-empty (suc n) (suc k) = get_or-empty n k

pub AreOrdered-empty : (n : ℕ) → AreOrdered (replicate n [])
AreOrdered-empty n k = rw (get_or-empty n k) tt

module _ (bytes : List (List ℕ)) where
  -- the lists of the value are in order too
  ranks-value : (bound : ℕ) (q : List Message) → AllByRecursion (λ m. rank_in m.blocks ≤ bound) q → AllByRecursion (λ chain. rank_of chain ≤ bound) (map (chain_of bytes) q)
  ranks-value bound [] all = tt
  ranks-value bound (m ∷ q) all =
      let le : rank_in m.blocks ≤ bound = all.0 in
      let r = rank-value bytes m in
      (omega arith, ranks-value bound q all.1)

  order-value : (q : List Message) → ranked.IsOrdered listed_rank q → ranked.IsOrdered rank_of (map (chain_of bytes) q)
  order-value [] o = tt
  order-value (m ∷ q) o =
      let r = rank-value bytes m in
      (AllRanks-weaken rank_of (rank_in m.blocks) (rank_of (chain_of bytes m)) (omega arith) (map (chain_of bytes) q) (ranks-value (rank_in m.blocks) q o.0), order-value q o.1)

  get_or-value : (lists : List (List Message)) (k : ℕ) → get_or (lists_of bytes lists) k [] ≡ map (chain_of bytes) (get_or lists k [])
  get_or-value [] k = refl
  get_or-value (q ∷ lists) zero = refl
  get_or-value (q ∷ lists) (suc k) = get_or-value lists k

  pub ordered-value : (lists : List (List Message)) → AreOrdered lists → (k : ℕ) → ranked.IsOrdered rank_of (get_or (lists_of bytes lists) k [])
  ordered-value lists all k = rw (get_or-value lists k) (order-value (get_or lists k []) (all k))

  -- putq and putbq on a list
  pub put-value : (m : Message) (q : List Message) → (p : ℕ) → p ≡ prefix_len (λ x. nat_le (rank_in m.blocks) (rank_in x.blocks)) q → map (chain_of bytes) (take p q ++ ((m ∷ []) ++ drop p q)) ≡ put (chain_of bytes m) (map (chain_of bytes) q)
  put-value m q p e = rw e (ap (λ (q : List Message). map (chain_of bytes) q) (put-place listed_rank m q) ∙ put-map (chain_of bytes) listed_rank rank_of (rank-value bytes) m q)

  pub put_back-value : (m : Message) (q : List Message) → (p : ℕ) → p ≡ prefix_len (λ x. nat_lt (rank_in m.blocks) (rank_in x.blocks)) q → map (chain_of bytes) (take p q ++ ((m ∷ []) ++ drop p q)) ≡ put_back (chain_of bytes m) (map (chain_of bytes) q)
  put_back-value m q p e = rw e (ap (λ (q : List Message). map (chain_of bytes) q) (put_back-place listed_rank m q) ∙ put_back-map (chain_of bytes) listed_rank rank_of (rank-value bytes) m q)
