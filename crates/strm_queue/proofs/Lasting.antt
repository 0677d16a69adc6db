-- The last message of a queue, taken off it.
use Rattle.std.proofs.Common.{ℕ, ◌≡◌, ◌≤◌, ◌<◌, ◌+◌, List, [], ◌∷◌, ◌++◌, length, map, refl, sym, ap, subst, ◌∙◌, arith}
use Rattle.std.specs.Prelude.{sum_by, slice_set, Option, None, Some, MatchOption}
use Rattle.std.specs.List.{AllByRecursion}
use Rattle.std.proofs.lemmas.List.Sums.{sum_by-cons, sum_by-append}
use Rattle.strm_types.specs.Ranked as ranked
use Rattle.strm_blocks.specs.Blocks.{Block, StoreValue, list_at, in_hand, names_of, placed, rank_of, total, token}
use Rattle.strm_blocks.specs.Outcomes.{PoppedLast, Unpopped}
use Rattle.strm_blocks.specs.declared.in_hand.InHand.{InHand}
use Rattle.strm_blocks.proofs.Laws.{in_hand-held, total-placed, total-held, used-is, references-is, free_m-is, free_d-more}
use Rattle.strm_msg.specs.Messages.{message_of, IsChain, AreMessages}
use Rattle.strm_queue.specs.declared.flow.Flow.{Flow}
use Rattle.strm_queue.specs.declared.queue.Queue.{Queue}
use Rattle.strm_queue.specs.Flows.{plain_flows, removed_from}
use Rattle.strm_queue.specs.Kept.{AreCounted, AllBands, band_of, bytes_of, is_data, flow_at}
use Rattle.strm_queue.specs.Queues.{OnlyCounts}
use Rattle.strm_queue.specs.Stored.{IsReady, FreesBlocks, FreesNone, NoneTaken}
use Rattle.strm_queue.specs.Taken.{TakenLast}
use Rattle.strm_queue.proofs.Counted.{counted-removed}
use Rattle.strm_queue.proofs.Dequeuing.{none-taken}
use Rattle.strm_queue.proofs.Placed.{Landed, landed}

-- what holds of all holds of the last, and of those before it
pub all-before : {A : Type 0} (P : A → Type 0) (xs : List A) (x : A) → AllByRecursion P (xs ++ x ∷ []) → AllByRecursion P xs
all-before P [] x all = tt
all-before P (y ∷ xs) x all = (all.0, all-before P xs x all.1)

pub all-last : {A : Type 0} (P : A → Type 0) (xs : List A) (x : A) → AllByRecursion P (xs ++ x ∷ []) → P x
all-last P [] x all = all.0
all-last P (y ∷ xs) x all = all-last P xs x all.1

-- so does an order
ordered-before : {A : Type 0} (rank : A → ℕ) (xs : List A) (x : A) → ranked.IsOrdered rank (xs ++ x ∷ []) → ranked.IsOrdered rank xs
ordered-before rank [] x o = tt
ordered-before rank (y ∷ xs) x o = (all-before (λ later. rank later ≤ rank y) xs x o.0, ordered-before rank xs x o.1)

map-last : {A B : Type 0} (f : A → B) (xs : List A) (x : A) → map f (xs ++ x ∷ []) ≡ map f xs ++ f x ∷ []
map-last f [] x = refl
map-last f (y ∷ xs) x = ap (λ ys. f y ∷ ys) (map-last f xs x)

-- a sum over all is the last one's and that of those before it
pub sum-last : (f : List Block → ℕ) (rest : List (List Block)) (chain : List Block) → sum_by f (rest ++ chain ∷ []) ≡ f chain + sum_by f rest
sum-last f rest chain = let both = sum_by-append f rest (chain ∷ []) in let one = sum_by-cons f chain [] in omega arith

-- the numbers are right once it is taken
module _ (s : StoreValue) (k : ℕ) (flows : List Flow) (chain : List Block) (rest : List (List Block)) (counted : AreCounted flows (list_at s k)) (is : list_at s k ≡ rest ++ chain ∷ []) where
  bands : AllBands (rest ++ chain ∷ [])
  bands = subst AllBands is counted.bands

  pub last-low : band_of chain < 256
  last-low = all-last (λ c. band_of c < 256) rest chain bands

  pub last-counted : AreCounted (slice_set flows (band_of chain) (removed_from (is_data chain) (bytes_of chain) (flow_at (band_of chain) flows))) rest
  last-counted =
      counted-removed flows (list_at s k) rest chain last-low (λ f. ap (λ q. sum_by f q) is ∙ sum-last f rest chain) (all-before (λ c. band_of c < 256) rest chain bands) counted

module _ (s t : StoreValue) (q q' : Queue) (i : ℕ) (within : q.list < length s.lists) (p : PoppedLast s t q.list i) where
  off : Landed s (placed s q.list p.rest) q.list p.rest
  off = landed s q.list p.rest within

  -- the chain in hand
  pub last-chain : in_hand t i ≡ p.message
  last-chain = ap (λ v. in_hand v i) p.after ∙ in_hand-held (placed s q.list p.rest) i p.message

  pub last-list : list_at t q.list ≡ p.rest
  last-list = ap (λ v. list_at v q.list) p.after ∙ off.here

  -- no block went, and none came
  same : (f : List Block → ℕ) → total f t ≡ total f s
  same f =
      omega (
        arith,
        ap (total f) p.after,
        total-held f (placed s q.list p.rest) i p.message,
        total-placed f s q.list p.rest within,
        sum-last f p.rest p.message,
        ap (λ l. sum_by f l) p.joined,
      )

  frees : FreesBlocks s t
  frees = record {
    mblks = omega (arith, free_m-is s, free_m-is t, used-is s, used-is t, same length, ap (λ (v : StoreValue). v.mblks) p.after);
    dblks = free_d-more s t (ap (λ (v : StoreValue). v.dblks) p.after) (λ d. omega (arith, references-is s d, references-is t d, same (names_of d)));
  }

  none : FreesNone s t
  none = (
    omega (arith, free_m-is s, free_m-is t, used-is s, used-is t, same length, ap (λ (v : StoreValue). v.mblks) p.after),
    free_d-more t s (sym (ap (λ (v : StoreValue). v.dblks) p.after)) (λ d. omega (arith, references-is s d, references-is t d, same (names_of d))),
  )

  pub taken-off : IsReady s q → AreCounted q'.flows (list_at t q'.list) → plain_flows q'.flows ≡ plain_flows q.flows → OnlyCounts q q' → TakenLast s t q q' i
  taken-off ready counted flows others =
      let all = subst AreMessages p.joined ready.messages in
      let rest_is : p.rest ≡ list_at t q'.list = sym (ap (list_at t) others.list ∙ last-list) in
      record {
        fresh = p.fresh_name;
        last = ap (map message_of) p.joined ∙ map-last message_of p.rest p.message ∙ ap (λ c. map message_of p.rest ++ message_of c ∷ []) (sym last-chain) ∙ ap (λ l. map message_of l ++ message_of (in_hand t i) ∷ []) rest_is;
        queue = rw (flows, others.want_read, others.no_enable) refl;
        ready = record {
          messages = subst AreMessages rest_is (record { chains = all-before IsChain p.rest p.message all.chains; ordered = ordered-before rank_of p.rest p.message all.ordered });
          counted = counted;
        };
        chain = subst IsChain (sym last-chain) (all-last IsChain p.rest p.message all.chains);
        list = others.list;
        others = λ k apart. ap (λ v. list_at v k) p.after ∙ off.others k apart;
        hand = ap (λ (v : StoreValue). v.hand) p.after ∙ ap (λ c. record { name = i; chain = c } ∷ s.hand) (sym last-chain);
        mblks = ap (λ (v : StoreValue). v.mblks) p.after;
        dblks = ap (λ (v : StoreValue). v.dblks) p.after;
        frees = frees;
        blocks = none;
      }

-- whether something was taken or not
pub taken-last : (s t : StoreValue) (q q' : Queue) (result : Option InHand) → q.list < length s.lists → IsReady s q → MatchOption result (Unpopped s t q.list) (λ m. PoppedLast s t q.list (token m))
    → AreCounted q'.flows (list_at t q'.list) → plain_flows q'.flows ≡ plain_flows q.flows → OnlyCounts q q' → MatchOption result (NoneTaken s t q q') (λ m. TakenLast s t q q' (token m))
taken-last s t q q' None within ready taken counted flows others = none-taken s t q q' ready taken counted flows others
taken-last s t q q' (Some m) within ready taken counted flows others = taken-off s t q q' (token m) within taken ready counted flows others
