-- The kept numbers of a queue after each change of its list.
use Rattle.std.proofs.Common.{ℕ, ◌≡◌, ◌≢◌, ◌≤◌, ◌<◌, ◌+◌, Bool, true, false, cond, List, [], ◌∷◌, length, refl, sym, ap, subst, ◌∙◌, arith, get_or-set_same, get_or-set_other, length-set}
use Rattle.std.specs.Prelude.{sum_by, slice_set, if◌then◌else◌, ◌==◌, ◌&&◌, not, nat_le, filter, nat_lt}
use Rattle.std.proofs.lemmas.Bool.Decides.{nat_tests}
use Rattle.std.proofs.lemmas.List.{set_past}
use Rattle.std.proofs.Math.Decide.{dec_lt}
use Rattle.std.proofs.lemmas.List.Sums.{sum_by-cons}
use Rattle.std.specs.List.{AllByRecursion}
use Rattle.strm_types.specs.Ranked as ranked
use Rattle.strm_blocks.specs.Blocks.{Block}
use Rattle.strm_queue.specs.declared.flow.Flow.{Flow}
use Rattle.strm_queue.specs.Flows.{count_in, added_to, removed_from}
use Rattle.strm_queue.specs.Kept.{bytes_of, band_of, is_data, data_share, other_share, count_of, flow_at, no_flow, IsCounted, AreCounted, AllBands, FewBytes}

-- flows with another one at a band
pub flow-same : (flows : List Flow) (band : ℕ) (f : Flow) → band < length flows → flow_at band (slice_set flows band f) ≡ f
flow-same flows band f lt = get_or-set_same flows band f no_flow lt

pub flow-other : (flows : List Flow) (band other : ℕ) (f : Flow) → other ≢ band → flow_at other (slice_set flows band f) ≡ flow_at other flows
flow-other flows band other f apart = get_or-set_other flows band other f no_flow apart

-- what holds of all messages and of one more holds of all after a put and a put back, and of those that are kept
module _ {A : Type 0} (P : A → Type 0) where
  pub all-put : (rank : A → ℕ) (m : A) (q : List A) → P m → AllByRecursion P q → AllByRecursion P (ranked.put rank m q)
  all-put rank m [] here all = (here, tt)
  all-put rank m (x ∷ q) here all = put-at rank m x q (nat_le (rank m) (rank x)) here all (all-put rank m q here all.1)
    where
      put-at : (rank : A → ℕ) (m x : A) (q : List A) (b : Bool) → P m → AllByRecursion P (x ∷ q) → AllByRecursion P (ranked.put rank m q) → AllByRecursion P (cond b (x ∷ ranked.put rank m q) (m ∷ x ∷ q))
      put-at rank m x q true here all ih = (all.0, ih)
      put-at rank m x q false here all ih = (here, all)

  pub all-put_back : (rank : A → ℕ) (m : A) (q : List A) → P m → AllByRecursion P q → AllByRecursion P (ranked.put_back rank m q)
  all-put_back rank m [] here all = (here, tt)
  all-put_back rank m (x ∷ q) here all = back-at rank m x q (nat_lt (rank m) (rank x)) here all (all-put_back rank m q here all.1)
    where
      back-at : (rank : A → ℕ) (m x : A) (q : List A) (b : Bool) → P m → AllByRecursion P (x ∷ q) → AllByRecursion P (ranked.put_back rank m q) → AllByRecursion P (cond b (x ∷ ranked.put_back rank m q) (m ∷ x ∷ q))
      back-at rank m x q true here all ih = (all.0, ih)
      back-at rank m x q false here all ih = (here, all)

  pub all-kept : (test : A → Bool) (q : List A) → AllByRecursion P q → AllByRecursion P (filter test q)
  all-kept test [] all = tt
  all-kept test (x ∷ q) all = kept-at x (filter test q) (test x) all.0 (all-kept test q all.1)
    where
      kept-at : (x : A) (rest : List A) (b : Bool) → P x → AllByRecursion P rest → AllByRecursion P (cond b (x ∷ rest) rest)
      kept-at x rest true here all = (here, all)
      kept-at x rest false here all = all

-- the sums of two parts are the sum of the whole
pub sum-both : {A : Type 0} (f g h : A → ℕ) → ((x : A) → f x + g x ≡ h x) → (xs : List A) → sum_by f xs + sum_by g xs ≡ sum_by h xs
sum-both f g h is [] = refl
sum-both f g h is (x ∷ xs) = let here = is x in omega (arith, here, sum-both f g h is xs, sum_by-cons f x xs, sum_by-cons g x xs, sum_by-cons h x xs)

shares-join : (band : ℕ) (chain : List Block) → data_share band chain + other_share band chain ≡ (if band_of chain == band then bytes_of chain else 0)
shares-join band chain = join (band_of chain == band) (is_data chain)
  where
    join : (a b : Bool) → (if a && b then bytes_of chain else 0) + (if a && not b then bytes_of chain else 0) ≡ (if a then bytes_of chain else 0)
    join true true = omega arith
    join true false = omega arith
    join false b = refl

-- the two kept numbers of a band are its count
pub count-kept : (band : ℕ) (f : Flow) (q : List (List Block)) → IsCounted band f q → count_in f ≡ count_of band q
count-kept band f q is =
    omega (arith, is.data_sum, is.other_sum, sum-both (data_share band) (other_share band) (λ chain. if band_of chain == band then bytes_of chain else 0) (shares-join band) q)

-- a band counts no more than all the bytes
pub count-few : (band : ℕ) (q : List (List Block)) → count_of band q ≤ sum_by bytes_of q
count-few band [] = omega arith
count-few band (chain ∷ q) = omega (arith, few (band_of chain == band), count-few band q, sum_by-cons (λ x. if band_of x == band then bytes_of x else 0) chain q, sum_by-cons bytes_of chain q)
  where
    few : (b : Bool) → (if b then bytes_of chain else 0) ≤ bytes_of chain
    few true = omega arith
    few false = omega arith

-- what a message adds to its own band, and to another
pub data-here : (chain : List Block) → data_share (band_of chain) chain ≡ (if is_data chain then bytes_of chain else 0)
data-here chain = let yes_band : (band_of chain == band_of chain) ≡ true = grind (arith, nat_tests) in rw yes_band refl

pub other-here : (chain : List Block) → other_share (band_of chain) chain ≡ (if is_data chain then 0 else bytes_of chain)
other-here chain =
    let yes_band : (band_of chain == band_of chain) ≡ true = grind (arith, nat_tests) in
    rw yes_band (elim (is_data chain) as (λ b. cond {A = ℕ} (not b) (bytes_of chain) 0 ≡ (if b then 0 else bytes_of chain)) [ true ↦ refl | false ↦ refl ])

data-else : (band : ℕ) (chain : List Block) → (band_of chain == band) ≡ false → data_share band chain ≡ 0
data-else band chain apart = rw apart refl

other-else : (band : ℕ) (chain : List Block) → (band_of chain == band) ≡ false → other_share band chain ≡ 0
other-else band chain apart = rw apart refl

-- a band after a message was added to it, and after it was taken away
added-here : (f : Flow) (q r : List (List Block)) (chain : List Block) (band : ℕ) (kind : Bool) → IsCounted band f q
    → sum_by (data_share band) r ≡ (if kind then bytes_of chain else 0) + sum_by (data_share band) q
    → sum_by (other_share band) r ≡ (if kind then 0 else bytes_of chain) + sum_by (other_share band) q
    → IsCounted band (added_to kind (bytes_of chain) f) r
added-here f q r chain band true is first second = record { data_sum = omega (arith, is.data_sum, first); other_sum = omega (arith, is.other_sum, second); marked = refl }
added-here f q r chain band false is first second = record { data_sum = omega (arith, is.data_sum, first); other_sum = omega (arith, is.other_sum, second); marked = refl }

removed-here : (f : Flow) (q r : List (List Block)) (chain : List Block) (band : ℕ) (kind : Bool) → IsCounted band f q
    → sum_by (data_share band) q ≡ (if kind then bytes_of chain else 0) + sum_by (data_share band) r
    → sum_by (other_share band) q ≡ (if kind then 0 else bytes_of chain) + sum_by (other_share band) r
    → IsCounted band (removed_from kind (bytes_of chain) f) r
removed-here f q r chain band true is first second = record { data_sum = omega (arith, is.data_sum, first); other_sum = omega (arith, is.other_sum, second); marked = refl }
removed-here f q r chain band false is first second = record { data_sum = omega (arith, is.data_sum, first); other_sum = omega (arith, is.other_sum, second); marked = refl }

-- what a band's numbers are where both sums stay
still : (band : ℕ) (f : Flow) (q r : List (List Block)) → IsCounted band f q → sum_by (data_share band) r ≡ sum_by (data_share band) q → sum_by (other_share band) r ≡ sum_by (other_share band) q → IsCounted band f r
still band f q r is first second = record { data_sum = is.data_sum ∙ sym first; other_sum = is.other_sum ∙ sym second; marked = is.marked }

-- the numbers of a queue after a message was added to its list
pub counted-added : (flows : List Flow) (q r : List (List Block)) (chain : List Block) → band_of chain < 256
    → ((f : List Block → ℕ) → sum_by f r ≡ f chain + sum_by f q) → AllBands r → AreCounted flows q
    → AreCounted (slice_set flows (band_of chain) (added_to (is_data chain) (bytes_of chain) (flow_at (band_of chain) flows))) r
counted-added flows q r chain low sums bands is = record {
  bands = bands;
  eight = length-set flows (band_of chain) _ ∙ is.eight;
  each = λ band lt. at band lt (band_of chain == band) refl;
}
  where
    at : (band : ℕ) → band < 256 → (b : Bool) → (band_of chain == band) ≡ b → IsCounted band (flow_at band (slice_set flows (band_of chain) (added_to (is_data chain) (bytes_of chain) (flow_at (band_of chain) flows)))) r
    at band lt true same =
        let e : band_of chain ≡ band = grind (arith, nat_tests) in
        subst (λ k. IsCounted k (flow_at k (slice_set flows (band_of chain) (added_to (is_data chain) (bytes_of chain) (flow_at (band_of chain) flows)))) r) e
        (rw (flow-same flows (band_of chain) (added_to (is_data chain) (bytes_of chain) (flow_at (band_of chain) flows)) (omega (arith, is.eight)))
        (added-here (flow_at (band_of chain) flows) q r chain (band_of chain) (is_data chain) (is.each (band_of chain) low)
        (sums (data_share (band_of chain)) ∙ ap (λ n. n + sum_by (data_share (band_of chain)) q) (data-here chain))
        (sums (other_share (band_of chain)) ∙ ap (λ n. n + sum_by (other_share (band_of chain)) q) (other-here chain))))
    at band lt false apart =
        rw (flow-other flows (band_of chain) band (added_to (is_data chain) (bytes_of chain) (flow_at (band_of chain) flows)) (λ e. grind (arith, nat_tests)))
        (still band (flow_at band flows) q r (is.each band lt)
        (sums (data_share band) ∙ ap (λ n. n + sum_by (data_share band) q) (data-else band chain apart) ∙ omega arith)
        (sums (other_share band) ∙ ap (λ n. n + sum_by (other_share band) q) (other-else band chain apart) ∙ omega arith))

-- and after a message was taken off it
pub counted-removed : (flows : List Flow) (q r : List (List Block)) (chain : List Block) → band_of chain < 256
    → ((f : List Block → ℕ) → sum_by f q ≡ f chain + sum_by f r) → AllBands r → AreCounted flows q
    → AreCounted (slice_set flows (band_of chain) (removed_from (is_data chain) (bytes_of chain) (flow_at (band_of chain) flows))) r
counted-removed flows q r chain low sums bands is = record {
  bands = bands;
  eight = length-set flows (band_of chain) _ ∙ is.eight;
  each = λ band lt. at band lt (band_of chain == band) refl;
}
  where
    at : (band : ℕ) → band < 256 → (b : Bool) → (band_of chain == band) ≡ b → IsCounted band (flow_at band (slice_set flows (band_of chain) (removed_from (is_data chain) (bytes_of chain) (flow_at (band_of chain) flows)))) r
    at band lt true same =
        let e : band_of chain ≡ band = grind (arith, nat_tests) in
        subst (λ k. IsCounted k (flow_at k (slice_set flows (band_of chain) (removed_from (is_data chain) (bytes_of chain) (flow_at (band_of chain) flows)))) r) e
        (rw (flow-same flows (band_of chain) (removed_from (is_data chain) (bytes_of chain) (flow_at (band_of chain) flows)) (omega (arith, is.eight)))
        (removed-here (flow_at (band_of chain) flows) q r chain (band_of chain) (is_data chain) (is.each (band_of chain) low)
        (sums (data_share (band_of chain)) ∙ ap (λ n. n + sum_by (data_share (band_of chain)) r) (data-here chain))
        (sums (other_share (band_of chain)) ∙ ap (λ n. n + sum_by (other_share (band_of chain)) r) (other-here chain))))
    at band lt false apart =
        rw (flow-other flows (band_of chain) band (removed_from (is_data chain) (bytes_of chain) (flow_at (band_of chain) flows)) (λ e. grind (arith, nat_tests)))
        (still band (flow_at band flows) q r (is.each band lt)
        (sym (sums (data_share band) ∙ ap (λ n. n + sum_by (data_share band) r) (data-else band chain apart) ∙ omega arith))
        (sym (sums (other_share band) ∙ ap (λ n. n + sum_by (other_share band) r) (other-else band chain apart) ∙ omega arith)))

-- the counts stay few where one is changed to a small one
pub few-set : (flows : List Flow) (i : ℕ) (f : Flow) → FewBytes flows → count_in f ≤ 16777216 → FewBytes (slice_set flows i f)
few-set flows i f few small = λ band. at band (band == i) refl (dec_lt i (length flows))
  where
    at : (band : ℕ) (b : Bool) → (band == i) ≡ b → Dec (i < length flows) → count_in (flow_at band (slice_set flows i f)) ≤ 16777216
    at band true same (yes lt) =
        let e : i ≡ band = grind (arith, nat_tests) in
        subst (λ k. count_in (flow_at k (slice_set flows i f)) ≤ 16777216) e (rw (flow-same flows i f lt) small)
    at band true same (no ge) =
        let e : slice_set flows i f ≡ flows = set_past flows i f (omega arith) in rw e (few band)
    at band false apart d = rw (flow-other flows i band f (λ e. grind (arith, nat_tests))) (few band)
