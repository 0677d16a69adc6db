-- The kept numbers of a queue after a flush, with other marks, and after its writers are let go.
use Rattle.std.proofs.Common.{ℕ, suc, ◌≡◌, ◌<◌, ◌≤◌, ◌+◌, nat_le, Bool, true, false, cond, List, [], ◌∷◌, length, take, refl, sym, ap, subst, ◌∙◌, arith, length-set}
use Rattle.std.specs.Prelude.{sum_by, slice_set, if◌then◌else◌, ◌==◌, ◌&&◌, ◌||◌, not, filter, None, Some}
use Rattle.std.proofs.lemmas.Bool.Decides.{nat_tests}
use Rattle.std.proofs.lemmas.List.Sums.{sum_by-cons}
use Rattle.std.proofs.lemmas.List.Folds.{list_any_more}
use Rattle.std.specs.List.{list_any}
use Rattle.strm_types.specs.declared.kinds.Band.{Band}
use Rattle.strm_blocks.specs.Blocks.{Block}
use Rattle.strm_blocks.specs.Outcomes.{flushed}
use Rattle.strm_queue.specs.declared.flow.Flow.{Flow}
use Rattle.strm_queue.specs.Flows.{count_in, IsMarked, flushed_of, marked_with, relieves, relieved}
use Rattle.strm_queue.specs.Kept.{bytes_of, band_of, is_data, data_share, other_share, flow_at, no_flow, IsCounted, AreCounted}
use Rattle.strm_queue.proofs.Counted.{flow-same, flow-other, all-kept}

-- what stays and what goes have the sum of all
parted : (f : List Block → ℕ) (goes : List Block → Bool) (q : List (List Block)) → sum_by f (filter (λ m. not (goes m)) q) + sum_by (λ m. if goes m then f m else 0) q ≡ sum_by f q
parted f goes [] = refl
parted f goes (m ∷ q) = parted-at (goes m) refl (parted f goes q)
  where
    parted-at : (b : Bool) → goes m ≡ b → sum_by f (filter (λ x. not (goes x)) q) + sum_by (λ x. if goes x then f x else 0) q ≡ sum_by f q
        → sum_by f (cond (not b) (m ∷ filter (λ x. not (goes x)) q) (filter (λ x. not (goes x)) q)) + sum_by (λ x. if goes x then f x else 0) (m ∷ q) ≡ sum_by f (m ∷ q)
    parted-at true e ih =
        let here : (if goes m then f m else 0) ≡ f m = rw e refl in
        omega (arith, here, ih, sum_by-cons f m q, sum_by-cons (λ x. if goes x then f x else 0) m q)
    parted-at false e ih =
        let here : (if goes m then f m else 0) ≡ 0 = rw e refl in
        omega (arith, here, ih, sum_by-cons f m q, sum_by-cons f m (filter (λ x. not (goes x)) q), sum_by-cons (λ x. if goes x then f x else 0) m q)

same-sums : (f g : List Block → ℕ) → ((m : List Block) → f m ≡ g m) → (q : List (List Block)) → sum_by f q ≡ sum_by g q
same-sums f g is [] = refl
same-sums f g is (m ∷ q) = let here = is m in omega (arith, here, same-sums f g is q, sum_by-cons f m q, sum_by-cons g m q)

no-sum : (q : List (List Block)) → sum_by (λ m. 0) q ≡ 0
no-sum [] = refl
no-sum (m ∷ q) = omega (arith, no-sum q, sum_by-cons (λ (x : List Block). 0) m q)

-- a flush without a band takes all bytes of data
data-goes : (all : Bool) (band : ℕ) (q : List (List Block)) → sum_by (data_share band) (filter (λ m. not (all || is_data m)) q) ≡ 0
data-goes all band q =
    omega (arith, parted (data_share band) (λ m. all || is_data m) q, same-sums (λ m. if all || is_data m then data_share band m else 0) (data_share band) (λ m. taken all (band_of m == band) (is_data m) (bytes_of m)) q)
  where
    taken : (a b d : Bool) (n : ℕ) → (if a || d then (if b && d then n else 0) else 0) ≡ (if b && d then n else 0)
    taken true b d n = refl
    taken false b true n = refl
    taken false true false n = refl
    taken false false false n = refl

-- and the others where it takes all
others-go : (band : ℕ) (q : List (List Block)) → sum_by (other_share band) (filter (λ m. not (true || is_data m)) q) ≡ 0
others-go band q = omega (arith, parted (other_share band) (λ m. true || is_data m) q)

others-stay : (band : ℕ) (q : List (List Block)) → sum_by (other_share band) (filter (λ m. not (false || is_data m)) q) ≡ sum_by (other_share band) q
others-stay band q =
    omega (arith, parted (other_share band) (λ m. false || is_data m) q, same-sums (λ m. if false || is_data m then other_share band m else 0) (λ m. 0) (λ m. kept (band_of m == band) (is_data m) (bytes_of m)) q, no-sum q)
  where
    kept : (b d : Bool) (n : ℕ) → (if d then (if b && not d then n else 0) else 0) ≡ 0
    kept true true n = refl
    kept false true n = refl
    kept b false n = refl

flush-at : (all : Bool) (band : ℕ) (f : Flow) (q : List (List Block)) → IsCounted band f q → IsCounted band (flushed_of all f) (flushed (record { all = all; band = None }) q)
flush-at true band f q is = record { data_sum = sym (data-goes true band q); other_sum = sym (others-go band q); marked = refl }
flush-at false band f q is = record { data_sum = sym (data-goes false band q); other_sum = is.other_sum ∙ sym (others-stay band q); marked = refl }

-- the numbers are right after a flush
pub counted-flushed : (all : Bool) (old new : List Flow) (q : List (List Block)) → length new ≡ length old → ((band : ℕ) → band < 256 → flow_at band new ≡ flushed_of all (flow_at band old)) → AreCounted old q → AreCounted new (flushed (record { all = all; band = None }) q)
counted-flushed all old new q eight each is = record {
  bands = all-kept (λ chain. band_of chain < 256) _ q is.bands;
  eight = eight ∙ is.eight;
  each = λ band lt. subst (λ f. IsCounted band f (flushed (record { all = all; band = None }) q)) (sym (each band lt)) (flush-at all band (flow_at band old) q (is.each band lt));
}

marked-at : (band high low : ℕ) (f : Flow) (q : List (List Block)) → IsCounted band f q → IsCounted band (marked_with high low f) q
marked-at band high low f q is = record { data_sum = is.data_sum; other_sum = is.other_sum; marked = refl }

-- the numbers stay right with other marks
pub counted-marked : (flows : List Flow) (band high low : ℕ) (q : List (List Block)) → AreCounted flows q → AreCounted (slice_set flows band (marked_with high low (flow_at band flows))) q
counted-marked flows band high low q is = record {
  bands = is.bands;
  eight = length-set flows band _ ∙ is.eight;
  each = λ other lt. at other lt (other == band) refl;
}
  where
    at : (other : ℕ) → other < 256 → (b : Bool) → (other == band) ≡ b → IsCounted other (flow_at other (slice_set flows band (marked_with high low (flow_at band flows)))) q
    at other lt true same =
        let e : band ≡ other = grind (arith, nat_tests) in
        subst (λ k. IsCounted k (flow_at k (slice_set flows band (marked_with high low (flow_at band flows)))) q) e
        (rw (flow-same flows band (marked_with high low (flow_at band flows)) (omega (arith, is.eight, e, lt)))
        (marked-at band high low (flow_at band flows) q (is.each band (omega (arith, e, lt)))))
    at other lt false apart =
        rw (flow-other flows band other (marked_with high low (flow_at band flows)) (λ e. grind (arith, nat_tests))) (is.each other lt)

pub counted-all-marked : (high low : ℕ) (old new : List Flow) (q : List (List Block)) → length new ≡ length old → ((band : ℕ) → band < 256 → flow_at band new ≡ marked_with high low (flow_at band old)) → AreCounted old q → AreCounted new q
counted-all-marked high low old new q eight each is = record {
  bands = is.bands;
  eight = eight ∙ is.eight;
  each = λ band lt. subst (λ f. IsCounted band f q) (sym (each band lt)) (marked-at band high low (flow_at band old) q (is.each band lt));
}

relieved-at : (band : ℕ) (f : Flow) (q : List (List Block)) (b : Bool) → IsCounted band f q → IsCounted band (if b then record f { want_write = false } else f) q
relieved-at band f q true is = record { data_sum = is.data_sum; other_sum = is.other_sum; marked = is.marked }
relieved-at band f q false is = is

-- the numbers stay right where writers are let go
pub counted-relieved : (old new : List Flow) (q : List (List Block)) → length new ≡ length old → ((band : ℕ) → band < 256 → flow_at band new ≡ relieved (flow_at band old)) → AreCounted old q → AreCounted new q
counted-relieved old new q eight each is = record {
  bands = is.bands;
  eight = eight ∙ is.eight;
  each = λ band lt. subst (λ f. IsCounted band f q) (sym (each band lt)) (relieved-at band (flow_at band old) q (relieves (flow_at band old)) (is.each band lt));
}

-- a flush of a band takes its bytes of data alone
band-data-goes : (band : ℕ) (q : List (List Block)) → sum_by (data_share band) (filter (λ m. not (is_data m && (band_of m == band))) q) ≡ 0
band-data-goes band q =
    omega (arith, parted (data_share band) (λ m. is_data m && (band_of m == band)) q, same-sums (λ m. if is_data m && (band_of m == band) then data_share band m else 0) (data_share band) (λ m. taken (band_of m == band) (is_data m) (bytes_of m)) q)
  where
    taken : (b d : Bool) (n : ℕ) → (if d && b then (if b && d then n else 0) else 0) ≡ (if b && d then n else 0)
    taken true true n = refl
    taken true false n = refl
    taken false true n = refl
    taken false false n = refl

band-others-stay : (named band : ℕ) (q : List (List Block)) → sum_by (other_share band) (filter (λ m. not (is_data m && (band_of m == named))) q) ≡ sum_by (other_share band) q
band-others-stay named band q =
    omega (arith, parted (other_share band) (λ m. is_data m && (band_of m == named)) q, same-sums (λ m. if is_data m && (band_of m == named) then other_share band m else 0) (λ m. 0) (λ m. kept (band_of m == named) (band_of m == band) (is_data m) (bytes_of m)) q, no-sum q)
  where
    kept : (a b d : Bool) (n : ℕ) → (if d && a then (if b && not d then n else 0) else 0) ≡ 0
    kept true true true n = refl
    kept true false true n = refl
    kept false b true n = refl
    kept a b false n = refl

-- two bands are not one
not-both : (named band k : ℕ) (a b d : Bool) (n : ℕ) → (band == named) ≡ false → (k == named) ≡ a → (k == band) ≡ b → (if d && a then (if b && d then n else 0) else 0) ≡ 0
not-both named band k true true d n apart first second = absurd (grind (arith, nat_tests))
not-both named band k true false true n apart first second = refl
not-both named band k true false false n apart first second = refl
not-both named band k false b true n apart first second = refl
not-both named band k false b false n apart first second = refl

band-data-stays : (named band : ℕ) (q : List (List Block)) → (band == named) ≡ false → sum_by (data_share band) (filter (λ m. not (is_data m && (band_of m == named))) q) ≡ sum_by (data_share band) q
band-data-stays named band q apart =
    omega (arith, parted (data_share band) (λ m. is_data m && (band_of m == named)) q, same-sums (λ m. if is_data m && (band_of m == named) then data_share band m else 0) (λ m. 0) (λ m. not-both named band (band_of m) _ _ (is_data m) (bytes_of m) apart refl refl) q, no-sum q)

-- the numbers are right after a flush of a band
pub counted-band-flushed : (flows : List Flow) (named : Band) (q : List (List Block)) → named.0 < 256 → AreCounted flows q → AreCounted (slice_set flows named.0 (flushed_of false (flow_at named.0 flows))) (flushed (record { all = false; band = Some named }) q)
counted-band-flushed flows named q low is = record {
  bands = all-kept (λ chain. band_of chain < 256) _ q is.bands;
  eight = length-set flows named.0 _ ∙ is.eight;
  each = λ band lt. at band lt (band == named.0) refl;
}
  where
    at : (band : ℕ) → band < 256 → (b : Bool) → (band == named.0) ≡ b → IsCounted band (flow_at band (slice_set flows named.0 (flushed_of false (flow_at named.0 flows)))) (flushed (record { all = false; band = Some named }) q)
    at band lt true same =
        let e : named.0 ≡ band = grind (arith, nat_tests) in
        subst (λ k. IsCounted k (flow_at k (slice_set flows named.0 (flushed_of false (flow_at named.0 flows)))) (flushed (record { all = false; band = Some named }) q)) e
        (rw (flow-same flows named.0 (flushed_of false (flow_at named.0 flows)) (omega (arith, is.eight, low)))
        (record { data_sum = sym (band-data-goes named.0 q); other_sum = (is.each named.0 low).other_sum ∙ sym (band-others-stay named.0 named.0 q); marked = refl }))
    at band lt false apart =
        rw (flow-other flows named.0 band (flushed_of false (flow_at named.0 flows)) (λ e. grind (arith, nat_tests)))
        (record { data_sum = (is.each band lt).data_sum ∙ sym (band-data-stays named.0 band q apart); other_sum = (is.each band lt).other_sum ∙ sym (band-others-stay named.0 band q); marked = (is.each band lt).marked })

-- a change of each band in turn, so far
pub record Passed (change : Flow → Flow) (old new : List Flow) (band : ℕ) : Type 0 where
  pub eight : length new ≡ length old
  pub before : (k : ℕ) → k < band → flow_at k new ≡ change (flow_at k old)
  pub behind : (k : ℕ) → band ≤ k → flow_at k new ≡ flow_at k old

pub passed-none : (change : Flow → Flow) (old : List Flow) → Passed change old old 0
passed-none change old = record { eight = refl; before = λ k lt. absurd (omega arith); behind = λ k le. refl }

pub passed-more : (change : Flow → Flow) (old new : List Flow) (band : ℕ) → band < length new → Passed change old new band → Passed change old (slice_set new band (change (flow_at band new))) (band + 1)
passed-more change old new band within sofar = record {
  eight = length-set new band _ ∙ sofar.eight;
  before = λ k lt. at k lt (k == band) refl;
  behind = λ k le. flow-other new band k (change (flow_at band new)) (λ e. omega (arith, e, le)) ∙ sofar.behind k (omega (arith, le));
}
  where
    at : (k : ℕ) → k < band + 1 → (b : Bool) → (k == band) ≡ b → flow_at k (slice_set new band (change (flow_at band new))) ≡ change (flow_at k old)
    at k lt true same =
        let e : band ≡ k = grind (arith, nat_tests) in
        subst (λ j. flow_at j (slice_set new band (change (flow_at band new))) ≡ change (flow_at j old)) e
        (flow-same new band (change (flow_at band new)) within ∙ ap change (sofar.behind band (omega arith)))
    at k lt false apart =
        let earlier : k < band = grind (arith, nat_tests) in
        flow-other new band k (change (flow_at band new)) (λ e. omega (arith, e, earlier)) ∙ sofar.before k earlier

-- no band counts more than before
pub flushed-less : (all : Bool) (f : Flow) → count_in (flushed_of all f) ≤ count_in f
flushed-less true f = omega arith
flushed-less false f = omega arith

pub relieved-less : (f : Flow) → count_in (relieved f) ≤ count_in f
relieved-less f = at (relieves f)
  where
    at : (b : Bool) → count_in (if b then record f { want_write = false } else f) ≤ count_in f
    at true = omega arith
    at false = omega arith

pub relieved-marked : (f : Flow) → IsMarked f → IsMarked (relieved f)
relieved-marked f is = at (relieves f)
  where
    at : (b : Bool) → IsMarked (if b then record f { want_write = false } else f)
    at true = is
    at false = is

-- whether some band's writer was let go, with one band more
pub went-more : (old new : List Flow) (band : ℕ) (went : Bool) → band < length old → flow_at band new ≡ flow_at band old → went ≡ list_any relieves (take band old) → (went || relieves (flow_at band new)) ≡ list_any relieves (take (band + 1) old)
went-more old new band went within same sofar =
    ap (λ b. b || relieves (flow_at band new)) sofar ∙ ap (λ f. list_any relieves (take band old) || relieves f) same ∙ sym (list_any_more relieves old band no_flow within)

-- a band without a waiting writer lets none go, and stays
pub waits-none : (f : Flow) → f.want_write ≡ false → relieves f ≡ false
waits-none f is = ap (λ b. b && nat_le (count_in f) f.low) is

pub none-waits : (f : Flow) → f.want_write ≡ false → f ≡ relieved f
none-waits f is = sym (ap (λ b. cond b (record f { want_write = false }) f) (waits-none f is))

pub none-relieved : (flows : List Flow) → ((k : ℕ) → k < length flows → (flow_at k flows).want_write ≡ false) → false ≡ list_any relieves flows
none-relieved [] none = refl
none-relieved (f ∷ flows) none =
    let behind = none-relieved flows (λ k lt. none (suc k) (omega (arith, lt))) in
    ap (λ b. false || b) behind ∙ ap (λ b. b || list_any relieves flows) (sym (waits-none f (none 0 (omega arith))))
