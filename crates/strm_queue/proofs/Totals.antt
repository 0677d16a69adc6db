-- The counts of the bands add up to the bytes of all messages.
use Rattle.std.proofs.Common.{ℕ, zero, suc, ◌≡◌, ◌≤◌, ◌<◌, ◌+◌, ◌*◌, Bool, true, false, List, [], ◌∷◌, length, take, refl, sym, ap, ◌∙◌, arith}
use Rattle.std.specs.Prelude.{sum_by, nat_lt, ◌==◌, ◌&&◌, if◌then◌else◌}
use Rattle.std.proofs.lemmas.Bool.Decides.{nat_tests}
use Rattle.std.proofs.lemmas.List.{take_all}
use Rattle.std.proofs.lemmas.List.Sums.{sum_by-cons, sum_by_more}
use Rattle.strm_blocks.specs.Blocks.{Block}
use Rattle.strm_queue.specs.declared.flow.Flow.{Flow}
use Rattle.strm_queue.specs.Flows.{count_in, kept_bytes}
use Rattle.strm_queue.specs.Kept.{bytes_of, data_bytes_of, band_of, is_data, data_share, flow_at, no_flow, AllBands, AreCounted, FewBytes}
use Rattle.strm_queue.proofs.Counted.{count-kept, sum-both}

-- Numbers that are kept for each band, and what a message adds to them all.
module _ (kept : Flow → ℕ) (adds : List Block → ℕ) where
  -- the numbers of the bands below one
  abbrev pub counts_below : ℕ → List Flow → ℕ
  counts_below zero flows = 0
  counts_below (suc band) flows = counts_below band flows + kept (flow_at band flows)

  pub below-small : (band : ℕ) (flows : List Flow) → ((f : Flow) → kept f ≤ count_in f) → FewBytes flows → counts_below band flows ≤ band * 16777216
  below-small zero flows less few = omega arith
  below-small (suc band) flows less few = let here = few band in let part = less (flow_at band flows) in omega (arith, here, part, below-small band flows less few)

  -- what a message adds to the bands below one
  abbrev share_below : ℕ → List Block → ℕ
  share_below band chain = if nat_lt (band_of chain) band then adds chain else 0

  -- and to one band
  abbrev pub share_at : ℕ → List Block → ℕ
  share_at band chain = if band_of chain == band then adds chain else 0

  none-below : (q : List (List Block)) → sum_by (share_below 0) q ≡ 0
  none-below [] = refl
  none-below (chain ∷ q) =
      let no : nat_lt (band_of chain) 0 ≡ false = grind (arith, nat_tests) in
      let here : share_below 0 chain ≡ 0 = rw no refl in
      omega (arith, here, none-below q, sum_by-cons (share_below 0) chain q)

  one-more : (band : ℕ) (chain : List Block) → share_below band chain + share_at band chain ≡ share_below (suc band) chain
  one-more band chain = at (nat_lt (band_of chain) band) (band_of chain == band) (nat_lt (band_of chain) (suc band)) refl refl refl
    where
      at : (low here next : Bool) → nat_lt (band_of chain) band ≡ low → (band_of chain == band) ≡ here → nat_lt (band_of chain) (suc band) ≡ next
          → (if low then adds chain else 0) + (if here then adds chain else 0) ≡ (if next then adds chain else 0)
      at true true next l h n = absurd (grind (arith, nat_tests))
      at true false true l h n = omega arith
      at true false false l h n = absurd (grind (arith, nat_tests))
      at false true true l h n = omega arith
      at false true false l h n = absurd (grind (arith, nat_tests))
      at false false true l h n = absurd (grind (arith, nat_tests))
      at false false false l h n = omega arith

  module _ (flows : List Flow) (q : List (List Block)) (each : (band : ℕ) → band < 256 → kept (flow_at band flows) ≡ sum_by (share_at band) q) where
    below-is : (band : ℕ) → band ≤ 256 → counts_below band flows ≡ sum_by (share_below band) q
    below-is zero le = sym (none-below q)
    below-is (suc band) le =
        omega (arith, below-is band (omega (arith, le)), each band (omega (arith, le)), sum-both (share_below band) (share_at band) (share_below (suc band)) (one-more band) q)

  all-below : (q : List (List Block)) → AllBands q → sum_by (share_below 256) q ≡ sum_by adds q
  all-below [] all = refl
  all-below (chain ∷ q) all =
      let low = all.0 in
      let yes : nat_lt (band_of chain) 256 ≡ true = grind (arith, nat_tests) in
      let here : share_below 256 chain ≡ adds chain = rw yes refl in
      omega (arith, here, all-below q all.1, sum_by-cons (share_below 256) chain q, sum_by-cons adds chain q)

  pub sums : (flows : List Flow) (q : List (List Block)) → ((band : ℕ) → band < 256 → kept (flow_at band flows) ≡ sum_by (share_at band) q) → AllBands q → counts_below 256 flows ≡ sum_by adds q
  sums flows q each bands = below-is flows q each 256 (omega arith) ∙ all-below q bands

-- the numbers of all bands, as a sum over them
below-take : (kept : Flow → ℕ) (adds : List Block → ℕ) (flows : List Flow) (band : ℕ) → band ≤ length flows → counts_below kept adds band flows ≡ sum_by kept (take band flows)
below-take kept adds flows zero within = refl
below-take kept adds flows (suc band) within =
    let one : sum_by kept (take (band + 1) flows) ≡ sum_by kept (take band flows) + kept (flow_at band flows) = sum_by_more kept flows band no_flow (omega (arith, within)) in
    let is : sum_by kept (take (suc band) flows) ≡ sum_by kept (take (band + 1) flows) = ap (λ j. sum_by kept (take j flows)) (let e : suc band ≡ band + 1 = omega arith in e) in
    omega (arith, one, is, below-take kept adds flows band (omega (arith, within)))

below-sum : (kept : Flow → ℕ) (adds : List Block → ℕ) (flows : List Flow) → length flows ≡ 256 → sum_by kept flows ≡ counts_below kept adds 256 flows
below-sum kept adds flows eight =
    ap (sum_by kept) (sym (take_all 256 flows (omega (arith, eight)))) ∙ sym (below-take kept adds flows 256 (omega (arith, eight)))

-- the counts add up to the bytes of all messages
pub total-is : (flows : List Flow) (q : List (List Block)) → AreCounted flows q → counts_below count_in bytes_of 256 flows ≡ sum_by bytes_of q
total-is flows q is = sums count_in bytes_of flows q (λ band lt. count-kept band (flow_at band flows) q (is.each band lt)) is.bands

-- the bytes of data that are kept add up to those of the messages of data
data-at : (band : ℕ) (chain : List Block) → data_share band chain ≡ share_at (λ f. f.data_bytes) data_bytes_of band chain
data-at band chain = by (band_of chain == band) (is_data chain)
  where
    by : (here data_kind : Bool) → (if here && data_kind then bytes_of chain else 0) ≡ (if here then (if data_kind then bytes_of chain else 0) else 0)
    by true true = refl
    by true false = refl
    by false data_kind = refl

sum-same : {A : Type 0} (f g : A → ℕ) → ((x : A) → f x ≡ g x) → (xs : List A) → sum_by f xs ≡ sum_by g xs
sum-same f g is [] = refl
sum-same f g is (x ∷ xs) = let here = is x in omega (arith, here, sum-same f g is xs, sum_by-cons f x xs, sum_by-cons g x xs)

pub data-band : (band : ℕ) (flows : List Flow) (q : List (List Block)) → AreCounted flows q → band < 256 → (flow_at band flows).data_bytes ≡ sum_by (share_at (λ f. f.data_bytes) data_bytes_of band) q
data-band band flows q is lt = (is.each band lt).data_sum ∙ sum-same (data_share band) (share_at (λ f. f.data_bytes) data_bytes_of band) (data-at band) q

pub data-is : (flows : List Flow) (q : List (List Block)) → AreCounted flows q → counts_below (λ f. f.data_bytes) data_bytes_of 256 flows ≡ sum_by data_bytes_of q
data-is flows q is = sums (λ f. f.data_bytes) data_bytes_of flows q (λ band lt. data-band band flows q is lt) is.bands

-- the sums over all bands, of all bytes and of those of data alone
pub bytes-sum : (flows : List Flow) (q : List (List Block)) → AreCounted flows q → sum_by (kept_bytes false) flows ≡ sum_by bytes_of q
bytes-sum flows q is = below-sum count_in bytes_of flows is.eight ∙ total-is flows q is

pub data-sum : (flows : List Flow) (q : List (List Block)) → AreCounted flows q → sum_by (kept_bytes true) flows ≡ sum_by data_bytes_of q
data-sum flows q is = below-sum (λ f. f.data_bytes) data_bytes_of flows is.eight ∙ data-is flows q is
