-- Bands where nothing stands.
use Rattle.std.proofs.Common.{ℕ, suc, ◌≡◌, ◌<◌, ◌≤◌, ◌+◌, Bool, true, false, List, [], ◌∷◌, length, replicate, refl, sym, ap, subst, ◌∙◌, arith}
use Rattle.std.specs.Prelude.{nat_le, nat_lt}
use Rattle.std.proofs.lemmas.Bool.Decides.{nat_tests}
use Rattle.strm_queue.specs.declared.flow.Flow.{Flow}
use Rattle.strm_queue.specs.declared.common.Row.{Row}
use Rattle.strm_queue.specs.declared.common.Common.{Common}
use Rattle.strm_queue.specs.Flows.{count_in}
use Rattle.strm_queue.specs.Kept.{flow_at, no_flow, AreFlows, IsCounted, AreCounted}
use Rattle.strm_queue.specs.Sets.{has}
use Rattle.std.proofs.lemmas.List.{get_or-replicate, get_or_past}
use Rattle.strm_types.specs.declared.limits.TheConstants.{BANDS}
use Rattle.strm_queue.specs.Rows.{row_flow, flows_from}

-- the flow control of such a band
abbrev pub fresh_flow : ℕ → ℕ → Flow
fresh_flow high low = record { data_bytes = 0; other_bytes = 0; high = high; low = low; full = false; want_write = false }

module _ (c : Common) (high low : ℕ) (highs : c.marks.high ≡ high) (lows : c.marks.low ≡ low) (marked : (at : ℕ) → has c.marked at ≡ false) (filled : (at : ℕ) → has c.filled at ≡ false) (waiting : (at : ℕ) → has c.waiting at ≡ false) (some : 1 ≤ high) where
  one-fresh : (at : ℕ) (row : Row) → row_flow c at row ≡ fresh_flow high low
  one-fresh at row =
      let none : nat_le high 0 ≡ false = grind (arith, nat_tests) in
      rw (marked at, filled at, waiting at, highs, lows, none) refl

  -- whatever is left in their rows
  each-fresh : (from : ℕ) (rows : List Row) → flows_from c from rows ≡ replicate (length rows) (fresh_flow high low)
  each-fresh from [] = refl
  each-fresh from (row ∷ rows) =
      ap (λ f. f ∷ flows_from c (suc from) rows) (one-fresh from row) ∙ ap (λ fs. fresh_flow high low ∷ fs) (each-fresh (suc from) rows)

  pub all-fresh : (rows : List Row) → length rows + 1 ≡ BANDS → flows_from c 0 rows ≡ replicate 255 (fresh_flow high low)
  all-fresh rows each = each-fresh 0 rows ∙ ap (λ n. replicate n (fresh_flow high low)) (let long : length rows ≡ 255 = omega (arith, each) in long)

-- the kept numbers of bands where nothing stands
pub fresh-counted : (high low : ℕ) → 1 ≤ high → AreCounted (replicate 256 (fresh_flow high low)) []
fresh-counted high low some = record {
  eight = refl;
  bands = tt;
  each = λ band lt. subst (λ f. IsCounted band f []) (sym (get_or-replicate 256 band (fresh_flow high low) no_flow lt)) (record { data_sum = refl; other_sum = refl; marked = (let none : nat_le high 0 ≡ false = grind (arith, nat_tests) in sym none) });
}

-- there is one of each, and none counts a byte
fresh-flows : (high low : ℕ) → 1 ≤ high → AreFlows (replicate 256 (fresh_flow high low))
fresh-flows high low some = record {
  eight = refl;
  few = λ band. few band (nat_lt band 256) refl;
  marked = (let none : nat_le high 0 ≡ false = grind (arith, nat_tests) in sym none);
}
  where
    few : (band : ℕ) → (b : Bool) → nat_lt band 256 ≡ b → count_in (flow_at band (replicate 256 (fresh_flow high low))) ≤ 16777216
    few band true within =
        let lt : band < 256 = grind (arith, nat_tests) in
        let is = ap count_in (get_or-replicate 256 band (fresh_flow high low) no_flow lt) in
        omega (arith, is)
    few band false past =
        let le : 256 ≤ band = grind (arith, nat_tests) in
        let none = ap count_in (get_or_past (replicate 256 (fresh_flow high low)) band no_flow le) in
        omega (arith, none)

-- band 0 beside the others
module _ (high low : ℕ) (some : 1 ≤ high) (first : Flow) (others : List Flow) (is : first ≡ record (fresh_flow high low) { full = nat_le high 0 }) (are : others ≡ replicate 255 (fresh_flow high low)) where
  all : first ∷ others ≡ replicate 256 (fresh_flow high low)
  all =
      let none : nat_le high 0 ≡ false = grind (arith, nat_tests) in
      ap (λ f. f ∷ others) (is ∙ ap (λ b. record (fresh_flow high low) { full = b }) none) ∙ ap (λ fs. fresh_flow high low ∷ fs) are

  pub first-flows : AreFlows (first ∷ others)
  first-flows = subst AreFlows (sym all) (fresh-flows high low some)

  pub first-counted : AreCounted (first ∷ others) []
  first-counted = subst (λ fs. AreCounted fs []) (sym all) (fresh-counted high low some)
