-- The flow control of band 0 beside that of the others.
use Rattle.std.proofs.Common.{ℕ, zero, suc, ◌≡◌, ◌≢◌, ◌<◌, ◌≤◌, ◌+◌, Bool, true, false, List, ◌∷◌, length, refl, sym, ap, subst, ◌∙◌, arith, length-set, get_or-set_same, get_or-set_other}
use Rattle.std.specs.Prelude.{slice_set, sum_by, ◌==◌, nat_lt, Option, None, Some, MatchOption}
use Rattle.std.proofs.lemmas.Bool.Decides.{nat_tests}
use Rattle.std.proofs.lemmas.List.{take_all, get_or_past}
use Rattle.strm_types.specs.declared.limits.TheConstants.{BANDS}
use Rattle.strm_types.specs.declared.options.Marks.{Marks}
use Rattle.strm_queue.specs.declared.flow.Flow.{Flow}
use Rattle.strm_queue.specs.Flows.{count_in, IsMarked}
use Rattle.strm_queue.specs.Kept.{flow_at, no_flow, AllRest, AreFlows, FewBytes, RestAbove}
use Rattle.strm_queue.proofs.Passing.{sum-small}

pub others-few : (f : Flow) (fs : List Flow) → AreFlows (f ∷ fs) → FewBytes fs
others-few f fs are = λ band. are.few (suc band)

-- a count of band 0 fits
pub first-few : (f : Flow) (fs : List Flow) → AreFlows (f ∷ fs) → count_in f < 4294967296
first-few f fs are = let few : count_in f ≤ 16777216 = are.few 0 in omega (arith, few)

-- the bytes of the others are few enough to add
pub others-small : (kept : Flow → ℕ) (f : Flow) (fs : List Flow) → ((g : Flow) → kept g ≤ count_in g) → AreFlows (f ∷ fs) → sum_by kept fs ≤ 4278190080
others-small kept f fs less are =
    let long : length fs ≤ 255 = omega (arith, are.eight) in
    let all = ap (sum_by kept) (take_all 255 fs long) in
    let few = sum-small kept fs 255 (omega (arith, are.eight)) less (others-few f fs are) in
    omega (arith, all, few)

-- a change of each band
module _ (change : Flow → Flow) (f f' : Flow) (fs fs' : List Flow) (first : f' ≡ change f) (others : (at : ℕ) → at + 1 < BANDS → flow_at at fs' ≡ change (flow_at at fs)) where
  pub each-band : (band : ℕ) → band < BANDS → flow_at band (f' ∷ fs') ≡ change (flow_at band (f ∷ fs))
  each-band zero lt = first
  each-band (suc band) lt = others band (omega (arith, lt))

  -- after which there is one of each, none counts more, and the first says when it is full
  pub each-flows : ((g : Flow) → count_in (change g) ≤ count_in g) → IsMarked (change f) → length fs' ≡ length fs → AreFlows (f ∷ fs) → AreFlows (f' ∷ fs')
  each-flows less marked long are = record {
    eight = omega (arith, long, are.eight);
    few = λ band. at band (nat_lt band 256) refl;
    marked = subst IsMarked (sym first) marked;
  }
    where
      at : (band : ℕ) → (b : Bool) → nat_lt band 256 ≡ b → count_in (flow_at band (f' ∷ fs')) ≤ 16777216
      at band true within =
          let lt : band < BANDS = grind (arith, nat_tests) in
          let same = ap count_in (each-band band lt) in
          omega (arith, same, less (flow_at band (f ∷ fs)), are.few band)
      at band false past =
          let le : 256 ≤ band = grind (arith, nat_tests) in
          let none = ap count_in (get_or_past (f' ∷ fs') band no_flow (omega (arith, le, long, are.eight))) in
          omega (arith, none)

-- the bands above band 0 are at rest where the others are
rests-above : (marks : Marks) (f : Flow) (fs : List Flow) → AllRest marks fs → RestAbove marks (f ∷ fs)
rests-above marks f fs rest zero above lt = absurd (omega arith)
rests-above marks f fs rest (suc band) above lt = rest band (omega (arith, lt))

pub rests-shared : (f : Flow) (fs : List Flow) (shared : Option Marks) → MatchOption shared ((marks : Marks) → AllRest marks fs → ⊥) (λ marks. AllRest marks fs)
    → MatchOption shared ((marks : Marks) → RestAbove marks (f ∷ fs) → ⊥) (λ marks. RestAbove marks (f ∷ fs))
rests-shared f fs None none = λ marks rest. none marks (λ at lt. rest (suc at) (omega arith) (omega (arith, lt)))
rests-shared f fs (Some marks) rest = rests-above marks f fs rest

-- another flow control of one band
pub set-flows : (flows : List Flow) (band : ℕ) (flow : Flow) → band < BANDS → count_in flow ≤ 16777216 → IsMarked flow → AreFlows flows → AreFlows (slice_set flows band flow)
set-flows flows band flow lt small marked are = record {
  eight = length-set flows band flow ∙ are.eight;
  few = λ k. few k (k == band) refl;
  marked = first (0 == band) refl;
}
  where
    few : (k : ℕ) → (b : Bool) → (k == band) ≡ b → count_in (flow_at k (slice_set flows band flow)) ≤ 16777216
    few k true same =
        let e : band ≡ k = grind (arith, nat_tests) in
        let here = ap count_in (get_or-set_same flows band flow no_flow (omega (arith, lt, are.eight))) in
        subst (λ j. count_in (flow_at j (slice_set flows band flow)) ≤ 16777216) e (omega (arith, here, small))
    few k false apart =
        let other : k ≢ band = λ e. grind (arith, nat_tests) in
        let there = ap count_in (get_or-set_other flows band k flow no_flow other) in
        omega (arith, there, are.few k)

    first : (b : Bool) → (0 == band) ≡ b → IsMarked (flow_at 0 (slice_set flows band flow))
    first true same =
        let e : band ≡ 0 = grind (arith, nat_tests) in
        subst (λ j. IsMarked (flow_at j (slice_set flows band flow))) e
        (subst IsMarked (sym (get_or-set_same flows band flow no_flow (omega (arith, lt, are.eight)))) marked)
    first false apart =
        let other : 0 ≢ band = λ e. grind (arith, nat_tests) in
        subst IsMarked (sym (get_or-set_other flows band 0 flow no_flow other)) are.marked
