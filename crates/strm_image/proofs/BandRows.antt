-- Both ways to list the bands of a queue are exact.
use Rattle.std.proofs.Common.{◌≡◌, ℕ, zero, suc, ◌+◌, ◌-◌, ◌<◌, ◌≤◌, Bool, true, false, not, cond, eqb, ltb, leb, List, [], ◌∷◌, ◌++◌, length, refl, ap, sym, ◌∙◌, append_assoc, slice_set, Some, None, inl, inr, arith}
use Rattle.std.specs.Prelude.{is_some, replicate}
use Rattle.std.specs.Int.{to_be_bytes, w16}
use Rattle.std.specs.List.{flat_map}
use Rattle.std.proofs.lemmas.Bool.{and_parts, and_from, eqb-true, eq-eqb, ne_eqb, leb-true, le-leb, cases_eq, not-true, ltb-true}
use Rattle.std.proofs.lemmas.List.{take_at, length-append}
use Rattle.strm_types.specs.Queue.{Flow}
use Rattle.strm_image.specs.declared.versions.QueueKind.{QueueKind}
use Rattle.strm_image.specs.declared.versions.Version.TheVariants.{Second}
use Rattle.strm_types.specs.declared.limits.TheConstants.{BANDS}
use Rattle.strm_image.specs.declared.versions.TheConstants.{FIRST_BANDS}
use Rattle.strm_image.specs.Format.{IsExact, byte, u16, ◌then◌, ◌>>=◌, fit_from, gathered, gathered_of, gather_from, keep, text_from, IsBytes}
use Rattle.strm_image.specs.Queues.{are_bands, behind_last, entries, few_flows, first_flow, first_ones, flow, flows, is_listed, is_widened, list_out, listed, listed_behind, next_band, same_flow, same_flows, spread, spread_out, widened}
use Rattle.strm_image.specs.FlowTexts.{read_flows}
use Rattle.strm_image.specs.Loads.{set_band}
use Rattle.strm_image.specs.Texts.{values_read}
use Rattle.strm_image.proofs.FlowRows.{flow_exact, same_bool_is, same_bool_refl}
use Rattle.strm_image.proofs.Formats.{IsMade, byte_exact, chain_exact, chain_long, counted_exact, gather_is, gather_none, gather_some, text_flat, only_exact, then_exact, u16_exact}

pub same_flow_is : (f g : Flow) → same_flow f g ≡ true → f ≡ g
same_flow_is f g e =
    let p = and_parts (eqb f.high g.high) _ e in
    let q = and_parts (eqb f.low g.low) _ p.1 in
    let high : f.high ≡ g.high = eqb-true _ _ p.0 in
    let low : f.low ≡ g.low = eqb-true _ _ q.0 in
    let waits : f.want_write ≡ g.want_write = same_bool_is _ _ q.1 in
    ap (λ h. record f { high = h }) high ∙ (ap (λ l. record f { high = g.high; low = l }) low ∙ ap (λ w. record { high = g.high; low = g.low; want_write = w }) waits)

pub same_flow_refl : (f : Flow) → same_flow f f ≡ true
same_flow_refl f = and_from _ _ (eq-eqb f.high f.high refl) (and_from _ _ (eq-eqb f.low f.low refl) (same_bool_refl f.want_write))

same_flows_is : (fs gs : List Flow) → same_flows fs gs ≡ true → fs ≡ gs
same_flows_is [] [] e = refl
same_flows_is [] (g ∷ gs) e = absurd cc
same_flows_is (f ∷ fs) [] e = absurd cc
same_flows_is (f ∷ fs) (g ∷ gs) e =
    let p = and_parts (same_flow f g) (same_flows fs gs) e in
    ap (λ h. h ∷ fs) (same_flow_is f g p.0) ∙ ap (λ hs. g ∷ hs) (same_flows_is fs gs p.1)

same_flows_refl : (fs : List Flow) → same_flows fs fs ≡ true
same_flows_refl [] = refl
same_flows_refl (f ∷ fs) = and_from _ _ (same_flow_refl f) (same_flows_refl fs)

pub widened_made : IsMade is_widened widened first_ones few_flows
unfolding few_flows
widened_made = record {
  back = λ fs fits.
      let long : length fs ≡ FIRST_BANDS = eqb-true _ _ (and_parts (eqb (length fs) FIRST_BANDS) _ fits).0 in
      let same : first_ones (widened fs) ≡ fs = take_at fs (replicate (BANDS - FIRST_BANDS) (behind_last fs)) FIRST_BANDS long in
      (same, rw same (same_flows_refl (widened fs)));
  whole = λ fs shape. sym (same_flows_is fs (widened (first_ones fs)) shape);
}

-- ---- listed bands

abbrev fits_behind : Flow → ℕ → List (ℕ × Flow) → Bool
fits_behind first i es = fit_from next_band (listed_behind first) i es

-- what holds of a band that is listed first
record Begins (first : Flow) (i : ℕ) (e : ℕ × Flow) (es : List (ℕ × Flow)) : Type 0 where
  low : i ≤ e.0
  high : e.0 < BANDS
  other : same_flow e.1 first ≡ false
  rest : fits_behind first (e.0 + 1) es ≡ true
  up : suc i ≤ e.0 → fits_behind first (suc i) (e ∷ es) ≡ true

begins : (first : Flow) (i : ℕ) (e : ℕ × Flow) (es : List (ℕ × Flow)) → fits_behind first i (e ∷ es) ≡ true → Begins first i e es
unfolding listed_behind
begins first i e es fits =
    let p = and_parts _ (fits_behind first (e.0 + 1) es) fits in
    let q = and_parts _ (is_listed first i e) p.0 in
    let r = and_parts _ (not (same_flow e.1 first)) q.1 in
    let s = and_parts (leb i e.0) (ltb e.0 BANDS) r.0 in
    record {
      low = leb-true _ _ s.0;
      high = ltb-true _ _ s.1;
      other = not-true _ r.1;
      rest = p.1;
      up = λ above. and_from _ _ (and_from _ _ q.0 (and_from _ _ (and_from _ _ (le-leb _ _ above) s.1) r.1)) p.1;
    }

pub entries_exact : (at : QueueKind) → IsExact (entries at)
unfolding listed_behind
entries_exact at = counted_exact u16 _ u16_exact (chain_exact next_band (listed_behind (first_flow at)) (λ from. only_exact _ (then_exact _ _ byte_exact flow_exact) (is_listed (first_flow at) from)) 0) (chain_long next_band (listed_behind (first_flow at)) 0)

set_at : {A : Type 0} (front : List A) (x : A) (rest : List A) (k : ℕ) (y : A) → length front ≡ k → slice_set (front ++ x ∷ rest) k y ≡ (front ++ y ∷ []) ++ rest
set_at [] x rest zero y long = refl
set_at [] x rest (suc k) y long = absurd (omega arith)
set_at (f ∷ front) x rest zero y long = absurd (omega arith)
set_at (f ∷ front) x rest (suc k) y long = ap (λ fs. f ∷ fs) (set_at front x rest k y (omega arith))

spread_long : (first : Flow) (i n : ℕ) (es : List (ℕ × Flow)) → length (spread first i n es) ≡ n
spread_long first i zero es = refl
spread_long first i (suc n) [] = ap suc (spread_long first (suc i) n [])
spread_long first i (suc n) (e ∷ es) =
    elim (cases_eq e.0 i) [
      | inl same ↦ rw (eq-eqb _ _ same) (ap suc (spread_long first (suc i) n es))
      | inr other ↦ rw (ne_eqb _ _ other) (ap suc (spread_long first (suc i) n (e ∷ es)))
    ]

-- what is set where it is listed is spread so
pub set_spread : (first : Flow) (front : List Flow) (i n : ℕ) (es : List (ℕ × Flow)) → length front ≡ i → i + n ≡ BANDS → fits_behind first i es ≡ true
    → gathered set_band (front ++ replicate n first) es ≡ front ++ spread first i n es
set_spread first front i zero [] long all fits = refl
set_spread first front i zero (e ∷ es) long all fits = let b = begins first i e es fits in absurd (omega (arith, b.low, b.high))
set_spread first front i (suc n) [] long all fits =
    sym (append_assoc front (first ∷ []) (replicate n first)) ∙ set_spread first (front ++ first ∷ []) (suc i) n [] (omega (arith, length-append front (first ∷ []))) (omega arith) refl ∙ append_assoc front (first ∷ []) (spread first (suc i) n [])
set_spread first front i (suc n) (e ∷ es) long all fits =
    let b = begins first i e es fits in
    elim (cases_eq e.0 i) [
      | inl same ↦
          let next : e.0 + 1 ≡ suc i = omega arith in
          let at : slice_set (front ++ first ∷ replicate n first) e.0 e.1 ≡ (front ++ e.1 ∷ []) ++ replicate n first = set_at front first (replicate n first) e.0 e.1 (long ∙ sym same) in
          rw (eq-eqb _ _ same, at) (set_spread first (front ++ e.1 ∷ []) (suc i) n es (omega (arith, length-append front (e.1 ∷ []))) (omega arith) (rw next at b.rest) ∙ append_assoc front (e.1 ∷ []) (spread first (suc i) n es))
      | inr other ↦
          rw (ne_eqb _ _ other) (ap (λ fs. gathered set_band fs (e ∷ es)) (sym (append_assoc front (first ∷ []) (replicate n first))) ∙ set_spread first (front ++ first ∷ []) (suc i) n (e ∷ es) (omega (arith, length-append front (first ∷ []))) (omega arith) (b.up (omega (arith, b.low))) ∙ append_assoc front (first ∷ []) (spread first (suc i) n (e ∷ es)))
    ]

-- what is spread is listed again
spread_back : (first : Flow) (i n : ℕ) (es : List (ℕ × Flow)) → i + n ≡ BANDS → fits_behind first i es ≡ true → listed first i (spread first i n es) ≡ es
spread_back first i zero [] all fits = refl
spread_back first i zero (e ∷ es) all fits = let b = begins first i e es fits in absurd (omega (arith, b.low, b.high))
spread_back first i (suc n) [] all fits = rw (same_flow_refl first) (spread_back first (suc i) n [] (omega arith) refl)
spread_back first i (suc n) (e ∷ es) all fits =
    let b = begins first i e es fits in
    elim (cases_eq e.0 i) [
      | inl same ↦
          let next : e.0 + 1 ≡ suc i = omega arith in
          rw (eq-eqb _ _ same, b.other) (ap (λ k. (k, e.1) ∷ listed first (suc i) (spread first (suc i) n es)) (sym same) ∙ ap (λ fs. e ∷ fs) (spread_back first (suc i) n es (omega arith) (rw next at b.rest)))
      | inr other ↦ rw (ne_eqb _ _ other, same_flow_refl first) (spread_back first (suc i) n (e ∷ es) (omega arith) (b.up (omega (arith, b.low))))
    ]

-- What is listed from a band up is no band below it.
IsFrom : ℕ → List (ℕ × Flow) → Type 0
IsFrom i [] = Unit {0}
IsFrom i (e ∷ es) = i ≤ e.0

from_above : (i : ℕ) (es : List (ℕ × Flow)) → IsFrom (suc i) es → IsFrom i es
unfolding IsFrom
from_above i [] h = tt
from_above i (e ∷ es) h = omega arith

either_from : (b : Bool) (i : ℕ) (f : Flow) (es : List (ℕ × Flow)) → IsFrom (suc i) es → IsFrom i (cond b es ((i, f) ∷ es))
unfolding IsFrom
either_from true i f es h = from_above i es h
either_from false i f es h = omega arith

listed_from : (first : Flow) (i : ℕ) (fs : List Flow) → IsFrom i (listed first i fs)
unfolding IsFrom
listed_from first i [] = tt
listed_from first i (f ∷ fs) = either_from (same_flow f first) i f (listed first (suc i) fs) (listed_from first (suc i) fs)

spread_past : (first : Flow) (i n : ℕ) (es : List (ℕ × Flow)) → IsFrom (suc i) es → spread first i (suc n) es ≡ first ∷ spread first (suc i) n es
unfolding IsFrom
spread_past first i n [] h = refl
spread_past first i n (e ∷ es) h = let other : e.0 ≡ i → ⊥ = λ same. omega arith in rw (ne_eqb _ _ other) refl

one_back : (first : Flow) (i : ℕ) (f : Flow) (n : ℕ) (fs : List Flow) (es : List (ℕ × Flow)) → IsFrom (suc i) es → spread first (suc i) n es ≡ fs
    → spread first i (suc n) (cond (same_flow f first) es ((i, f) ∷ es)) ≡ f ∷ fs
one_back first i f n fs es above same = at (same_flow f first) refl
  where
    at : (b : Bool) → same_flow f first ≡ b → spread first i (suc n) (cond b es ((i, f) ∷ es)) ≡ f ∷ fs
    at true e = spread_past first i n es above ∙ (ap (λ g. g ∷ spread first (suc i) n es) (sym (same_flow_is f first e)) ∙ ap (λ gs. f ∷ gs) same)
    at false e = rw (eq-eqb i i refl) (ap (λ gs. f ∷ gs) same)

-- what is listed is spread again
listed_back : (first : Flow) (i : ℕ) (fs : List Flow) → spread first i (length fs) (listed first i fs) ≡ fs
listed_back first i [] = refl
listed_back first i (f ∷ fs) = one_back first i f (length fs) fs (listed first (suc i) fs) (listed_from first (suc i) fs) (listed_back first (suc i) fs)

pub listed_made : (at : QueueKind) → IsMade are_bands (spread_out at) (list_out at) (entries at)
listed_made at = record {
  back = λ es fits.
      let p = and_parts _ _ (and_parts _ _ fits).1 in
      (spread_back (first_flow at) 0 BANDS es refl p.1, eq-eqb _ _ (spread_long (first_flow at) 0 BANDS es));
  whole = λ fs shape.
      let long : length fs ≡ BANDS = eqb-true _ _ shape in
      ap (λ n. spread (first_flow at) 0 n (listed (first_flow at) 0 fs)) (sym long) ∙ listed_back (first_flow at) 0 fs;
}

-- what is set as it is listed is what is read
pub listed_read : (at : QueueKind) (bytes : List ℕ) (count : ℕ) (text : List ℕ) (fs : List Flow) (rest : List ℕ) → IsBytes bytes → u16.read bytes ≡ Some (count, text)
    → gather_from next_band (listed_behind (first_flow at)) set_band (replicate BANDS (first_flow at)) 0 count text ≡ Some (fs, rest) → (flows Second at).read bytes ≡ Some (fs, rest)
unfolding flows
listed_read at bytes count text fs rest is_bytes head told =
    let a = gather_some next_band (listed_behind (first_flow at)) set_band (replicate BANDS (first_flow at)) 0 count text (fs, rest) told in
    let read : (entries at).read bytes ≡ Some (a.0, rest) = rw head a.1 in
    let fits = and_parts _ _ (and_parts _ _ ((entries_exact at).takes bytes (a.0, rest) is_bytes read).1).1 in
    let same : fs ≡ spread_out at a.0 = a.2 ∙ set_spread (first_flow at) [] 0 BANDS a.0 refl refl fits.1 in
    rw read (ap (λ gs. Some (gs, rest)) (sym same))

pub listed_unread : (at : QueueKind) (bytes : List ℕ) (count : ℕ) (text : List ℕ) → u16.read bytes ≡ Some (count, text)
    → gather_from next_band (listed_behind (first_flow at)) keep tt 0 count text ≡ None → (flows Second at).read bytes ≡ None
unfolding flows
listed_unread at bytes count text head told =
    rw (head, gather_none next_band (listed_behind (first_flow at)) keep tt 0 count text told) refl

-- what is passed can be read again
module _ (at : QueueKind) (count : ℕ) (text rest : List ℕ) (told : gather_from next_band (listed_behind (first_flow at)) keep tt 0 count text ≡ Some (tt, rest)) where
  again : (fs : List Flow) × (read_flows Second at count text ≡ Some (fs, rest))
  again =
      let a = gather_some next_band (listed_behind (first_flow at)) keep tt 0 count text (tt, rest) told in
      let first = replicate BANDS (first_flow at) in
      (gathered set_band first a.0, gather_is next_band (listed_behind (first_flow at)) set_band first 0 count text ∙ ap (λ o. o >>= gathered_of set_band first) a.1)

  pub passed_there : is_some (read_flows Second at count text) ≡ true
  passed_there = ap is_some again.1

  pub passed_read : (bytes : List ℕ) → IsBytes bytes → u16.read bytes ≡ Some (count, text) → (flows Second at).read bytes ≡ Some (values_read (read_flows Second at count text), rest)
  passed_read bytes is_bytes head = listed_read at bytes count text again.0 rest is_bytes head again.1 ∙ ap (λ o. Some (values_read o, rest)) (sym again.1)

pub listed_flat : (first : Flow) (from : ℕ) (es : List (ℕ × Flow)) → text_from next_band (listed_behind first) from es ≡ flat_map (byte then flow).text es
unfolding listed_behind
listed_flat first from es = text_flat next_band (listed_behind first) (byte then flow).text (λ s x. refl) from es

pub flows_told : (at : QueueKind) (fs : List Flow) → (flows Second at).text fs ≡ to_be_bytes w16 (length (listed (first_flow at) 0 fs)) ++ flat_map (byte then flow).text (listed (first_flow at) 0 fs)
unfolding flows
flows_told at fs = ap (λ t. to_be_bytes w16 (length (listed (first_flow at) 0 fs)) ++ t) (listed_flat (first_flow at) 0 (listed (first_flow at) 0 fs))

-- what version 1 can list is what its first bands say
pub widened_is : (fs : List Flow) → is_widened fs ≡ true → fs ≡ widened (first_ones fs)
widened_is fs shape = same_flows_is fs (widened (first_ones fs)) shape
