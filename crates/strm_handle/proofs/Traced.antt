-- A trace of a pair, at the handles.
use Rattle.std.proofs.Common.{ℕ, ◌≡◌, List, length, refl, sym, ap, subst, ◌∙◌}
use Rattle.std.specs.Prelude.{true, is_some, Option, None, Some, sum_by}
use Rattle.strm_types.specs.Journal.{entry_len, entries_in}
use Rattle.strm_laws.specs.Pair.{PairState}
use Rattle.strm_image.specs.declared.trace.Trace.{Trace}
use Rattle.strm_image.specs.declared.versions.Version.TheVariants.{Second}
use Rattle.strm_image.specs.HasImage.{imaged}
use Rattle.strm_image.specs.Image.{image}
use Rattle.strm_image.specs.Traces.{IsTrace}
use Rattle.strm_pair.specs.declared.pair.Recorded.{Recorded}
use Rattle.strm_handle.specs.Kept.{KeptPair}
use Rattle.strm_handle.specs.Traces.{Copies, Cuts, CutsPair, IsWhole}

-- copies of a pair's journal are a trace of it
pub copied_trace : (p : PairState) (r : Recorded) (t : Trace) → Copies r t → r.base.now ≡ image.text (Second, imaged p.base p.base_fates)
    → entries_in r.entries.now r.bytes.now ≡ p.journal → sum_by entry_len r.entries.now ≡ length r.bytes.now → IsTrace p t × IsWhole t
copied_trace p r t copies base entries lengths = (
  record {
    base = copies.base ∙ base;
    entries = ap (λ es. entries_in es t.bytes.items) copies.entries ∙ ap (λ bs. entries_in r.entries.now bs) copies.bytes ∙ entries;
  },
  ap (λ es. sum_by entry_len es) copies.entries ∙ lengths ∙ ap (λ (bs : List ℕ). length bs) (sym copies.bytes),
)

pub cuts_open : (old : Option KeptPair) (t : Option Trace) (n : ℕ) → is_some t ≡ true → n ≡ 1 → Cuts old old t t n
cuts_open None t n is told = (told, (refl, refl))
cuts_open (Some k) None n is told = absurd (cc)
cuts_open (Some k) (Some t) n is told = (told, (refl, refl))

pub cuts_closed : (was is : Option KeptPair) (t : Option Trace) (n : ℕ) → was ≡ None → is ≡ None → n ≡ 1 → Cuts was is t t n
cuts_closed was is t n before behind told =
    subst (λ (o : Option KeptPair). Cuts o is t t n) (sym before) (subst (λ (o : Option KeptPair). Cuts None o t t n) (sym behind) (told, (refl, refl)))

pub cuts_at : (was is : Option KeptPair) (t u : Option Trace) (old new : KeptPair) (n : ℕ) → was ≡ Some old → is ≡ Some new → t ≡ None → CutsPair old new t u n
    → Cuts was is t u n
cuts_at was is t u old new n before behind closed told =
    subst (λ (o : Option KeptPair). Cuts o is t u n) (sym before) (subst (λ (o : Option KeptPair). Cuts (Some old) o t u n) (sym behind)
    (subst (λ (o : Option Trace). Cuts (Some old) (Some new) o u n) (sym closed) (subst (λ (o : Option Trace). CutsPair old new o u n) closed told)))
