-- A call or a turn that finds the journal full is made at the pair begun anew, and any other one at the pair.
use Rattle.std.proofs.Common.{ℕ, ◌≡◌, ◌≢◌, Bool, true, false, cond, refl, sym, subst, ap, ◌∙◌, arith}
use Rattle.std.specs.Prelude.{Option, None, Some, Result, Ok, Err, IsOk, MatchOption, ◌&&◌}
use Rattle.strm_types.specs.declared.refusals.Refusal.{Refusal}
use Rattle.strm_types.specs.declared.refusals.Refusal.TheVariants as refusals
use Rattle.strm_types.specs.Numbers.{number_of}
use Rattle.strm_laws.specs.Pair.{PairState, restarted}
use Rattle.strm_handle.specs.Kept.{KeptPair, begun, is_full, made_at, refusal_in}
use Rattle.strm_handle.specs.Outcomes.{CallsAt, Decided}

-- what was told is what there is
pub told-is : {A : Type 0} (K : Type 0) (o : Option Refusal) (x : Result A Refusal) → MatchOption o (IsOk x) (λ r. (x ≡ Err r) × K) → refusal_in x ≡ o
told-is K None (Ok a) is = refl
told-is K None (Err r) is = absurd (cc)
told-is K (Some r) x is = ap refusal_in is.0

-- and where that is a full journal all is as it was
pub full-stays : {A : Type 0} (K : Type 0) (o : Option Refusal) (x : Result A Refusal) → MatchOption o (IsOk x) (λ r. (x ≡ Err r) × K) → is_full o ≡ true → K
full-stays K None x is full = absurd (cc)
full-stays K (Some r) x is full = is.1

pub begun-stays : (anew : Bool) (o : Option Refusal) (p : PairState) → (is_full o && anew) ≡ false → begun anew o p ≡ p
begun-stays anew o p is = ap (λ b. cond b (restarted p) p) is

pub begun-anew : (anew : Bool) (o : Option Refusal) (p : PairState) → (is_full o && anew) ≡ true → begun anew o p ≡ restarted p
begun-anew anew o p is = ap (λ b. cond b (restarted p) p) is

pub and-false : (b : Bool) → (b && false) ≡ false
and-false true = refl
and-false false = refl

-- a pair whose full journal stays, and one for which it isn't full
pub plain-stays : (o : Option Refusal) (p : PairState) → begun false o p ≡ p
plain-stays o p = begun-stays false o p (and-false (is_full o))

pub and-first : (a b : Bool) → (a && b) ≡ true → (a ≡ true) × (b ≡ true)
and-first true b is = (refl, is)
and-first false b is = absurd (cc)

-- where the journal doesn't begin anew behind what was told, and where it does
pub stays-where : {A : Type 0} (K : Type 0) (o : Option Refusal) (x : Result A Refusal) (anew : Bool) (p : PairState) (b : Bool) → MatchOption o (IsOk x) (λ r. (x ≡ Err r) × K)
    → b ≡ (is_full (refusal_in x) && anew) → b ≡ false → begun anew o p ≡ p
stays-where K o x anew p b told begins not_so = begun-stays anew o p (ap (λ y. is_full y && anew) (sym (told-is K o x told)) ∙ (sym begins ∙ not_so))

pub anew-where : {A : Type 0} (K : Type 0) (o : Option Refusal) (x : Result A Refusal) (anew : Bool) (p : PairState) (b : Bool) → MatchOption o (IsOk x) (λ r. (x ≡ Err r) × K)
    → b ≡ (is_full (refusal_in x) && anew) → b ≡ true → (begun anew o p ≡ restarted p) × K
anew-where K o x anew p b told begins so =
    let both : (is_full o && anew) ≡ true = ap (λ y. is_full y && anew) (sym (told-is K o x told)) ∙ (sym begins ∙ so) in
    (begun-anew anew o p both, full-stays K o x told (and-first (is_full o) anew both).0)

-- what else is so where it was refused
pub refused-so : {A : Type 0} (K L : Type 0) (o : Option Refusal) (x : Result A Refusal) → (K → L) → MatchOption o (IsOk x) (λ r. (x ≡ Err r) × K) → MatchOption o (IsOk x) (λ r. (x ≡ Err r) × L)
refused-so K L None x so told = told
refused-so K L (Some r) x so told = (told.0, so told.1)

-- where an empty journal takes it, it isn't refused for a full journal at the pair begun anew
begun-where : (refused : PairState → Option Refusal) (p : PairState) (full : Bool) → is_full (refused p) ≡ full → is_full (refused (restarted p)) ≡ false
    → is_full (refused (cond (full && true) (restarted p) p)) ≡ false
begun-where refused p true is other = other
begun-where refused p false is other = is

pub begun-other : (refused : PairState → Option Refusal) (anew : Bool) (p : PairState) → anew ≡ true → is_full (refused (restarted p)) ≡ false
    → is_full (refused (begun anew (refused p) p)) ≡ false
begun-other refused anew p so other =
    subst (λ b. is_full (refused (begun b (refused p) p)) ≡ false) (sym so) (begun-where refused p (is_full (refused p)) refl other)

-- what a pair begun anew keeps
kept-where : (b : Bool) (p : PairState) → ((cond b (restarted p) p).state ≡ p.state) × (((cond b (restarted p) p).free ≡ p.free) × ((cond b (restarted p) p).limits ≡ p.limits))
kept-where true p = (refl, (refl, refl))
kept-where false p = (refl, (refl, refl))

pub begun-keeps : (anew : Bool) (o : Option Refusal) (p : PairState)
    → ((begun anew o p).state ≡ p.state) × (((begun anew o p).free ≡ p.free) × ((begun anew o p).limits ≡ p.limits))
begun-keeps anew o p = kept-where (is_full o && anew) p

-- A call that is refused for something else is refused at the pair as it is.
pub made-stays : (refusal : KeptPair → Option Refusal) (k : KeptPair) → is_full (refusal k) ≡ false → made_at refusal k ≡ k
made-stays refusal k other = ap (λ p. record k { pair = p }) (begun-stays k.anew (refusal k) k.pair (ap (λ b. b && k.anew) other))

pub other-number : (r : Refusal) → is_full (Some r) ≡ false → number_of r ≢ 7
other-number refusals.Einval is = λ e. absurd (omega (arith, e))
other-number refusals.Eagain is = λ e. absurd (omega (arith, e))
other-number refusals.Enxio is = λ e. absurd (omega (arith, e))
other-number refusals.Ebadmsg is = λ e. absurd (omega (arith, e))
other-number refusals.Enosr is = λ e. absurd (omega (arith, e))
other-number refusals.Erange is = λ e. absurd (omega (arith, e))
other-number refusals.JournalFull is = absurd (cc)
other-number refusals.NoMinor is = λ e. absurd (omega (arith, e))
other-number refusals.NoMemory is = λ e. absurd (omega (arith, e))
other-number refusals.StillShared is = λ e. absurd (omega (arith, e))
other-number refusals.Eio is = λ e. absurd (omega (arith, e))

decided-other : (o : Option Refusal) (stays done : Type 0) (n : ℕ) → is_full o ≡ false → Decided o stays done n → n ≢ 7
decided-other None stays done n is told = λ e. absurd (omega (arith, told.0, e))
decided-other (Some r) stays done n is told = λ e. other-number r is (sym told.0 ∙ e)

pub refused-early : (refusal : KeptPair → Option Refusal) (stays : Type 0) (done : KeptPair → KeptPair → Type 0) (k : KeptPair) (r : Refusal) (n : ℕ)
    → refusal k ≡ Some r → is_full (Some r) ≡ false → n ≡ number_of r → stays → CallsAt refusal stays done k k n
refused-early refusal stays done k r n is other told stay =
    let same : made_at refusal k ≡ k = made-stays refusal k (ap is_full is ∙ other) in
    record {
      made = subst (λ (at : KeptPair). Decided (refusal at) ((k ≡ at) × stays) (done at k) n) (sym same) (subst (λ o. Decided o ((k ≡ k) × stays) (done k k) n) (sym is) (told, (refl, stay)));
      goes_on = λ anew e. other-number r other (sym told ∙ e);
    }

-- A call that is refused for what the pair says.
pub by-pair : (refusal : KeptPair → Option Refusal) (refused : PairState → Option Refusal) (stays : Type 0) (done : KeptPair → KeptPair → Type 0) (old new : KeptPair) (n : ℕ)
    → refusal old ≡ refused old.pair
    → (let at : KeptPair = record old { pair = begun old.anew (refused old.pair) old.pair } in refusal at ≡ refused at.pair)
    → (old.anew ≡ true → is_full (refused (restarted old.pair)) ≡ false)
    → (let at : KeptPair = record old { pair = begun old.anew (refused old.pair) old.pair } in Decided (refused at.pair) ((new ≡ at) × stays) (done at new) n)
    → CallsAt refusal stays done old new n
by-pair refusal refused stays done old new n first second other told =
    let at : KeptPair = record old { pair = begun old.anew (refused old.pair) old.pair } in
    let same : made_at refusal old ≡ at = ap (λ o. record old { pair = begun old.anew o old.pair }) first in
    record {
      made = subst (λ (k : KeptPair). Decided (refusal k) ((new ≡ k) × stays) (done k new) n) (sym same)
          (subst (λ o. Decided o ((new ≡ at) × stays) (done at new) n) (sym second) told);
      goes_on = λ anew. decided-other (refused at.pair) _ _ n (begun-other refused old.anew old.pair anew (other anew)) told;
    }
