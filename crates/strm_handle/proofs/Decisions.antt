-- What a call or a turn of the pair comes to is what its number says.
use Rattle.std.proofs.Common.{ℕ, ◌≡◌, ◌≤◌, refl, sym, subst, ap, ◌∙◌, arith}
use Rattle.std.proofs.lemmas.Bool.Decides.{nat_tests}
use Rattle.std.specs.Prelude.{Bool, Option, None, Some, Result, Ok, Err, IsOk, MatchOption, T, not, ◌&&◌, false, true, cond, nat_le}
use Rattle.strm_types.specs.declared.events.Caller.{Caller}
use Rattle.strm_types.specs.declared.refusals.Refusal.{Refusal}
use Rattle.strm_types.specs.declared.refusals.Refusal.TheVariants.{Eagain, Einval}
use Rattle.strm_types.specs.Events.{Request}
use Rattle.strm_types.specs.Journal.{content_max}
use Rattle.strm_types.specs.Numbers.{number_of}
use Rattle.strm_types.specs.Refused.{or_else, unless}
use Rattle.strm_laws.proofs.NoOwn.{none as no_own}
use Rattle.strm_laws.specs.Pair.{call_refused, restarted}
use Rattle.strm_laws.proofs.Replay.{or_else-none, unless-none}
use Rattle.strm_handle.specs.Few.{FewBytes}
use Rattle.strm_handle.specs.Kept.{IsKept, KeptPair, begun, is_full}
use Rattle.strm_handle.specs.Outcomes.{CallsAt, Decided, is_held, refused_before, refused_within}
use Rattle.strm_handle.proofs.Begun.{by-pair, refused-early}
use Rattle.strm_handle.proofs.NeverFull.{call-other, or-other, unless-other}

no : false ≡ true → ⊥
no e = subst (λ b. T (not b)) e tt

module _ {A : Type 0} where
  refusal_in : Result A Refusal → Refusal
  refusal_in (Ok a) = Einval
  refusal_in (Err r) = r

  module _ (result : Result A Refusal) (n : ℕ) (same : Type 0) (stays done : Type 0) where
    -- it was refused
    pub stayed : (o : Option Refusal) (r : Refusal) → MatchOption o (IsOk result) (λ r. (result ≡ Err r) × same) → result ≡ Err r → n ≡ number_of r → (same → stays) → Decided o stays done n
    unfolding refusal_in
    stayed None r is err number kept = absurd (no (subst IsOk err is))
    stayed (Some r') r is err number kept = (number ∙ ap (λ x. number_of (refusal_in x)) (sym err ∙ is.0), kept is.1)

    -- it was done
    pub was_done : (o : Option Refusal) (a : A) → MatchOption o (IsOk result) (λ r. (result ≡ Err r) × same) → result ≡ Ok a → n ≡ 0 → done → Decided o stays done n
    was_done None a is ok number so = (number, so)
    was_done (Some r) a is ok number so = absurd (no (subst IsOk (sym ok ∙ is.0) refl))

-- what refuses a call before the pair is asked is no full journal
pub before-other : (caller : Caller) (asked : Request) (room : ℕ) (k : KeptPair) → is_full (refused_before caller asked room k) ≡ false
before-other caller asked room k =
    or-other _ _ (unless-other (nat_le (content_max asked) room) Einval refl) (unless-other (not (is_held caller asked k)) Eagain refl)

-- a call that isn't refused so has room for its greatest answer
pub before-fits : (caller : Caller) (asked : Request) (room : ℕ) (k : KeptPair) → refused_before caller asked room k ≡ None → content_max asked ≤ room
before-fits caller asked room k none =
    let fits : nat_le (content_max asked) room ≡ true = unless-none _ Einval (or_else-none (unless (nat_le (content_max asked) room) Einval) _ none).0 in
    grind (arith, nat_tests, fits)

-- a journal that begins anew changes nothing of it
before-where : (b : Bool) (caller : Caller) (asked : Request) (room : ℕ) (k : KeptPair)
    → refused_before caller asked room (record k { pair = cond b (restarted k.pair) k.pair }) ≡ refused_before caller asked room k
before-where true caller asked room k = refl
before-where false caller asked room k = refl

-- A call that is refused before the pair is asked, and one that isn't.
pub called-early : (caller : Caller) (asked : Request) (room : ℕ) (stays : Type 0) (done : KeptPair → KeptPair → Type 0) (k : KeptPair) (r : Refusal) (n : ℕ)
    → refused_before caller asked room k ≡ Some r → n ≡ number_of r → stays → CallsAt (refused_within caller asked room) stays done k k n
called-early caller asked room stays done k r n is told stay =
    refused-early (refused_within caller asked room) stays done k r n (ap (λ o. or_else o (call_refused no_own k.pair caller asked)) is)
    (ap is_full (sym is) ∙ before-other caller asked room k) told stay

pub called-at : (caller : Caller) (asked : Request) (room : ℕ) (stays : Type 0) (done : KeptPair → KeptPair → Type 0) (old new : KeptPair) (n : ℕ)
    → refused_before caller asked room old ≡ None → IsKept old → FewBytes asked
    → (let at : KeptPair = record old { pair = begun old.anew (call_refused no_own old.pair caller asked) old.pair } in Decided (call_refused no_own at.pair caller asked) ((new ≡ at) × stays) (done at new) n)
    → CallsAt (refused_within caller asked room) stays done old new n
called-at caller asked room stays done old new n free kept few told =
    let at : KeptPair = record old { pair = begun old.anew (call_refused no_own old.pair caller asked) old.pair } in
    let behind : refused_before caller asked room at ≡ None = before-where (is_full (call_refused no_own old.pair caller asked) && old.anew) caller asked room old ∙ free in
    by-pair (refused_within caller asked room) (λ p. call_refused no_own p caller asked) stays done old new n
    (ap (λ o. or_else o (call_refused no_own old.pair caller asked)) free)
    (ap (λ o. or_else o (call_refused no_own at.pair caller asked)) behind)
    (λ anew. call-other old.pair caller asked (kept.anew anew) few)
    told

-- and what it leaves, where it was refused
pub left : {A : Type 0} (result : Result A Refusal) (same : Type 0) (o : Option Refusal) (r : Refusal) → MatchOption o (IsOk result) (λ r. (result ≡ Err r) × same) → result ≡ Err r → same
left result same None r is err = absurd (no (subst IsOk err is))
left result same (Some r') r is err = is.1
