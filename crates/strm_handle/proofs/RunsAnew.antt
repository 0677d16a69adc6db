-- Turns of a pair whose full journal stays are turns at the pair.
use Rattle.std.proofs.Common.{ℕ, zero, suc, ◌≡◌, ◌≢◌, ◌<◌, ◌+◌, true, false, List, [], ◌∷◌, refl, sym, subst, ap, ◌∙◌, add-one, arith}
use Rattle.std.proofs.lemmas.Bool.Decides.{nat_tests}
use Rattle.std.specs.Prelude.{Option, None, Some, IfNone, T, not, ◌&&◌, ◌==◌, slice_get}
use Rattle.strm_types.specs.declared.answers.Turn.{Turn}
use Rattle.strm_types.specs.declared.entries.Entry.TheVariants.{Turned}
use Rattle.strm_types.specs.declared.names.QueueName.{QueueName}
use Rattle.strm_types.specs.declared.refusals.Refusal.{Refusal}
use Rattle.strm_laws.proofs.NoOwn.{none as no_own}
use Rattle.strm_laws.specs.Pair.{AddsEntry, PairState, RanTurns, Stops, TurnOfFirst, next_refused, queue_refused, refused_of}
use Rattle.strm_laws.specs.State.{State}
use Rattle.strm_handle.specs.Kept.{IsKept, KeptPair, SameChoices, begun, is_full, made_at}
use Rattle.strm_handle.specs.Outcomes.{RanAt, RunsQueues, TurnsFirst, number_told, run_ends, run_refused, waits_told}
use Rattle.strm_handle.proofs.Begun.{and-false, begun-keeps, begun-other, made-stays, other-number, plain-stays}
use Rattle.strm_handle.proofs.NeverFull.{next-other}

pub made-plain : (k : KeptPair) → k.anew ≡ false → made_at run_refused k ≡ k
made-plain k plain =
    ap (λ b. record k { pair = begun b (run_refused k) k.pair }) plain ∙ ap (λ p. record k { pair = p }) (plain-stays (run_refused k) k.pair)

pub ran-plain : (n : ℕ) (old : KeptPair) (new : PairState) → old.anew ≡ false → RanTurns no_own n old.pair new
    → RanAt n old (record old { pair = new })
ran-plain zero old new plain ran = ap (λ p. record old { pair = p }) ran
ran-plain (suc n) old new plain ran =
    let mid : KeptPair = record old { pair = ran.0 } in (
      mid,
      (
        ran-plain n old ran.0 plain ran.1.0,
        record {
          turn = subst (λ (k : KeptPair). TurnOfFirst no_own k.pair new) (sym (made-plain mid plain)) ran.1.1;
          choices = record { anew = refl; reserve = refl };
        },
      ),
    )

-- the turn of the queue that was enabled first, at the pair that it is made at
pub turned-first : (old new : KeptPair) (name : QueueName) (turn : Turn) → slice_get old.pair.state.enabled 0 ≡ Some name → SameChoices old new
    → AddsEntry no_own (begun old.anew (queue_refused old.pair name) old.pair) new.pair (Turned name turn)
    → Stops (begun old.anew (queue_refused old.pair name) old.pair) new.pair name turn → TurnsFirst old new
turned-first old new name turn first choices adds stops =
    let at : PairState = begun old.anew (queue_refused old.pair name) old.pair in
    let same : at ≡ (made_at run_refused old).pair = ap (λ o. begun old.anew (refused_of old.pair o) old.pair) (sym first) in
    let state = (begun-keeps old.anew (queue_refused old.pair name) old.pair).0 in
    let here : slice_get at.state.enabled 0 ≡ Some name = ap (λ (s : State ℕ). slice_get s.enabled 0) state ∙ first in
    record {
      turn = subst (λ (p : PairState). TurnOfFirst no_own p new.pair) same
          (record { name = name; turn = turn; first = here; adds = adds; stops = stops });
      choices = choices;
    }

-- where no queue is enabled, and where the turn of the one that was enabled first is refused
get-none : (xs : List QueueName) → slice_get xs 0 ≡ None → xs ≡ []
get-none [] none = refl
get-none (x ∷ xs) none = absurd (cc)

pub none-first : (k : KeptPair) → slice_get k.pair.state.enabled 0 ≡ None → (k ≡ made_at run_refused k) × ((None ≡ run_refused k) × (k.pair.state.enabled ≡ []))
none-first k none =
    let is : run_refused k ≡ None = ap (λ o. refused_of k.pair o) none in
    (sym (made-stays run_refused k (ap is_full is)), (sym is, get-none k.pair.state.enabled none))

pub refused-first : (k : KeptPair) (new : PairState) (name : QueueName) (r : Refusal) → slice_get k.pair.state.enabled 0 ≡ Some name
    → (let at : PairState = begun k.anew (queue_refused k.pair name) k.pair in (queue_refused at name ≡ Some r) × (new ≡ at))
    → (record k { pair = new } ≡ made_at run_refused k) × ((Some r ≡ run_refused (record k { pair = new })) × Unit {0})
refused-first k new name r first is =
    let at : PairState = begun k.anew (queue_refused k.pair name) k.pair in
    let same : at ≡ (made_at run_refused k).pair = ap (λ o. begun k.anew (refused_of k.pair o) k.pair) (sym first) in
    let state = (begun-keeps k.anew (queue_refused k.pair name) k.pair).0 in
    let here : slice_get at.state.enabled 0 ≡ Some name = ap (λ (s : State ℕ). slice_get s.enabled 0) state ∙ first in
    let told : next_refused at ≡ Some r = ap (λ o. refused_of at o) here ∙ is.0 in
    (ap (λ (p : PairState). record k { pair = p }) (is.1 ∙ same), (sym told ∙ ap (λ (p : PairState). next_refused p) (sym is.1), tt))

-- A run of a pair whose full journal stays.
not_so : false ≡ true → ⊥
not_so e = subst (λ b. T (not b)) e tt

pub ran-on : (n : ℕ) (k : KeptPair) (p : PairState) (told : ℕ) → k.anew ≡ false → RanTurns no_own n k.pair p → told ≡ number_told (next_refused p)
    → IfNone (next_refused p) (p.state.enabled ≡ []) → RunsQueues n k (record k { pair = p }) told
ran-on n k p told plain ran is rest =
    let last : KeptPair = record k { pair = p } in
    record {
      last = last;
      ran = ran-plain n k p plain ran;
      ends = subst (λ b. run_ends (b && n == 65536) last last told) (sym plain) (sym (made-plain last plain), record { told = is; rest = rest });
      few = λ so. absurd (not_so (sym plain ∙ so));
      goes_on = λ so. absurd (not_so (sym plain ∙ so));
    }

-- A run of one whose full journal begins anew: it stopped behind fewer turns than one run makes, or made them all.
other-than : (n : ℕ) → n < 65536 → (n == 65536) ≡ false
other-than n few = grind (arith, nat_tests)

told-other : (o : Option Refusal) → is_full o ≡ false → number_told o ≢ 7
told-other None is = λ e. absurd (omega (arith, e))
told-other (Some r) is = other-number r is

pub stopped-anew : (n : ℕ) (old last new : KeptPair) (why : Option Refusal) (told : ℕ) → n < 65536 → RanAt n old last
    → (new ≡ made_at run_refused last) × ((why ≡ run_refused new) × IfNone why (new.pair.state.enabled ≡ [])) → is_full why ≡ false → told ≡ number_told why → RunsQueues n old new told
stopped-anew n old last new why told few ran stops other is = record {
  last = last;
  ran = ran;
  ends = subst (λ b. run_ends b last new told) (sym (ap (λ b. old.anew && b) (other-than n few) ∙ and-false old.anew))
      (stops.0, record { told = is ∙ ap number_told stops.1.0; rest = subst (λ o. IfNone o (new.pair.state.enabled ≡ [])) stops.1.0 stops.1.1 });
  few = λ same. omega arith;
  goes_on = λ same. λ e. told-other why other (sym is ∙ e);
}

-- what stopped it is no full journal
pub first-other : (k : KeptPair) (why : Option Refusal) (new : KeptPair) → IsKept k → new ≡ made_at run_refused k → why ≡ run_refused new → k.anew ≡ true → is_full why ≡ false
first-other k why new kept same is anew =
    ap is_full (is ∙ ap (λ (o : KeptPair). run_refused o) same)
    ∙ begun-other (λ p. next_refused p) k.anew k.pair anew (next-other k.pair (slice_get k.pair.state.enabled 0) (kept.anew anew))

waits-other : (o : Option QueueName) → waits_told o ≢ 7
waits-other None = λ e. absurd (omega (arith, e))
waits-other (Some name) = λ e. absurd (omega (arith, e))

pub made-all : (old new : KeptPair) (told : ℕ) → old.anew ≡ true → RanAt 65536 old new → told ≡ waits_told (slice_get new.pair.state.enabled 0) → RunsQueues 65536 old new told
made-all old new told so ran is = record {
  last = new;
  ran = ran;
  ends = subst (λ b. run_ends (b && true) new new told) (sym so) (refl, is);
  few = λ same. omega arith;
  goes_on = λ same. λ e. waits-other (slice_get new.pair.state.enabled 0) (sym is ∙ e);
}

-- one turn more, and that the choices stay
pub one-more : (n : ℕ) (old mid new : KeptPair) → RanAt n old mid → TurnsFirst mid new → RanAt (n + 1) old new
one-more n old mid new ran turn = rw add-one (mid, (ran, turn))

pub ran-choices : (n : ℕ) (old new : KeptPair) → RanAt n old new → SameChoices old new
ran-choices zero old new ran = record { anew = ap (λ (k : KeptPair). k.anew) ran; reserve = ap (λ (k : KeptPair). k.reserve) ran }
ran-choices (suc n) old new ran =
    let first = ran-choices n old ran.0 ran.1.0 in
    record { anew = ran.1.1.choices.anew ∙ first.anew; reserve = ran.1.1.choices.reserve ∙ first.reserve }
