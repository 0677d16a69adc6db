-- A refusal is the first one whose condition holds.
use Rattle.strm_pair.proofs.Prelude.{ℕ, ◌≡◌, ◌<◌, ◌≤◌, ◌+◌, Bool, true, false, List, length, refl, sym, ap, ◌∙◌, arith, nat_tests, nat_le, nat_lt}
use Rattle.strm_pair.proofs.Prelude.{Option, None, Some, Result, Ok, Err, MatchOption, met, or_else-none, unless-none, both-true}
use Rattle.strm_pair.specs.Prelude.{Caller, Put, Ioctl, Stop, Refusal, Prio, Einval, Enosr, IOCTL_MAX, plain, Config, QueueName, Request, PlainEntry}
use Rattle.strm_pair.specs.Prelude.{is_enabled, judged, PairState, call_refused, needs, enough, has_room, in_range, refused_at_once, refused_by_state}
use Rattle.strm_pair.specs.Prelude.{stop_of, State, StoreValue, free_d, free_m, HasRoom, Behaviour}
use Rattle.strm_types.specs.declared.job_control.Verdict.{Verdict}
use Rattle.strm_types.specs.declared.job_control.Verdict.TheVariants.{Allowed, Refused, Stopped}
use Rattle.strm_types.specs.declared.signals.StopSignal.{StopSignal}
use Rattle.strm_types.specs.declared.refusals.Refusal.TheVariants.{Erange, JournalFull}
use Rattle.strm_types.specs.declared.limits.TheConstants.{IOCTL_END}
use Rattle.strm_types.specs.JobControl.{refusal_behind, stop_in}
use Rattle.strm_laws.specs.Calls.{called, or_stopped, performed, tells}
use Rattle.strm_laws.specs.Refusals.{turn_refused}
use Rattle.strm_types.specs.Refused.{or_else, unless}
use Rattle.strm_pair.specs.Pairs.{free_in}

-- an ioctl that isn't refused at once sends few bytes, and a number is left for it
pub few-asked : (s : State ℕ) (caller : Caller) (command : ℕ) (body : List ℕ) → refused_at_once s caller (Ioctl command body) ≡ None → length body ≤ IOCTL_MAX
few-asked s caller command body at_once =
    let few : nat_le (length body) IOCTL_MAX ≡ true = unless-none _ Erange (met s caller.side (needs (Ioctl command body)) at_once).right in
    grind (arith, nat_tests, few)

pub number-left : (s : State ℕ) (caller : Caller) (command : ℕ) (body : List ℕ) → refused_at_once s caller (Ioctl command body) ≡ None → s.next_ioctl < IOCTL_END
number-left s caller command body at_once =
    let left : nat_lt s.next_ioctl IOCTL_END ≡ true = (met s caller.side (needs (Ioctl command body)) at_once).numbered in
    grind (arith, nat_tests, left)

-- a store has as many free blocks as are asked for
pub asked-free : (need : ℕ) (s : StoreValue) → enough need (free_in s) ≡ true → HasRoom s need
asked-free need s is =
    let both = both-true (nat_le need (free_m s)) (nat_le need (free_d s)) is in
    record { mblks = let first = both.0 in grind (arith, nat_tests); dblks = let second = both.1 in grind (arith, nat_tests) }

-- and so it has where no turn is refused for want of them
pub turn-free : (s : State ℕ) (es : List PlainEntry) (limits : Config) (has_blocks : Bool) (name : QueueName) → turn_refused s es limits has_blocks name ≡ None → has_blocks ≡ true
turn-free s es limits has_blocks name is =
    let first = or_else-none (unless (is_enabled name s.enabled) Einval) _ is in
    let second = or_else-none (unless (in_range s) Erange) _ first.1 in
    let third = or_else-none (unless (has_room es limits 0) JournalFull) _ second.1 in
    unless-none _ _ third.1

-- what a verdict says of the refusal and of the signal
pub judged-allowed : (r : Option Refusal) (s : Option StopSignal) → judged r s ≡ Allowed → (r ≡ None) × (s ≡ None)
judged-allowed None None is = (refl, refl)
judged-allowed None (Some signal) is = absurd (cc)
judged-allowed (Some refusal) s is = absurd (cc)

pub judged-stopped : (signal : StopSignal) (r : Option Refusal) (s : Option StopSignal) → judged r s ≡ Stopped signal → (r ≡ None) × (s ≡ Some signal)
judged-stopped signal None None is = absurd (cc)
judged-stopped signal None (Some other) is = (refl, (let same : other ≡ signal = cc in ap (λ x. Some x) same))
judged-stopped signal (Some refusal) s is = absurd (cc)

pub judged-refused : (refusal : Refusal) (r : Option Refusal) (s : Option StopSignal) → judged r s ≡ Refused refusal → r ≡ Some refusal
judged-refused refusal None None is = absurd (cc)
judged-refused refusal None (Some signal) is = absurd (cc)
judged-refused refusal (Some other) s is = let same : other ≡ refusal = cc in ap (λ x. Some x) same

-- a call that neither the state refuses nor job control stops fits what is there
pub free-fits : (hold : Verdict) (unfit : Option Refusal) → refusal_behind hold unfit ≡ None → stop_in hold ≡ None → unfit ≡ None
free-fits Allowed unfit is free = is
free-fits (Stopped signal) unfit is free = absurd (cc)
free-fits (Refused refusal) unfit is free = absurd (cc)

-- a call that isn't stopped leads to what it does, and one that is to nothing
pub as-performed : (K : Behaviour) (caller : Caller) (asked : Request) (s : State ℕ) → stop_of s caller asked ≡ None → performed K plain caller asked s ≡ called K plain caller asked s
as-performed K caller asked s free = sym (ap (λ stop. or_stopped stop s (performed K plain caller asked s)) free)

pub as-stopped : (K : Behaviour) (caller : Caller) (asked : Request) (s : State ℕ) (signal : StopSignal) → stop_of s caller asked ≡ Some signal → tells (Stop signal) s ≡ called K plain caller asked s
as-stopped K caller asked s signal is = sym (ap (λ stop. or_stopped stop s (performed K plain caller asked s)) is)

module _ (K : Behaviour) (v : PairState) (caller : Caller) (asked : Request) (at_once : refused_at_once v.state caller asked ≡ None) where
  -- what is told by the answers of the three questions that come after
  abbrev told : Bool → Bool → Option Refusal
  told room blocks = or_else (unless room JournalFull) (or_else (unless blocks Enosr) (refused_by_state K v.state caller asked))

  asked-later : call_refused K v caller asked ≡ told (has_room v.journal v.limits ((needs asked).brings + (needs asked).gives)) (enough (needs asked).blocks v.free)
  asked-later = ap (λ first. or_else first (told (has_room v.journal v.limits ((needs asked).brings + (needs asked).gives)) (enough (needs asked).blocks v.free))) at_once

  pub full-told : has_room v.journal v.limits ((needs asked).brings + (needs asked).gives) ≡ false → Some JournalFull ≡ call_refused K v caller asked
  full-told is = sym (asked-later ∙ ap (λ room. told room (enough (needs asked).blocks v.free)) is)

  module _ (fits : has_room v.journal v.limits ((needs asked).brings + (needs asked).gives) ≡ true) where
    pub few-told : enough (needs asked).blocks v.free ≡ false → Some Enosr ≡ call_refused K v caller asked
    few-told is = sym (asked-later ∙ ap (λ room. told room (enough (needs asked).blocks v.free)) fits ∙ ap (told true) is)

    pub state-told : enough (needs asked).blocks v.free ≡ true → refused_by_state K v.state caller asked ≡ call_refused K v caller asked
    state-told is = sym (asked-later ∙ ap (λ room. told room (enough (needs asked).blocks v.free)) fits ∙ ap (told true) is)

-- a refusal is the same whatever stands for the bytes of an answer
refusal-is : (A : Type 0) (x r : Refusal) → ◌≡◌ {A = Result A Refusal} (Err x) (Err r) → x ≡ r
refusal-is A x r e = cc

pub refused-over : (A B P Q : Type 0) (o : Option Refusal) (x : Refusal) → MatchOption o (false ≡ true) (λ r. ◌≡◌ {A = Result A Refusal} (Err x) (Err r) × (P × Q))
    → MatchOption o (false ≡ true) (λ r. ◌≡◌ {A = Result B Refusal} (Err x) (Err r) × P)
refused-over A B P Q None x h = h
refused-over A B P Q (Some r) x h = (ap (λ y. Err y) (refusal-is A x r h.0), h.1.0)

pub allowed-over : (A B P Q : Type 0) (o : Option Refusal) (x : A) (y : B) → MatchOption o (true ≡ true) (λ r. ◌≡◌ {A = Result A Refusal} (Ok x) (Err r) × (P × Q))
    → MatchOption o (true ≡ true) (λ r. ◌≡◌ {A = Result B Refusal} (Ok y) (Err r) × P)
allowed-over A B P Q None x y h = h
allowed-over A B P Q (Some r) x y h = let never = h.0 in absurd (cc)

-- where nothing refuses a putmsg at once, more may be written
pub put-in_range : (s : State ℕ) (caller : Caller) (prio : Prio) (control body : Option (List ℕ)) → refused_at_once s caller (Put prio control body) ≡ None → in_range s ≡ true
put-in_range s caller prio control body at_once = (met s caller.side (needs (Put prio control body)) at_once).booked

-- the first refusal is the one that is told
pub first-told : (r : Refusal) (first rest : Option Refusal) → Some r ≡ first → Some r ≡ or_else first rest
first-told r (Some q) rest is = is
first-told r None rest is = absurd (cc)
