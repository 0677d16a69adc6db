-- Turns one after the other come to rest.
use Rattle.strm_laws.proofs.Prelude.{ℕ, zero, suc, ◌≡◌, ◌≤◌, ◌<◌, ◌+◌, Bool, true, false, List, [], ◌∷◌, length, length-append, refl, sym, ap, subst}
use Rattle.strm_laws.proofs.Prelude.{◌∙◌, arith, ◌&&◌, ◌||◌, nat_le, nat_lt, Option, None, Some, nat_tests, sum_by-append, sum_by-cons}
use Rattle.strm_laws.specs.Prelude.{Turned, Config, STOP_BLOCKS, Place, Driver, QueueName, Side, Master, Slave, Way, Up, Down, Einval, Enosr}
use Rattle.strm_laws.specs.Prelude.{Erange, JournalFull, plain, PlainEntry, room_of, room_used, is_enabled, same_queue, or_else, turn_blocks, unless}
use Rattle.std.proofs.Common.{◌≢◌}
use Rattle.std.specs.Prelude.{slice_get}
use Rattle.strm_types.specs.declared.limits.TheConstants.{TURN_BLOCKS}
use Rattle.strm_types.specs.declared.names.Place.TheVariants.{Head}
use Rattle.strm_types.specs.declared.names.Place.TheVariants as places
use Rattle.strm_laws.specs.Behaviours.{Behaviour}
use Rattle.strm_laws.specs.Pair.{PairState, RanTurns, next_refused, refused_of}
use Rattle.strm_laws.specs.Refusals.{Free, enough, has_room, in_range}
use Rattle.strm_laws.specs.Rest.{EchoesOnce, NoneQueues, work}
use Rattle.strm_laws.specs.Restorable.{Restorable}
use Rattle.strm_laws.specs.StackCosts.{Stands, stands_of}
use Rattle.strm_laws.specs.State.{State}
use Rattle.strm_types.proofs.EnabledNames.{same_module-self}
use Rattle.strm_laws.proofs.RestWork.{echoed-turn, plain-turn, taken-off}
use Rattle.strm_laws.proofs.RestorableSteps.{step-restorable}

-- so many turns, where the modules stay
abbrev Took : ℕ → PairState → PairState → Type 0
Took n old new = (stands_of new.state ≡ stands_of old.state) × (n + work new.state ≤ work old.state)

none-took : (old new : PairState) → new ≡ old → Took 0 old new
none-took old new same = (ap (λ (p : PairState). stands_of p.state) same, (let work_same = ap (λ (p : PairState). work p.state) same in omega (arith, work_same)))

one-took : (n : ℕ) (old mid new : PairState) → Took n old mid → (stands_of new.state ≡ stands_of mid.state) × (work new.state < work mid.state) → Took (suc n) old new
one-took n old mid new took turn = (turn.0 ∙ took.0, (let before = took.1 in let less = turn.1 in omega (arith, before, less)))

pub plain-runs : (K : Behaviour) (n : ℕ) (old new : PairState) → RanTurns K n old new → NoneQueues (stands_of old.state) → Took n old new
plain-runs K zero old new same none = none-took old new same
plain-runs K (suc n) old new ran none =
    let mid = ran.0 in
    let took = plain-runs K n old mid ran.1.0 none in
    let step = ran.1.1.adds.step in
    let less = plain-turn K plain ran.1.1.name ran.1.1.turn mid.state (subst (λ (all : Stands). NoneQueues all) (sym took.0) none) step.enabled in
    one-took n old mid new took (subst (λ (t : State ℕ). (stands_of t ≡ stands_of mid.state) × (work t < work mid.state)) step.leads less)

-- where an image may hold the pair, each of its lines is short, and so it stays
pub echoed-runs : (K : Behaviour) (n : ℕ) (old new : PairState) → RanTurns K n old new → EchoesOnce (stands_of old.state) → Restorable old.state → Took n old new × Restorable new.state
echoed-runs K zero old new same once good = (none-took old new same, subst (λ (p : PairState). Restorable p.state) (sym same) good)
echoed-runs K (suc n) old new ran once good =
    let mid = ran.0 in
    let before = echoed-runs K n old mid ran.1.0 once good in
    let was = before.1 in
    let step = ran.1.1.adds.step in
    let turn = echoed-turn K plain mid.state new.state ran.1.1.name ran.1.1.turn (subst (λ (all : Stands). EchoesOnce all) (sym before.0.0) once) (was.streams, was.numbered, was.last) step in
    (one-took n old mid new before.0 turn, step-restorable K plain mid.state new.state (Turned ran.1.1.name ran.1.1.turn) tt was step)

-- each takes one entry of the journal, and no bytes
pub record Recorded (n : ℕ) (old new : PairState) : Type 0 where
  pub entries : length new.journal ≡ length old.journal + n
  pub bytes : room_used new.journal ≡ room_used old.journal
  pub limits : new.limits ≡ old.limits

recorded : (K : Behaviour) (n : ℕ) (old new : PairState) → RanTurns K n old new → Recorded n old new
recorded K zero old new same = record {
  entries = (let long = ap (λ (p : PairState). length p.journal) same in omega (arith, long));
  bytes = ap (λ (p : PairState). room_used p.journal) same;
  limits = ap (λ (p : PairState). p.limits) same;
}
recorded K (suc n) old new ran =
    let mid = ran.0 in
    let before = recorded K n old mid ran.1.0 in
    let adds = ran.1.1.adds in
    let entry : PlainEntry = Turned ran.1.1.name ran.1.1.turn in
    record {
      entries = (let long = ap (λ (es : List PlainEntry). length es) adds.journal ∙ length-append mid.journal (entry ∷ []) in let was = before.entries in omega (arith, long, was));
      bytes = (let used = ap (λ (es : List PlainEntry). room_used es) adds.journal ∙ sum_by-append room_of mid.journal (entry ∷ []) in let was = before.bytes in omega (arith, used, was, sum_by-cons room_of entry []));
      limits = adds.limits ∙ before.limits;
    }

-- where a queue is enabled and the journal has room, its turn isn't refused for the journal's sake
not-full : (enabled range blocks room : Bool) → (enabled ≡ true → room ≡ true)
    → or_else (unless enabled Einval) (or_else (unless range Erange) (or_else (unless room JournalFull) (unless blocks Enosr))) ≢ Some JournalFull
not-full false range blocks room is = λ e. cc
not-full true false blocks room is = λ e. cc
not-full true true blocks false is = absurd (cc (is refl))
not-full true true false true is = λ e. cc
not-full true true true true is = λ e. cc

-- as many turns as there was work leave none, so a queue that is enabled still has room for its turn
has-room : (K : Behaviour) (n : ℕ) (old new : PairState) → RanTurns K n old new → n + work new.state ≤ work old.state → length old.journal + work old.state ≤ old.limits.journal_events → room_used old.journal ≤ old.limits.journal_bytes
    → 1 ≤ work new.state → has_room new.journal new.limits 0 ≡ true
has-room K n old new ran less events bytes some =
    let told = recorded K n old new ran in
    let same_events = ap (λ (c : Config). c.journal_events) told.limits in
    let same_bytes = ap (λ (c : Config). c.journal_bytes) told.limits in
    let long = told.entries in
    let used = told.bytes in
    let first : length new.journal < new.limits.journal_events = omega (arith, same_events, long, less, some, events) in
    let second : room_used new.journal + 0 ≤ new.limits.journal_bytes = omega (arith, same_bytes, used, bytes) in
    let one : nat_lt (length new.journal) new.limits.journal_events ≡ true = grind (arith, nat_tests) in
    let two : nat_le (room_used new.journal + 0) new.limits.journal_bytes ≡ true = grind (arith, nat_tests) in
    ap (λ b. b && nat_le (room_used new.journal + 0) new.limits.journal_bytes) one ∙ two

pub room-left : (K : Behaviour) (n : ℕ) (old new : PairState) → RanTurns K n old new → n + work new.state ≤ work old.state → length old.journal + work old.state ≤ old.limits.journal_events → room_used old.journal ≤ old.limits.journal_bytes
    → next_refused new ≢ Some JournalFull
room-left K n old new ran less events bytes = at (slice_get new.state.enabled 0)
  where
    works : (name : QueueName) → is_enabled name new.state.enabled ≡ true → 1 ≤ work new.state
    works name on = let one = taken-off name new.state.enabled on in omega (arith, one)

    at : (o : Option QueueName) → refused_of new o ≢ Some JournalFull
    at None = λ e. cc
    at (Some name) = not-full (is_enabled name new.state.enabled) (in_range new.state) (enough (turn_blocks name.place) new.free) (has_room new.journal new.limits 0) (λ on. has-room K n old new ran less events bytes (works name on))

-- and where blocks enough are free and no book is full, it isn't refused at all
same-itself : (name : QueueName) → same_queue name name ≡ true
same-itself name = at name.side name.place name.way
  where
    at : (side : Side) (place : Place) (way : Way) → let n : QueueName = record { side = side; place = place; way = way } in same_queue n n ≡ true
    at Master Head Up = refl
    at Master Head Down = refl
    at Master Driver Up = refl
    at Master Driver Down = refl
    at Slave Head Up = refl
    at Slave Head Down = refl
    at Slave Driver Up = refl
    at Slave Driver Down = refl
    at Master (places.Module name) Up = ap (λ b. b && true) (same_module-self name)
    at Master (places.Module name) Down = ap (λ b. b && true) (same_module-self name)
    at Slave (places.Module name) Up = ap (λ b. b && true) (same_module-self name)
    at Slave (places.Module name) Down = ap (λ b. b && true) (same_module-self name)

first-enabled : (names : List QueueName) (name : QueueName) → slice_get names 0 ≡ Some name → is_enabled name names ≡ true
first-enabled [] name is = absurd (cc)
first-enabled (n ∷ names) name is = let same : n ≡ name = cc in ap (λ b. b || is_enabled name names) (subst (λ m. same_queue n m ≡ true) same (same-itself n))

fewer : (m d : ℕ) → (nat_le STOP_BLOCKS m && nat_le STOP_BLOCKS d) ≡ true → (nat_le TURN_BLOCKS m && nat_le TURN_BLOCKS d) ≡ true
fewer m d is =
    let both = both-of (nat_le STOP_BLOCKS m) (nat_le STOP_BLOCKS d) is in
    let one : nat_le TURN_BLOCKS m ≡ true = grind (arith, nat_tests, both.0) in
    let two : nat_le TURN_BLOCKS d ≡ true = grind (arith, nat_tests, both.1) in
    ap (λ b. b && nat_le TURN_BLOCKS d) one ∙ two
  where
    both-of : (a b : Bool) → (a && b) ≡ true → (a ≡ true) × (b ≡ true)
    both-of true true is = (refl, refl)
    both-of true false is = absurd (cc)
    both-of false b is = absurd (cc)

enough-blocks : (place : Place) (free : Free) → enough STOP_BLOCKS free ≡ true → enough (turn_blocks place) free ≡ true
enough-blocks (places.Module name) free is = is
enough-blocks Head free is = fewer free.mblks free.dblks is
enough-blocks Driver free is = fewer free.mblks free.dblks is

not-refused : (enabled range blocks room : Bool) → enabled ≡ true → range ≡ true → room ≡ true → blocks ≡ true
    → or_else (unless enabled Einval) (or_else (unless range Erange) (or_else (unless room JournalFull) (unless blocks Enosr))) ≡ None
not-refused true true true true one two three four = refl
not-refused false range blocks room one two three four = absurd (cc)
not-refused true false blocks room one two three four = absurd (cc)
not-refused true true false room one two three four = absurd (cc)
not-refused true true true false one two three four = absurd (cc)

pub next-goes : (K : Behaviour) (n : ℕ) (old new : PairState) → RanTurns K n old new → n + work new.state ≤ work old.state → length old.journal + work old.state ≤ old.limits.journal_events → room_used old.journal ≤ old.limits.journal_bytes
    → in_range new.state ≡ true → enough STOP_BLOCKS new.free ≡ true → next_refused new ≡ None
next-goes K n old new ran less events bytes range blocks = at (slice_get new.state.enabled 0) refl
  where
    at : (o : Option QueueName) → slice_get new.state.enabled 0 ≡ o → refused_of new o ≡ None
    at None is = refl
    at (Some name) is =
        let on = first-enabled new.state.enabled name is in
        not-refused (is_enabled name new.state.enabled) (in_range new.state) (enough (turn_blocks name.place) new.free) (has_room new.journal new.limits 0)
        on range (has-room K n old new ran less events bytes (let one = taken-off name new.state.enabled on in omega (arith, one))) (enough-blocks name.place new.free blocks)
