-- What an export does at a pair, and at the handle of one.
use Rattle.std.specs.Prelude.{ℕ, zero, suc, ◌≡◌, ◌≢◌, ◌≤◌, ◌⊎◌, ◌&&◌, ◌==◌, Bool, true, false, not, nat_le, List, [], length, drop, Option, None, Some, IsSomeAnd, IfNone, slice_get}
use Rattle.strm_types.specs.declared.entries.Entry.TheVariants.{Called, Turned}
use Rattle.strm_types.specs.declared.events.Caller.{Caller}
use Rattle.strm_types.specs.declared.ledger.Ledger.{Ledger}
use Rattle.strm_types.specs.declared.names.QueueName.{QueueName}
use Rattle.strm_types.specs.declared.names.Side.{Side}
use Rattle.strm_types.specs.declared.refusals.Refusal.{Refusal}
use Rattle.strm_types.specs.declared.refusals.Refusal.TheVariants.{Eagain, Einval}
use Rattle.strm_types.specs.Events.{Request, content_of}
use Rattle.strm_types.specs.JobControl.{caller_of}
use Rattle.strm_types.specs.Journal.{content_max}
use Rattle.strm_types.specs.Numbers.{number_of}
use Rattle.strm_types.specs.Refused.{or_else, unless}
use Rattle.strm_laws.proofs.NoOwn.{none as no_own}
use Rattle.strm_laws.specs.Pair.{PairState, new_pair, restarted, call_refused, queue_refused, next_refused, AddsEntry, TurnOfFirst}
use Rattle.strm_laws.specs.Refusals.{blocks_asked}
use Rattle.strm_handle.specs.declared.asks.Ask.{Ask}
use Rattle.strm_handle.specs.declared.choices.Choices.{Choices}
use Rattle.strm_handle.specs.declared.replies.Books.{Books}
use Rattle.strm_handle.specs.declared.replies.Reply.{Reply}
use Rattle.strm_handle.specs.declared.replies.Went.{Went}
use Rattle.strm_handle.specs.Numbers.{side_at, queue_at, turn_at}
use Rattle.strm_handle.specs.Calls.{caller_at, event_at, answer_in}
use Rattle.strm_handle.specs.Kept.{KeptPair, SameChoices, are_fit, is_held_back, kept_by, made_at, sends, sizes_of}

-- The number that an export answers: that of a refusal, and then the pair and the caller's memory stay; or 0, and then it is done.
abbrev pub Decided : Option Refusal → Type 0 → Type 0 → ℕ → Type 0
Decided (Some refusal) stays done n = (n ≡ number_of refusal) × stays
Decided None stays done n = (n ≡ 0) × done

abbrev pub AtPair : (KeptPair → Option Refusal) → Type 0 → (KeptPair → KeptPair → Type 0) → KeptPair → KeptPair → ℕ → Type 0
AtPair refusal stays done old new n = Decided (refusal old) ((new ≡ old) × stays) (done old new) n

-- A call or a turn is made at the pair, or, where its journal is full and begins anew, at the pair begun anew: then no journal is full for it.
pub record CallsAt (refusal : KeptPair → Option Refusal) (stays : Type 0) (done : KeptPair → KeptPair → Type 0) (old new : KeptPair) (n : ℕ) : Type 0 where
  pub made : AtPair refusal stays done (made_at refusal old) new n
  pub goes_on : old.anew ≡ true → n ≢ 7

-- At a handle: one that is closed is EINVAL, and one that is open stays so. A look:
abbrev pub AtHandle : (KeptPair → Option Refusal) → Type 0 → (KeptPair → KeptPair → Type 0) → Option KeptPair → Option KeptPair → ℕ → Type 0
AtHandle refusal stays done None None n = (n ≡ 1) × stays
AtHandle refusal stays done (Some old) (Some new) n = AtPair refusal stays done old new n
AtHandle refusal stays done _ _ n = ⊥

-- A call or a turn:
abbrev pub CallsAtHandle : (KeptPair → Option Refusal) → Type 0 → (KeptPair → KeptPair → Type 0) → Option KeptPair → Option KeptPair → ℕ → Type 0
CallsAtHandle refusal stays done None None n = (n ≡ 1) × stays
CallsAtHandle refusal stays done (Some old) (Some new) n = CallsAt refusal stays done old new n
CallsAtHandle refusal stays done _ _ n = ⊥

-- A call's refusal: EINVAL where the caller's buffer is too small for the greatest answer, then EAGAIN where the reserve holds it back, before all that
-- the pair refuses.
abbrev pub is_held : Caller → Request → KeptPair → Bool
is_held caller asked k = sends asked && is_held_back caller.side (blocks_asked asked) k

abbrev pub refused_before : Caller → Request → ℕ → KeptPair → Option Refusal
refused_before caller asked room k = or_else (unless (nat_le (content_max asked) room) Einval) (unless (not (is_held caller asked k)) Eagain)

abbrev pub refused_within : Caller → Request → ℕ → KeptPair → Option Refusal
refused_within caller asked room k = or_else (refused_before caller asked room k) (call_refused no_own k.pair caller asked)

-- what a refused call leaves to its caller: the buffer and the reply
abbrev pub Stay : (before out : List ℕ) (told reply : Reply) → Type 0
Stay before out told reply = (out ≡ before) × (reply ≡ told)

-- the buffer of a call that gives no bytes
abbrev pub no_bytes : List ℕ
no_bytes = []

-- A call is made: the journal gains it with the answer that the reply and the buffer tell, whose bytes the reply counts, 0 of an answer without
-- any. They fit the buffer, and behind them it stays.
pub record Answers (caller : Caller) (asked : Request) (reply : Reply) (before out : List ℕ) (old new : KeptPair) : Type 0 where
  pub adds : IsSomeAnd (answer_in reply out) (λ answer. AddsEntry no_own old.pair new.pair (Called caller asked answer) × (reply.bytes ≡ length (content_of answer)))
  pub choices : SameChoices old new
  pub fits : reply.bytes ≤ length before
  pub others : drop reply.bytes out ≡ drop reply.bytes before

-- The call of a C program's numbers.
abbrev pub call_of_both : Option Caller → Option Request → ℕ → KeptPair → Option Refusal
call_of_both (Some caller) (Some asked) room k = refused_within caller asked room k
call_of_both _ _ room k = Some Einval

abbrev pub ask_refused : Ask → List ℕ → ℕ → KeptPair → Option Refusal
ask_refused ask bytes room k = call_of_both (caller_at ask) (event_at ask bytes) room k

abbrev pub AnswersAsk : Ask → List ℕ → Reply → List ℕ → List ℕ → KeptPair → KeptPair → Type 0
AnswersAsk ask bytes reply before out old new =
    IsSomeAnd (caller_at ask) (λ caller. IsSomeAnd (event_at ask bytes) (λ asked. Answers caller asked reply before out old new))

-- The call of a side without process groups.
abbrev call_of_side : Option Side → Request → ℕ → KeptPair → Option Refusal
call_of_side None asked room k = Some Einval
call_of_side (Some side) asked room k = refused_within (caller_of side) asked room k

abbrev pub side_refused : ℕ → Request → ℕ → KeptPair → Option Refusal
side_refused side asked room k = call_of_side (side_at side) asked room k

abbrev pub AnswersSide : ℕ → Request → Reply → List ℕ → List ℕ → KeptPair → KeptPair → Type 0
AnswersSide side asked reply before out old new = IsSomeAnd (side_at side) (λ side. Answers (caller_of side) asked reply before out old new)

-- A turn of a queue.
abbrev pub turn_of : Option QueueName → KeptPair → Option Refusal
turn_of None k = Some Einval
turn_of (Some name) k = queue_refused k.pair name

abbrev pub turn_refused : ℕ → KeptPair → Option Refusal
turn_refused queue k = turn_of (queue_at queue) k

pub record Turns (queue : ℕ) (went : Went) (old new : KeptPair) : Type 0 where
  pub adds : IsSomeAnd (queue_at queue) (λ name. IsSomeAnd (turn_at went.kind went.moved)
      (λ turn. AddsEntry no_own old.pair new.pair (Turned name turn)))
  pub choices : SameChoices old new

-- Turns were made, each of the queue that was enabled first, at the pair or at the pair begun anew.
abbrev pub run_refused : KeptPair → Option Refusal
run_refused k = next_refused k.pair

pub record TurnsFirst (old new : KeptPair) : Type 0 where
  pub turn : TurnOfFirst no_own (made_at run_refused old).pair new.pair
  pub choices : SameChoices old new

abbrev pub RanAt : ℕ → KeptPair → KeptPair → Type 0
RanAt zero old new = new ≡ old
RanAt (suc n) old new = (mid : KeptPair) × (RanAt n old mid × TurnsFirst mid new)

-- They go on until none is enabled or the next is refused, whose refusal is told.
abbrev pub number_told : Option Refusal → ℕ
number_told None = 0
number_told (Some refusal) = number_of refusal

pub record Stopped (new : KeptPair) (n : ℕ) : Type 0 where
  pub told : n ≡ number_told (run_refused new)
  pub rest : IfNone (run_refused new) (new.pair.state.enabled ≡ [])

-- Of a pair whose journal begins anew one run makes 65536 of them: EAGAIN where a queue is enabled then.
abbrev pub waits_told : Option QueueName → ℕ
waits_told None = 0
waits_told (Some name) = 2

abbrev pub run_ends : Bool → (last new : KeptPair) → ℕ → Type 0
run_ends true last new n = (new ≡ last) × (n ≡ waits_told (slice_get last.pair.state.enabled 0))
run_ends false last new n = (new ≡ made_at run_refused last) × Stopped new n

pub record RunsQueues (turns : ℕ) (old new : KeptPair) (n : ℕ) : Type 0 where
  pub last : KeptPair
  pub ran : RanAt turns old last
  pub ends : run_ends (old.anew && turns == 65536) last new n
  pub few : old.anew ≡ true → turns ≤ 65536
  pub goes_on : old.anew ≡ true → n ≢ 7

abbrev pub Runs : (before turns : ℕ) → Option KeptPair → Option KeptPair → ℕ → Type 0
Runs before turns None new n = (n ≡ 1) × ((new ≡ None) × (turns ≡ before))
Runs before turns (Some old) new n = IsSomeAnd new (λ new. RunsQueues turns old new n)

-- The journal of a pair begins anew.
abbrev pub Restarts : Option KeptPair → Option KeptPair → ℕ → Type 0
Restarts None new n = (n ≡ 1) × (new ≡ None)
Restarts (Some old) new n = (n ≡ 0) × (new ≡ Some (record old { pair = restarted old.pair }))

-- A look at what is named by a number: EINVAL where it names nothing. The pair stays.
abbrev pub named : {A : Type 0} → Option A → KeptPair → Option Refusal
named None k = Some Einval
named (Some a) k = None

abbrev pub Tells : {A : Type 0} → Option A → (PairState → A → Type 0) → KeptPair → KeptPair → Type 0
Tells named told old new = (new ≡ old) × IsSomeAnd named (λ a. told old.pair a)

-- A pair is made of a closed handle, or memory is refused: EINVAL, which changes nothing, for an open one and for choices that don't fit.
abbrev MakesOf : Bool → Choices → Option KeptPair → ℕ → Type 0
MakesOf true c new n = ((n ≡ 0) × (new ≡ Some (kept_by c (new_pair (sizes_of c))))) ⊎ ((n ≡ 9) × (new ≡ None))
MakesOf false c new n = (n ≡ 1) × (new ≡ None)

abbrev pub Makes : Choices → Option KeptPair → Option KeptPair → ℕ → Type 0
Makes c (Some k) new n = (n ≡ 1) × (new ≡ Some k)
Makes c None new n = MakesOf (are_fit c) c new n

-- The ledger of a direction, as a C program is told it.
abbrev pub books_told : Books → Ledger
books_told books = record { written = books.written; made = books.made; queued = books.queued; inline = books.inlined; fates = books.gone }
