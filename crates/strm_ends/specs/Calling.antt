-- Calls of a C program's numbers, by the end in hand.
use Rattle.std.specs.Prelude.{ℕ, ◌≡◌, ◌≤◌, nat_le, if◌then◌else◌, List, [], length, drop, Option, None, Some, Ok, Err, MatchResult}
use Rattle.strm_types.specs.declared.answers.Answer.{Answer}
use Rattle.strm_types.specs.declared.events.Event.TheVariants.{Ioctl, IoctlResult, OpenMaster, OpenSlave, Signals}
use Rattle.strm_types.specs.declared.refusals.Refusal.TheVariants.{Einval}
use Rattle.strm_types.specs.Events.{Request}
use Rattle.strm_types.specs.Journal.{content_max, reply_in}
use Rattle.strm_laws.specs.State.{State}
use Rattle.strm_laws.specs.Within.{AreWithin}
use Rattle.strm_locks.specs.Ends.{Calls, Share}
use Rattle.strm_locks.specs.Systems.{Numbered}
use Rattle.strm_handle.specs.declared.asks.Ask.{Ask}
use Rattle.strm_handle.specs.declared.replies.Reply.{Reply}
use Rattle.strm_handle.specs.Calls.{answer_in, brought, event_at}
use Rattle.strm_handle.specs.Outcomes.{Stay}
use Rattle.strm_ends.specs.declared.hold.Hold.TheVariants.{Nothing, Minor, End}
use Rattle.strm_ends.specs.declared.numbers.NotDone.{NotDone}
use Rattle.strm_ends.specs.declared.numbers.NotDone.TheVariants.{Busy, Refused}
use Rattle.strm_ends.specs.Members.{InHand, Seated}
use Rattle.strm_ends.specs.Opening.{with_hold, with_share}
use Rattle.strm_ends.specs.Outcomes.{Outcome, Refuses}

-- A call that an end makes by its numbers: none that opens a side, as those give ends, and none whose greatest answer doesn't fit the buffer.
abbrev pub fitting : ℕ → Request → Option Request
fitting room asked = if nat_le (content_max asked) room then Some asked else None

abbrev pub plain : ℕ → Option Request → Option Request
plain room None = None
plain room (Some OpenMaster) = None
plain room (Some OpenSlave) = None
plain room (Some asked) = fitting room asked

abbrev pub asked_by : Ask → List ℕ → ℕ → Option Request
asked_by ask bytes room = plain room (event_at ask (brought ask bytes))

-- what a caller's pointers lead to: the buffer and the reply, before a call and behind it
pub record Told : Type 0 where
  pub before : List ℕ
  pub out : List ℕ
  pub was : Reply
  pub reply : Reply

abbrev pub told_of : (before out : List ℕ) (was reply : Reply) → Told
told_of before out was reply = record { before = before; out = out; was = was; reply = reply }

-- What a head keeps for its caller is no more than it may, where the call asks for that: signals that wait, and the answer of an ioctl.
abbrev pub KeepsFew : Request → State ℕ → Type 0
KeepsFew (Ioctl command body) s = AreWithin s
KeepsFew (IoctlResult number) s = AreWithin s
KeepsFew Signals s = AreWithin s
KeepsFew _ s = Unit {0}

-- the reply and the front of the buffer are the answer, whose bytes the reply counts
pub record TellsAnswer (answer : Answer ℕ) (bytes : List ℕ) (t : Told) : Type 0 where
  pub told : answer_in t.reply t.out ≡ Some (reply_in answer bytes)
  pub count : t.reply.bytes ≡ length bytes

-- The end is told of the call, whose answer the reply and the buffer tell; behind its bytes the buffer stays.
pub record IsAnswered (a : Seated) (system : ℕ) (e : Numbered) (asked : Request) (t : Told) (b : Seated) : Type 0 where
  pub answer : Answer ℕ
  pub bytes : List ℕ
  pub share : Share
  pub calls : Calls e.end asked [] bytes (Ok answer) share
  pub left : b ≡ with_hold (End system (with_share share e)) a
  pub told : KeepsFew asked calls.found.state → TellsAnswer answer bytes t
  pub fits : t.reply.bytes ≤ length t.before
  pub others : drop t.reply.bytes t.out ≡ drop t.reply.bytes t.before

-- The pair refuses it, and what the end was told stays; or another thread has the lock, and nothing was done.
abbrev pub NotCalled : Seated → ℕ → Numbered → Request → NotDone → Seated → Type 0
NotCalled a system e asked Busy b = b ≡ with_hold (End system e) a
NotCalled a system e asked (Refused refusal) b =
    (share : Share) × Calls e.end asked [] [] (Err refusal) share × (b ≡ with_hold (End system (with_share share e)) a)

abbrev pub CallsBy : Seated → ℕ → Numbered → Request → Told → Outcome → Seated → Type 0
CallsBy a system e asked t r b = MatchResult r (λ _. IsAnswered a system e asked t b)
    (λ why. Stay t.before t.out t.was t.reply × NotCalled a system e asked why b)

-- EINVAL for numbers that ask for no such call, and where no end is in hand.
abbrev pub CallsOf : Option Request → Seated → ℕ → Numbered → Told → Outcome → Seated → Type 0
CallsOf None a system e t r b = Refuses Einval (Stay t.before t.out t.was t.reply) a r b
CallsOf (Some asked) a system e t r b = CallsBy a system e asked t r b

abbrev calls_where : InHand → Ask → List ℕ → Seated → Told → Outcome → Seated → Type 0
calls_where Nothing ask bytes a t r b = Refuses Einval (Stay t.before t.out t.was t.reply) a r b
calls_where (Minor m) ask bytes a t r b = Refuses Einval (Stay t.before t.out t.was t.reply) a r b
calls_where (End system e) ask bytes a t r b = CallsOf (asked_by ask bytes (length t.before)) a system e t r b

abbrev pub CallsEnd : Ask → List ℕ → Told → Seated → Outcome → Seated → Type 0
CallsEnd ask bytes t a r b = calls_where a.hold ask bytes a t r b
