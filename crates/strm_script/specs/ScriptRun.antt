-- What a script writes: its answers, in the order of its lines.
use Rattle.std.specs.Prelude.{ℕ, zero, suc, nat_le, nat_lt, ◌&&◌, ◌||◌, ◌==◌, Bool, true, false, if◌then◌else◌, List, [], ◌∷◌, ◌++◌, length, map}
use Rattle.std.specs.Prelude.{Option, None, Some, option_map, is_some, Result, Ok, Err, unwrap_or, slice_get}
use Rattle.strm_script.specs.Prelude.{Turn, Moved, Blocked, Idle, Both, Caller, Dir, Master, Slave, Place, Head, Driver, QueueName, Up, Down}
use Rattle.strm_script.specs.Prelude.{Refusal, Einval, Enxio, Enosr, place_named, get, no_fates, State, opening, stream, head_of, driver_of, Side}
use Rattle.strm_script.specs.Prelude.{FlushQueues, first_at, Called, Turned, Prio, Wanted, plain, tallied, turned, whole_turn, Request, Reply, called}
use Rattle.strm_script.specs.Prelude.{refused, turn_refused, blocks_asked}
use Rattle.strm_types.specs.declared.names.ModuleName.TheVariants as modules
use Rattle.strm_types.specs.declared.names.Place.TheVariants as places
use Rattle.strm_types.specs.declared.limits.Config.{Config}
use Rattle.strm_laws.proofs.NoOwn.{none as no_own}
use Rattle.strm_laws.specs.Ledgers.{ledger_of}
use Rattle.strm_types.specs.Both.{set}
use Rattle.strm_types.specs.JobControl.{caller_of}
use Rattle.strm_types.specs.Queue.{bytes_of}
use Rattle.strm_pair.specs.Shows.{messages_at}
use Rattle.strm_types.specs.declared.events.Event.TheVariants as calls
use Rattle.strm_types.specs.declared.kinds.Band as bands
use Rattle.strm_types.specs.declared.modes.Prio.TheVariants as sent
use Rattle.strm_types.specs.declared.modes.Wanted.TheVariants as wanted
use Rattle.strm_types.specs.Deliver.{Fate}
use Rattle.strm_types.specs.declared.rules.Fates.{Fates}
use Rattle.strm_types.specs.Journal.{PlainEntry}
use Rattle.strm_script.specs.Script.{Command, Open, Call, Flush, Put, Get, Turn as TurnOf, Run, Show, Ledger, Cut, Group, lines_of}
use Rattle.strm_script.specs.ScriptReading.{Silent, Malformed, Spoken, reading}
use Rattle.strm_script.specs.ScriptAnswers.{Line, Plain, Number, Sizes, Booked, Refused, Wrong, Ran, printed_line, reply_line, turn_line}
use Rattle.strm_script.specs.declared.answers.QueueSize.{QueueSize}
use Rattle.strm_script.specs.declared.commands.NamedPrio.{NamedPrio}
use Rattle.strm_script.specs.declared.commands.NamedPrio.TheVariants as prios
use Rattle.strm_script.specs.declared.commands.NamedWanted.{NamedWanted}
use Rattle.strm_script.specs.declared.commands.NamedWanted.TheVariants as wanteds

-- What the pool of blocks had for an event. An account says it of each call and each turn of a script, in their order;
-- behind its end the pool has enough, and each turn goes to the end of its message.
pub data Supply : Type 0 where
  Enough : Supply
  Within : ℕ → Supply  -- for an event to begin; a turn of a module's queue stopped after so many bytes of its message
  TooFew : Supply

abbrev pub is_enough : Supply → Bool
is_enough Enough = true
is_enough (Within bytes) = true
is_enough TooFew = false

-- the supply of the next event, and the account of those behind it
abbrev pub next_of : List Supply → Supply
next_of [] = Enough
next_of (supply ∷ _) = supply

abbrev pub rest_of : List Supply → List Supply
rest_of [] = []
rest_of (_ ∷ account) = account

-- a pair whose blocks nobody counts: its plain state, its journal, its sizes, and how many bytes have gone by each rule
pub record PlainPair : Type 0 where
  pub state : State ℕ
  pub journal : List PlainEntry
  pub limits : Config
  pub fates : Fates

-- the blocks of each kind that a pair gets where a script names no number
abbrev pub usual_blocks : ℕ
usual_blocks = 256

-- the sizes of a script's pair
abbrev pub script_limits : ℕ → Config
script_limits blocks = record { mblks = blocks; dblks = blocks; journal_events = 8192; journal_bytes = 262144 }

abbrev pub new_plain : ℕ → PlainPair
new_plain blocks = record { state = opening; journal = []; limits = script_limits blocks; fates = no_fates }

-- What an event was answered, and the pair behind it, and whether the pool was short of blocks for it: it got ENOSR, or it is a turn
-- that stopped within its message.
pub record Happened (A : Type 0) : Type 0 where
  pub answer : Result A Refusal
  pub pair : PlainPair
  pub is_short : Bool

-- whether an event got ENOSR
abbrev pub is_enosr : Refusal → Bool
is_enosr Enosr = true
is_enosr _ = false

-- why a call or a turn is refused, with this supply of blocks; a call that asks for none has enough
abbrev pub call_refusal : Supply → PlainPair → Caller → Request → Option Refusal
call_refusal supply p caller asked =
    refused no_own p.state p.journal p.limits (is_enough supply || (blocks_asked asked == 0)) caller asked

abbrev pub turn_refusal : Supply → PlainPair → QueueName → Option Refusal
turn_refusal supply p name = turn_refused p.state p.journal p.limits (is_enough supply) name

-- the pair with one more entry, in another state, and what went on the way
abbrev pub stepped : PlainPair → PlainEntry → State ℕ → List (Fate ℕ) → PlainPair
stepped p entry state gone = record p { state = state; journal = p.journal ++ entry ∷ []; fates = tallied gone p.fates }

-- a call that is refused, if it is, or carried out
abbrev pub call_happens : Option Refusal → PlainPair → Caller → Request → Happened (Reply)
call_happens (Some refusal) p caller asked = record { answer = Err refusal; pair = p; is_short = is_enosr refusal }
call_happens None p caller asked =
    let outcome = called no_own plain caller asked p.state in
    record { answer = Ok outcome.answer; pair = stepped p (Called caller asked outcome.answer) outcome.state outcome.gone; is_short = false }

-- a call
unfoldable pub call_of : Supply → PlainPair → Caller → Request → Happened (Reply)
call_of supply p caller asked = call_happens (call_refusal supply p caller asked) p caller asked

-- How far a turn went that is answered so, if it stopped within its message, which had so many bytes, as turns of modules' queues may
-- for want of blocks (STREAMS Programming Guide, "Service Procedures"; bufcall(9F)).
abbrev pub reach : Place → ℕ → Turn → Option ℕ
reach Head size turn = None
reach Driver size turn = None
reach (places.Module owner) size (Moved bytes) = if nat_lt bytes size then Some bytes else None
reach (places.Module owner) size Blocked = None
reach (places.Module owner) size Idle = None

-- the number that is there, where it is this one
abbrev pub only : ℕ → Option ℕ → Option ℕ
only bytes None = None
only bytes (Some n) = if n == bytes then Some n else None

-- How far a turn of a queue went, where its account says so. It says nothing of a turn that doesn't go so far, nor of one that goes to
-- the end of its message.
abbrev pub told_of : Supply → QueueName → State ℕ → Option ℕ
told_of Enough name s = None
told_of (Within bytes) name s = only bytes (reach name.place (first_at name s) (turned no_own plain name (Moved bytes) s).turn)
told_of TooFew name s = None

-- the answer of a turn that goes as far as is told of it, and else to the end of its message
abbrev pub turn_to : Option ℕ → QueueName → State ℕ → Turn
turn_to None name s = whole_turn name s
turn_to (Some bytes) name s = Moved bytes

-- a turn that is refused, if it is, or taken as far as is told of it
abbrev pub turn_happens : Option Refusal → Option ℕ → PlainPair → QueueName → Happened Turn
turn_happens (Some refusal) told p name = record { answer = Err refusal; pair = p; is_short = is_enosr refusal }
turn_happens None told p name =
    let outcome = turned no_own plain name (turn_to told name p.state) p.state in
    record { answer = Ok outcome.turn; pair = stepped p (Turned name outcome.turn) outcome.state outcome.gone; is_short = is_some told }

-- a turn of a queue
unfoldable pub turn_of : Supply → PlainPair → QueueName → Happened Turn
turn_of supply p name = turn_happens (turn_refusal supply p name) (told_of supply name p.state) p name

-- what a line leads to: its answer, the pair behind it, what is left of the account, and whether the pool was short of blocks for an event
pub record Answered : Type 0 where
  pub line : Line
  pub pair : Option PlainPair
  pub account : List Supply
  pub is_short : Bool

-- a command that no pair answers
abbrev pub unanswered : Refusal → Option PlainPair → List Supply → Answered
unanswered refusal pair account = record { line = Refused refusal; pair = pair; account = account; is_short = false }

-- a call by a command
unfoldable pub by_call : Caller → Request → List Supply → PlainPair → Answered
by_call caller asked account p =
    let happened = call_of (next_of account) p caller asked in
    record {
      line = reply_line happened.answer;
      pair = Some happened.pair;
      account = rest_of account;
      is_short = happened.is_short;
    }

-- a flush by a command; a band above 255 is refused before any call
unfoldable pub by_flush : Caller → FlushQueues → Option ℕ → List Supply → PlainPair → Answered
by_flush caller what None account p = by_call caller (calls.Flush what None) account p
by_flush caller what (Some band) account p =
    if nat_le band 255
    then by_call caller (calls.Flush what (Some (record { 0 = band }))) account p
    else unanswered Einval (Some p) account

-- the band of a number that a call can name: none above 255
unfoldable pub band_of : ℕ → Option bands.Band
band_of n = if nat_le n 255 then Some (record { 0 = n }) else None

-- the priority of a put, and the message that a get wants, where a call can name them
abbrev pub prio_of : NamedPrio → Option Prio
prio_of prios.High = Some sent.High
prio_of (prios.Band n) = option_map sent.Band (band_of n)

abbrev pub wanted_of : NamedWanted → Option Wanted
wanted_of wanteds.Any = Some wanted.Any
wanted_of wanteds.High = Some wanted.High
wanted_of (wanteds.Band n) = option_map wanted.Band (band_of n)

-- a call by a command, where what the command names is what a call can name, else it is refused before any call
abbrev pub by_named : {A : Type 0} → Caller → (A → Request) → Option A → List Supply → PlainPair → Answered
by_named caller asked None account p = unanswered Einval (Some p) account
by_named caller asked (Some x) account p = by_call caller (asked x) account p

-- a put and a get by a command; a band above 255 is refused before any call
unfoldable pub by_put : Caller → NamedPrio → Option (List ℕ) → Option (List ℕ) → List Supply → PlainPair → Answered
by_put caller prio control body account p = by_named caller (λ prio. calls.Put prio control body) (prio_of prio) account p

unfoldable pub by_get : Caller → NamedWanted → ℕ → ℕ → List Supply → PlainPair → Answered
by_get caller wanted cmax dmax account p = by_named caller (λ wanted. calls.Get wanted cmax dmax) (wanted_of wanted) account p

-- the queues of the module on a side's stream that has queues, the read queue first
abbrev pub module_queues : Side → State ℕ → List QueueName
module_queues side s =
    if is_some (place_named (places.Module modules.Ldterm) (stream side s).modules)
    then record { side = side; place = places.Module modules.Ldterm; way = Up }
    ∷ record { side = side; place = places.Module modules.Ldterm; way = Down } ∷ []
    else []

-- the queues of a side's stream, from the head down
abbrev pub queues_down : Side → State ℕ → List QueueName
queues_down side s = head_of side ∷ (module_queues side s ++ driver_of side ∷ [])

-- how many messages stand on a queue, and how many bytes they have
abbrev pub size_at : State ℕ → QueueName → QueueSize
size_at s name = record { name = name; messages = length (messages_at name s); bytes = bytes_of (messages_at name s) }

-- a look at what stands on a side's queues, which is no event
unfoldable pub by_show : Side → List Supply → PlainPair → Answered
by_show side account p = record {
  line = Sizes side (map (size_at p.state) (queues_down side p.state));
  pair = Some p;
  account = account;
  is_short = false;
}

-- a look at the ledger of a direction, which is no event
unfoldable pub by_ledger : Dir → List Supply → PlainPair → Answered
by_ledger direction account p = record {
  line = Booked direction (ledger_of direction p.state p.fates);
  pair = Some p;
  account = account;
  is_short = false;
}

-- The journal begins anew, which is no event: the line says how many entries it held. All else stays.
unfoldable pub by_cut : List Supply → PlainPair → Answered
by_cut account p = record { line = Number (length p.journal); pair = Some (record p { journal = [] }); account = account; is_short = false }

-- a turn by a command
unfoldable pub by_turn : QueueName → List Supply → PlainPair → Answered
by_turn name account p =
    let happened = turn_of (next_of account) p name in
    record {
      line = turn_line happened.answer;
      pair = Some happened.pair;
      account = rest_of account;
      is_short = happened.is_short;
    }

-- turns by a command: how many were taken, and what they led to
pub record Turns : Type 0 where
  pub count : ℕ
  pub pair : PlainPair
  pub account : List Supply
  pub is_short : Bool

-- turns that end before the first
abbrev pub no_turns : Bool → List Supply → PlainPair → Turns
no_turns short account p = record { count = 0; pair = p; account = account; is_short = short }

-- one more turn before others, for which the pool was short of blocks or not
abbrev pub counted : Bool → Turns → Turns
counted short turns = record turns { count = suc turns.count; is_short = short || turns.is_short }

-- Turns of the first enabled queue, so many at most. They end where none is enabled, and where one is refused.
unfoldable pub turns_of : ℕ → List Supply → PlainPair → Turns
turns_of zero account p = no_turns false account p
turns_of (suc n) account p =
    elim (slice_get p.state.enabled 0) [
      | None ↦ no_turns false account p
      | Some name ↦
          let happened = turn_of (next_of account) p name in
          elim happened.answer [
            | Err refusal ↦ no_turns happened.is_short (rest_of account) happened.pair
            | Ok turn ↦ counted happened.is_short (turns_of n (rest_of account) happened.pair)
          ]
    ]

unfoldable pub by_run : ℕ → List Supply → PlainPair → Answered
by_run n account p =
    let turns = turns_of n account p in
    record { line = Ran turns.count; pair = Some turns.pair; account = turns.account; is_short = turns.is_short }

-- the pair is made and its master opened, once, with 1 to 4096 blocks of each kind
unfoldable pub by_open : Caller → ℕ → List Supply → Answered
by_open caller blocks account =
    if nat_le 1 blocks && nat_le blocks 4096
    then by_call caller calls.OpenMaster account (new_plain blocks)
    else unanswered Einval None account

-- another caller on its side makes no call, and needs no pair
abbrev pub by_group : Option PlainPair → List Supply → Answered
by_group pair account = record { line = Plain; pair = pair; account = account; is_short = false }

-- where a pair is needed
abbrev pub with_pair : (List Supply → PlainPair → Answered) → List Supply → Option PlainPair → Answered
with_pair answer account None = unanswered Enxio None account
with_pair answer account (Some p) = answer account p

-- what a command leads to, where these make the calls on each side
unfoldable pub answered : Both Caller → Command → List Supply → Option PlainPair → Answered
answered callers (Open blocks) account None = by_open callers.master (unwrap_or blocks usual_blocks) account
answered callers (Open blocks) account (Some p) = unanswered Einval (Some p) account
answered callers (Call side asked) account pair = with_pair (by_call (get side callers) asked) account pair
answered callers (Flush side what band) account pair = with_pair (by_flush (get side callers) what band) account pair
answered callers (Put side prio control body) account pair = with_pair (by_put (get side callers) prio control body) account pair
answered callers (Get side wanted cmax dmax) account pair = with_pair (by_get (get side callers) wanted cmax dmax) account pair
answered callers (TurnOf name) account pair = with_pair (by_turn name) account pair
answered callers (Run n) account pair = with_pair (by_run n) account pair
answered callers (Show side) account pair = with_pair (by_show side) account pair
answered callers (Ledger direction) account pair = with_pair (by_ledger direction) account pair
answered callers Cut account pair = with_pair by_cut account pair
answered callers (Group caller) account pair = by_group pair account

-- who makes the calls behind a command
abbrev pub callers_behind : Command → Both Caller → Both Caller
callers_behind (Group caller) callers = set caller.side caller callers
callers_behind _ callers = callers

-- Where a script stands between two lines: who makes the calls on each side, and the pair, once there is one.
pub record Session : Type 0 where
  pub callers : Both Caller
  pub pair : Option PlainPair

-- it begins without a pair, and with callers that have no process group
abbrev pub new_callers : Both Caller
new_callers = record { master = caller_of Master; slave = caller_of Slave }

abbrev pub new_session : Session
new_session = record { callers = new_callers; pair = None }

-- where it stands behind a command that left this pair
abbrev pub session_behind : Command → Session → Option PlainPair → Session
session_behind command session pair = record { callers = callers_behind command session.callers; pair = pair }

-- What lines lead to: the text, the first line in which the pool was short of blocks for an event, and the first malformed line, at
-- which the script ends.
pub record Told : Type 0 where
  pub text : List ℕ
  pub short : Option ℕ
  pub fault : Option ℕ

-- the first that is there
abbrev pub first_of : Option ℕ → Option ℕ → Option ℕ
first_of None second = second
first_of (Some first) second = Some first

-- a line's number, where the condition holds
abbrev pub line_if : Bool → ℕ → Option ℕ
line_if true n = Some n
line_if false n = None

-- what lines lead to behind a text, with the first short line before them, if any
abbrev pub told_after : List ℕ → Option ℕ → Told → Told
told_after text short later =
    record { text = text ++ later.text; short = first_of short later.short; fault = later.fault }

-- lines from one of this number on, for this account, in this session
unfoldable pub told_from : ℕ → List Supply → Session → List (List ℕ) → Told
told_from n account session [] = record { text = []; short = None; fault = None }
told_from n account session (line ∷ lines) =
    elim (reading line) [
      | Silent ↦ told_from (suc n) account session lines
      | Malformed ↦ record { text = printed_line (Wrong n); short = None; fault = Some n }
      | Spoken command ↦
          let here = answered session.callers command account session.pair in
          told_after (printed_line here.line) (line_if here.is_short n) (told_from (suc n) here.account (session_behind command session here.pair) lines)
    ]

-- a script, for an account of what the pool had for its events
abbrev pub told : List Supply → List ℕ → Told
told account bytes = told_from 1 account new_session (lines_of bytes)

-- the text of a script
abbrev pub script_lines : List Supply → List ℕ → List ℕ
script_lines account bytes = (told account bytes).text

-- the text of lines whose events all had the blocks that they asked for, and whose turns all went to the end of their message, and of a
-- whole script
abbrev pub plain_lines : List (List ℕ) → List ℕ
plain_lines lines = (told_from 1 [] new_session lines).text

abbrev pub plain_text : List ℕ → List ℕ
plain_text bytes = plain_lines (lines_of bytes)
