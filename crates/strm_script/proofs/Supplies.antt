-- Events that get the blocks that they ask for: none of them is short.
use Rattle.strm_script.proofs.Prelude.{◌≡◌, ℕ, zero, suc, Bool, true, false, cond, List, [], ◌∷◌, Option, None, Some, Result, Ok, Err, refl, sym, ap}
use Rattle.strm_script.proofs.Prelude.{◌∙◌, slice_get, inl, inr, unwrap_or, nat_le, ◌&&◌, ◌||◌, not, cases_Bool}
use Rattle.strm_script.specs.Prelude.{Turn, Caller, QueueName, Refusal, Einval, Eagain, Ebadmsg, Enxio, Erange, JournalFull, Eio, Both, Ttin, Ttou}
use Rattle.strm_script.specs.Prelude.{get, FlushQueues, Message, Prio, Wanted, State, stream, Request, or_else, unless, refused_at_once}
use Rattle.strm_script.specs.Prelude.{refused_by_state}
use Rattle.strm_types.specs.declared.job_control.Verdict.TheVariants.{Refused, Stopped, Allowed}
use Rattle.strm_types.specs.declared.needs.Access.{Access}
use Rattle.strm_types.specs.declared.needs.Access.TheVariants.{Reads, Writes}
use Rattle.strm_types.specs.JobControl.{foreground, held, is_background, refusal_behind}
use Rattle.std.specs.Prelude.{◌==◌}
use Rattle.strm_types.specs.declared.modes.ControlMode.{ControlMode}
use Rattle.strm_types.specs.Reads.{finds_none, starts_refused, read_refusal}
use Rattle.strm_types.specs.Gets.{is_wanted, get_refusal}
use Rattle.strm_types.specs.PutMsg.{is_no_prio, is_too_long, put_refusal}
use Rattle.strm_types.specs.declared.slots.Slot.TheVariants.{Free, Waiting, Answered}
use Rattle.strm_types.specs.Slots.{PlainSlot, unless_same, result_refusal}
use Rattle.strm_types.specs.declared.events.Event.TheVariants as calls
use Rattle.strm_types.specs.Needs.{needs}
use Rattle.strm_laws.proofs.NoOwn.{none as no_own}
use Rattle.strm_laws.specs.Refusals.{at_end, unfit}
use Rattle.strm_script.specs.Script.{Command, Open, Call, Flush, Put, Get, Turn as TurnOf, Run, Show, Ledger, Cut, Group}
use Rattle.strm_script.specs.ScriptReading.{Reading, Silent, Malformed, Spoken, reading}
use Rattle.strm_script.specs.ScriptRun as script
use Rattle.strm_script.specs.ScriptRun.{Supply, Enough, TooFew, PlainPair, Happened, call_refusal, turn_refusal, call_happens, turn_happens, call_of, turn_of, is_enosr, turns_of, no_turns, counted, by_call, by_flush, prio_of, wanted_of, by_named, by_put, by_get, by_show, by_ledger, by_cut, by_turn, by_run, by_open, answered, Session, session_behind, told_from, new_plain}
use Rattle.strm_script.proofs.Events.{turns_none, turns_err, turns_ok, turns_zero}

-- a refusal is for want of blocks
unfoldable pub is_want : Option Refusal → Bool
is_want None = false
is_want (Some refusal) = is_enosr refusal

or_else-want : (a b : Option Refusal) → is_want a ≡ false → is_want b ≡ false → is_want (or_else a b) ≡ false
or_else-want None b x y = y
or_else-want (Some r) b x y = x

unless-want : (condition : Bool) (r : Refusal) → is_enosr r ≡ false → is_want (unless condition r) ≡ false
unfolding is_want
unless-want true r h = refl
unless-want false r h = h

none-want : is_want None ≡ false
unfolding is_want
none-want = refl

-- what a put is refused for by its arguments alone
put-want : (prio : Prio) (control body : Option (List ℕ)) → is_want (put_refusal prio control body) ≡ false
unfolding is_want
put-want prio control body = at (is_no_prio prio control) (is_too_long control body)
  where
    at : (a b : Bool) → is_want (cond a (Some Einval) (cond b (Some Erange) None)) ≡ false
    at true b = refl
    at false true = refl
    at false false = refl

-- and any call
wrong-want : (asked : Request) → is_want (needs asked).wrong ≡ false
wrong-want (calls.Push name) = unless-want _ Einval refl
wrong-want (calls.Put prio control body) = put-want prio control body
wrong-want (calls.Ioctl command sent) = unless-want _ Erange refl
wrong-want _ = none-want

at_once-want : (s : State ℕ) (caller : Caller) (asked : Request) → is_want (refused_at_once s caller asked) ≡ false
at_once-want s caller asked = or_else-want _ _ (unless-want _ Enxio refl) (or_else-want _ _ (unless-want _ Einval refl) (or_else-want _ _ (wrong-want asked) (or_else-want _ _ (unless-want _ Erange refl) (unless-want _ Erange refl))))

-- a read is refused for what stands there
read-want : (control : ControlMode) (end : Bool) (n : ℕ) (q : List (Message ℕ)) → is_want (read_refusal control end n q) ≡ false
unfolding is_want
read-want control end n q = at (n == 0) (finds_none control q) end (starts_refused control q)
  where
    at : (zero none end bad : Bool) → is_want (cond zero None (cond none (cond end None (Some Eagain)) (cond bad (Some Ebadmsg) None))) ≡ false
    at true none end bad = refl
    at false true true bad = refl
    at false true false bad = refl
    at false false end true = refl
    at false false end false = refl

-- a get is refused for the first message, or where there is none
fits-want : (here : Bool) → is_want (cond here None (Some Eagain)) ≡ false
unfolding is_want
fits-want true = refl
fits-want false = refl

get-want : (wanted : Wanted) (end : Bool) (q : List (Message ℕ)) → is_want (get_refusal wanted end q) ≡ false
get-want wanted end [] = fits-want end
get-want wanted end (m ∷ q) = fits-want (is_wanted wanted m)

-- a question for the answer of an ioctl is refused for its number, or while that waits
same-want : (number asked : ℕ) (o : Option Refusal) → is_want o ≡ false → is_want (unless_same number asked o) ≡ false
unfolding is_want
same-want number asked o h = at (number == asked)
  where
    at : (same : Bool) → is_want (cond same o (Some Einval)) ≡ false
    at true = h
    at false = refl

wait-want : is_want (Some Eagain) ≡ false
unfolding is_want
wait-want = refl

none_asked-want : is_want (Some Einval) ≡ false
unfolding is_want
none_asked-want = refl

answer-want : (asked : ℕ) (slot : PlainSlot) → is_want (result_refusal asked slot) ≡ false
answer-want asked Free = none_asked-want
answer-want asked (Waiting number command) = same-want number asked (Some Eagain) wait-want
answer-want asked (Answered number command acked error body) = same-want number asked None none-want

-- a call that isn't held is refused as it doesn't fit
unfit-want : (s : State ℕ) (caller : Caller) (asked : Request) → is_want (unfit no_own s caller asked) ≡ false
unfit-want s caller calls.OpenMaster = unless-want _ Einval refl
unfit-want s caller calls.OpenSlave = or_else-want _ _ (unless-want _ Einval refl) (unless-want _ Eagain refl)
unfit-want s caller (calls.Push name) = unless-want _ Einval refl
unfit-want s caller calls.Pop = unless-want _ Einval refl
unfit-want s caller calls.Look = unless-want _ Einval refl
unfit-want s caller (calls.Write cells) = unless-want _ Eagain refl
unfit-want s caller (calls.Read n) = let h = (stream caller.side s).head in read-want h.control_mode (at_end caller.side s) n h.queue.messages
unfit-want s caller (calls.Put prio control body) = unless-want _ Eagain refl
unfit-want s caller (calls.Get wanted cmax dmax) = get-want wanted (at_end caller.side s) (stream caller.side s).head.queue.messages
unfit-want s caller (calls.Ioctl command sent) = unless-want _ Eagain refl
unfit-want s caller (calls.IoctlResult number) = answer-want number (stream caller.side s).head.ioctl
unfit-want s caller _ = none-want

-- job control refuses it by EIO alone
held-want : (access : Option Access) (tostop : Bool) (group : ℕ) (caller : Caller) (next : Option Refusal) → is_want next ≡ false → is_want (refusal_behind (held access tostop group caller) next) ≡ false
unfolding is_want
held-want None tostop group caller next h = h
held-want (Some Reads) tostop group caller next h = by (is_background caller group) (caller.ignores || caller.orphaned)
  where
    by : (behind refuses : Bool) → is_want (refusal_behind (cond behind (cond refuses (Refused Eio) (Stopped Ttin)) Allowed) next) ≡ false
    by false refuses = h
    by true true = refl
    by true false = refl
held-want (Some Writes) tostop group caller next h = by (is_background caller group) (not tostop || caller.ignores) caller.orphaned
  where
    by : (behind goes refuses : Bool) → is_want (refusal_behind (cond behind (cond goes Allowed (cond refuses (Refused Eio) (Stopped Ttou))) Allowed) next) ≡ false
    by false goes refuses = h
    by true true refuses = h
    by true false true = refl
    by true false false = refl

by_state-want : (s : State ℕ) (caller : Caller) (asked : Request) → is_want (refused_by_state no_own s caller asked) ≡ false
by_state-want s caller asked =
    let h = (stream caller.side s).head in
    held-want (needs asked).access h.tostop (foreground h.hung_up h.group) caller (unfit no_own s caller asked) (unfit-want s caller asked)

pub call_happens-short : (o : Option Refusal) (p : PlainPair) (caller : Caller) (asked : Request) → (call_happens o p caller asked).is_short ≡ is_want o
unfolding is_want
call_happens-short None p caller asked = refl
call_happens-short (Some r) p caller asked = refl

pub turn_happens-short : (o : Option Refusal) (p : PlainPair) (name : QueueName) → (turn_happens o None p name).is_short ≡ is_want o
unfolding is_want
turn_happens-short None p name = refl
turn_happens-short (Some r) p name = refl

pub call-enough : (p : PlainPair) (caller : Caller) (asked : Request) → (call_of Enough p caller asked).is_short ≡ false
unfolding call_of
call-enough p caller asked =
    call_happens-short (call_refusal Enough p caller asked) p caller asked
    ∙ or_else-want (refused_at_once p.state caller asked) _ (at_once-want p.state caller asked)
    (or_else-want _ _ (unless-want _ JournalFull refl) (by_state-want p.state caller asked))

pub turn-enough : (p : PlainPair) (name : QueueName) → (turn_of Enough p name).is_short ≡ false
unfolding turn_of
turn-enough p name =
    turn_happens-short (turn_refusal Enough p name) p name
    ∙ or_else-want _ _ (unless-want _ Einval refl)
    (or_else-want _ _ (unless-want _ Erange refl) (or_else-want _ _ (unless-want _ JournalFull refl) none-want))

-- turns that get their blocks
pub record AllEnough (short : Bool) (account : List Supply) : Type 0 where
  pub not_short : short ≡ false
  pub none_left : account ≡ []

-- what holds of so many turns on any pair
abbrev Enough-at : ℕ → Type 0
Enough-at n = (p : PlainPair) → AllEnough (turns_of n [] p).is_short (turns_of n [] p).account

turns-one : (n : ℕ) → Enough-at n → (p : PlainPair) (name : QueueName) → slice_get p.state.enabled 0 ≡ Some name → (r : Result Turn Refusal) (after : PlainPair) (short : Bool)
    → turn_of Enough p name ≡ record { answer = r; pair = after; is_short = short } → AllEnough (turns_of (suc n) [] p).is_short (turns_of (suc n) [] p).account
turns-one n later p name e (Err refusal) after short h =
    let all = turns_err n [] p after name refusal short e h in
    record {
      not_short = ap (λ (t : script.Turns). t.is_short) all ∙ ap (λ (x : Happened Turn). x.is_short) (sym h) ∙ turn-enough p name;
      none_left = ap (λ (t : script.Turns). t.account) all;
    }
turns-one n later p name e (Ok turn) after short h =
    let all = turns_ok n [] p after name turn short e h in
    let first = ap (λ (x : Happened Turn). x.is_short) (sym h) ∙ turn-enough p name in
    record {
      not_short = ap (λ (t : script.Turns). t.is_short) all ∙ ap (λ (b : Bool). b || (turns_of n [] after).is_short) first ∙ (later after).not_short;
      none_left = ap (λ (t : script.Turns). t.account) all ∙ (later after).none_left;
    }

turns-first : (n : ℕ) → Enough-at n → (p : PlainPair) (o : Option QueueName) → slice_get p.state.enabled 0 ≡ o → AllEnough (turns_of (suc n) [] p).is_short (turns_of (suc n) [] p).account
turns-first n later p None e = record {
  not_short = ap (λ (t : script.Turns). t.is_short) (turns_none (suc n) [] p e);
  none_left = ap (λ (t : script.Turns). t.account) (turns_none (suc n) [] p e);
}
turns-first n later p (Some name) e = turns-one n later p name e (turn_of Enough p name).answer (turn_of Enough p name).pair (turn_of Enough p name).is_short refl

pub turns-enough : (n : ℕ) → Enough-at n
turns-enough zero p = record {
  not_short = ap (λ (t : script.Turns). t.is_short) (turns_zero [] p);
  none_left = ap (λ (t : script.Turns). t.account) (turns_zero [] p);
}
turns-enough (suc n) p = turns-first n (turns-enough n) p (slice_get p.state.enabled 0) refl

-- an `open`
open-enough : (caller : Caller) (blocks : ℕ) → AllEnough (by_open caller blocks []).is_short (by_open caller blocks []).account
unfolding by_open by_call
open-enough caller blocks = elim (cases_Bool (nat_le 1 blocks && nat_le blocks 4096)) [
  | inl e ↦ rw (e) (record { not_short = call-enough (new_plain blocks) caller calls.OpenMaster; none_left = refl })
  | inr e ↦ rw (e) (record { not_short = refl; none_left = refl })
]

-- a flush of one band
flush-enough : (caller : Caller) (what : FlushQueues) (band : ℕ) (p : PlainPair)
    → AllEnough (by_flush caller what (Some band) [] p).is_short (by_flush caller what (Some band) [] p).account
unfolding by_flush by_call
flush-enough caller what band p = elim (cases_Bool (nat_le band 255)) [
  | inl e ↦ rw (e) (record { not_short = call-enough p caller (calls.Flush what (Some (record { 0 = band }))); none_left = refl })
  | inr e ↦ rw (e) (record { not_short = refl; none_left = refl })
]

-- a command that names what a call can name, or can't
named-enough : {A : Type 0} (caller : Caller) (asked : A → Request) (named : Option A) (p : PlainPair)
    → AllEnough (by_named caller asked named [] p).is_short (by_named caller asked named [] p).account
unfolding by_call
named-enough caller asked None p = record { not_short = refl; none_left = refl }
named-enough caller asked (Some x) p = record { not_short = call-enough p caller (asked x); none_left = refl }

-- a command whose events get their blocks
pub answered-enough : (callers : Both Caller) (command : Command) (pair : Option PlainPair) → AllEnough (answered callers command [] pair).is_short (answered callers command [] pair).account
unfolding answered by_call by_flush by_put by_get by_show by_ledger by_cut by_turn by_run by_open
answered-enough callers (Open blocks) None = open-enough callers.master (unwrap_or blocks 256)
answered-enough callers (Open blocks) (Some p) = record { not_short = refl; none_left = refl }
answered-enough callers (Call side asked) None = record { not_short = refl; none_left = refl }
answered-enough callers (Call side asked) (Some p) = record { not_short = call-enough p (get side callers) asked; none_left = refl }
answered-enough callers (Flush side what band) None = record { not_short = refl; none_left = refl }
answered-enough callers (Flush side what None) (Some p) = record { not_short = call-enough p (get side callers) (calls.Flush what None); none_left = refl }
answered-enough callers (Flush side what (Some band)) (Some p) = flush-enough (get side callers) what band p
answered-enough callers (Put side prio control body) None = record { not_short = refl; none_left = refl }
answered-enough callers (Put side prio control body) (Some p) = named-enough (get side callers) (λ prio. calls.Put prio control body) (prio_of prio) p
answered-enough callers (Get side wanted cmax dmax) None = record { not_short = refl; none_left = refl }
answered-enough callers (Get side wanted cmax dmax) (Some p) = named-enough (get side callers) (λ wanted. calls.Get wanted cmax dmax) (wanted_of wanted) p
answered-enough callers (TurnOf name) None = record { not_short = refl; none_left = refl }
answered-enough callers (TurnOf name) (Some p) = record { not_short = turn-enough p name; none_left = refl }
answered-enough callers (Run n) None = record { not_short = refl; none_left = refl }
answered-enough callers (Run n) (Some p) = turns-enough n p
answered-enough callers (Show side) None = record { not_short = refl; none_left = refl }
answered-enough callers (Show side) (Some p) = record { not_short = refl; none_left = refl }
answered-enough callers (Ledger direction) None = record { not_short = refl; none_left = refl }
answered-enough callers (Ledger direction) (Some p) = record { not_short = refl; none_left = refl }
answered-enough callers Cut None = record { not_short = refl; none_left = refl }
answered-enough callers Cut (Some p) = record { not_short = refl; none_left = refl }
answered-enough callers (Group caller) pair = record { not_short = refl; none_left = refl }

-- a script whose events get their blocks has no short line
told-line : (n : ℕ) (session : Session) (line : List ℕ) (lines : List (List ℕ)) (r : Reading) → reading line ≡ r
    → ((later : Session) → (told_from (suc n) [] later lines).short ≡ None) → (told_from n [] session (line ∷ lines)).short ≡ None
unfolding told_from
told-line n session line lines Silent e later = rw (e, told_from) (later session)
told-line n session line lines Malformed e later = rw (e, told_from) refl
told-line n session line lines (Spoken command) e later =
    let one = answered-enough session.callers command session.pair in
    rw (e, told_from, one.not_short, one.none_left) (later (session_behind command session (answered session.callers command [] session.pair).pair))

pub told-enough : (n : ℕ) (session : Session) (lines : List (List ℕ)) → (told_from n [] session lines).short ≡ None
unfolding told_from
told-enough n session [] = refl
told-enough n session (line ∷ lines) = told-line n session line lines (reading line) refl (λ later. told-enough (suc n) later lines)
