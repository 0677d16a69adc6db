-- An empty journal of 8192 bytes takes any call and any turn: so a pair whose full journal begins anew never refuses one for it.
use Rattle.std.proofs.Common.{ℕ, ◌≡◌, ◌≤◌, ◌<◌, ◌+◌, Bool, true, false, cond, List, [], ◌∷◌, ◌++◌, length, length-append, refl, sym, subst, ap, arith}
use Rattle.std.proofs.lemmas.Bool.Decides.{nat_tests}
use Rattle.std.specs.Prelude.{Option, None, Some, nat_le, nat_lt, not, ◌&&◌, ◌||◌, ◌==◌}
use Rattle.strm_types.specs.declared.events.Caller.{Caller}
use Rattle.strm_types.specs.declared.events.Event.TheVariants.{OpenMaster, Unlock, OpenSlave, Shut, Push, Pop, Look, Flush, Write, Read, Put, Get, Mode, Nread, Ioctl, IoctlResult, Signals}
use Rattle.strm_types.specs.declared.job_control.Verdict.{Verdict}
use Rattle.strm_types.specs.declared.job_control.Verdict.TheVariants.{Allowed, Refused, Stopped}
use Rattle.strm_types.specs.declared.limits.Config.{Config}
use Rattle.strm_types.specs.declared.limits.TheConstants.{CONTROL_MAX, DATA_MAX, IOCTL_MAX}
use Rattle.strm_types.specs.declared.modes.ControlMode.{ControlMode}
use Rattle.strm_types.specs.declared.modes.Prio.{Prio}
use Rattle.strm_types.specs.declared.modes.Wanted.{Wanted}
use Rattle.strm_types.specs.declared.names.QueueName.{QueueName}
use Rattle.strm_types.specs.declared.names.Side.{Side}
use Rattle.strm_types.specs.declared.names.Side.TheVariants.{Slave}
use Rattle.strm_types.specs.declared.needs.Access.{Access}
use Rattle.strm_types.specs.declared.needs.Access.TheVariants.{Reads, Writes}
use Rattle.strm_types.specs.declared.needs.Needs.{Needs}
use Rattle.strm_types.specs.declared.refusals.Refusal.{Refusal}
use Rattle.strm_types.specs.declared.refusals.Refusal.TheVariants.{Einval, Eagain, Enxio, Enosr, Erange, Eio, JournalFull}
use Rattle.strm_types.specs.declared.slots.Slot.{Slot}
use Rattle.strm_types.specs.declared.slots.Slot.TheVariants.{Free, Waiting, Answered}
use Rattle.strm_types.specs.Events.{Request}
use Rattle.strm_types.specs.Gets.{get_refusal, is_wanted}
use Rattle.strm_types.specs.JobControl.{foreground, from_background, held, is_background, refusal_behind}
use Rattle.strm_types.specs.Message.{Message, part}
use Rattle.strm_types.specs.Names.{is_enabled, is_master, is_open}
use Rattle.strm_types.specs.Needs.{needs}
use Rattle.strm_types.specs.PutMsg.{is_no_prio, is_too_long, put_refusal}
use Rattle.strm_types.specs.Reads.{finds_none, read_refusal, starts_refused}
use Rattle.strm_types.specs.Refused.{or_else, turn_blocks, unless}
use Rattle.strm_types.specs.Slots.{result_refusal}
use Rattle.strm_laws.proofs.NoOwn.{none as no_own}
use Rattle.strm_laws.specs.Pair.{PairState, call_refused, queue_refused, refused_of, restarted}
use Rattle.strm_laws.specs.Refusals.{at_end, blocks_asked, enough, has_room, hold, in_range, is_numbered, is_reached, refused_at_once, refused_by_state, unfit, unmet}
use Rattle.strm_laws.specs.State.{State, stream}
use Rattle.strm_laws.proofs.Replay.{met, unless-none}
use Rattle.strm_handle.specs.Few.{FewBytes}
use Rattle.strm_handle.specs.Kept.{TakesAny, is_full}

-- other refusals
pub unless-other : (b : Bool) (r : Refusal) → is_full (Some r) ≡ false → is_full (unless b r) ≡ false
unless-other true r is = refl
unless-other false r is = is

either-other : (b : Bool) (x y : Option Refusal) → is_full x ≡ false → is_full y ≡ false → is_full (cond b x y) ≡ false
either-other true x y first second = first
either-other false x y first second = second

pub or-other : (x y : Option Refusal) → is_full x ≡ false → is_full y ≡ false → is_full (or_else x y) ≡ false
or-other None y first second = second
or-other (Some r) y first second = first

-- the second one is asked for where there is no first
pub or-behind : (x y : Option Refusal) → is_full x ≡ false → (x ≡ None → is_full y ≡ false) → is_full (or_else x y) ≡ false
or-behind None y first second = second refl
or-behind (Some r) y first second = first

verdict-other : (v : Verdict) (next : Option Refusal) → ((r : Refusal) → v ≡ Refused r → r ≡ Eio) → is_full next ≡ false → is_full (refusal_behind v next) ≡ false
verdict-other (Refused r) next eio is = ap (λ x. is_full (Some x)) (eio r refl)
verdict-other (Stopped signal) next eio is = refl
verdict-other Allowed next eio is = is

either-eio : (b : Bool) (v w : Verdict) → ((r : Refusal) → v ≡ Refused r → r ≡ Eio) → ((r : Refusal) → w ≡ Refused r → r ≡ Eio) → (r : Refusal) → cond b v w ≡ Refused r → r ≡ Eio
either-eio true v w first second = first
either-eio false v w first second = second

refused-eio : (r : Refusal) → Refused Eio ≡ Refused r → r ≡ Eio
refused-eio r is = cc

background-eio : (access : Access) (tostop : Bool) (caller : Caller) (r : Refusal) → from_background access tostop caller ≡ Refused r → r ≡ Eio
background-eio Reads tostop caller = either-eio (caller.ignores || caller.orphaned) _ _ refused-eio (λ r is. absurd (cc))
background-eio Writes tostop caller = either-eio (not tostop || caller.ignores) _ _ (λ r is. absurd (cc)) (either-eio caller.orphaned _ _ refused-eio (λ r is. absurd (cc)))

held-eio : (access : Option Access) (tostop : Bool) (group : ℕ) (caller : Caller) (r : Refusal) → held access tostop group caller ≡ Refused r → r ≡ Eio
held-eio None tostop group caller r is = absurd (cc)
held-eio (Some access) tostop group caller r is = either-eio (is_background caller group) _ _ (background-eio access tostop caller) (λ r is. absurd (cc)) r is

get-other : (wanted : Wanted) (end : Bool) (q : List (Message ℕ)) → is_full (get_refusal wanted end q) ≡ false
get-other wanted end [] = either-other end _ _ refl refl
get-other wanted end (m ∷ q) = either-other (is_wanted wanted m) _ _ refl refl

result-other : {A : Type 0} (n : ℕ) (slot : Slot A) → is_full (result_refusal n slot) ≡ false
result-other n Free = refl
result-other n (Waiting number command) = either-other (number == n) _ _ refl refl
result-other n (Answered number command acked error body) = either-other (number == n) _ _ refl refl

read-other : (mode : ControlMode) (end : Bool) (n : ℕ) (q : List (Message ℕ)) → is_full (read_refusal mode end n q) ≡ false
read-other mode end n q =
    either-other (n == 0) _ _ refl (either-other (finds_none mode q) _ _ (either-other end _ _ refl refl) (either-other (starts_refused mode q) _ _ refl refl))

unfit-other : (s : State ℕ) (caller : Caller) (asked : Request) → is_full (unfit no_own s caller asked) ≡ false
unfit-other s caller OpenMaster = unless-other _ Einval refl
unfit-other s caller OpenSlave =
    or-other (unless (not (is_open (stream Slave s).opened)) Einval) (unless (not s.locked) Eagain) (unless-other (not (is_open (stream Slave s).opened)) Einval refl)
    (unless-other (not s.locked) Eagain refl)
unfit-other s caller (Write bytes) = unless-other _ Eagain refl
unfit-other s caller (Read n) = let h = (stream caller.side s).head in read-other h.control_mode (at_end caller.side s) n h.queue.messages
unfit-other s caller (Put prio control body) = unless-other _ Eagain refl
unfit-other s caller (Get wanted cmax dmax) = get-other wanted (at_end caller.side s) (stream caller.side s).head.queue.messages
unfit-other s caller (Ioctl command body) = unless-other _ Eagain refl
unfit-other s caller (IoctlResult number) = result-other number (stream caller.side s).head.ioctl
unfit-other s caller (Push name) = unless-other _ Einval refl
unfit-other s caller Pop = unless-other _ Einval refl
unfit-other s caller Look = unless-other _ Einval refl
unfit-other s caller Unlock = refl
unfit-other s caller Shut = refl
unfit-other s caller (Flush what band) = refl
unfit-other s caller (Mode mode) = refl
unfit-other s caller Nread = refl
unfit-other s caller Signals = refl

state-other : (s : State ℕ) (caller : Caller) (asked : Request) → is_full (refused_by_state no_own s caller asked) ≡ false
state-other s caller asked =
    let h = (stream caller.side s).head in
    verdict-other (hold s caller asked) (unfit no_own s caller asked) (held-eio (needs asked).access h.tostop (foreground h.hung_up h.group) caller) (unfit-other s caller asked)

put-other : (prio : Prio) (control body : Option (List ℕ)) → is_full (put_refusal prio control body) ≡ false
put-other prio control body = either-other (is_no_prio prio control) _ _ refl (either-other (is_too_long control body) _ _ refl refl)

wrong-other : (asked : Request) → is_full (needs asked).wrong ≡ false
wrong-other OpenMaster = refl
wrong-other OpenSlave = refl
wrong-other (Write bytes) = refl
wrong-other (Read n) = refl
wrong-other (Put prio control body) = put-other prio control body
wrong-other (Get wanted cmax dmax) = refl
wrong-other (Ioctl command body) = unless-other _ Erange refl
wrong-other (IoctlResult number) = refl
wrong-other (Push name) = unless-other _ Einval refl
wrong-other Pop = refl
wrong-other Look = refl
wrong-other Unlock = refl
wrong-other Shut = refl
wrong-other (Flush what band) = refl
wrong-other (Mode mode) = refl
wrong-other Nread = refl
wrong-other Signals = refl

unmet-other : (s : State ℕ) (side : Side) (n : Needs) → is_full n.wrong ≡ false → is_full (unmet s side n) ≡ false
unmet-other s side n wrong =
    or-other _ _ (unless-other (is_reached side n.reach s) Enxio refl)
    (or-other _ _ (unless-other (not n.masters || is_master side) Einval refl)
    (or-other n.wrong _ wrong
    (or-other _ _ (unless-other (not n.numbered || is_numbered s) Erange refl)
    (unless-other (not n.makes || in_range s) Erange refl))))

-- a put with which nothing is wrong brings few bytes
short : (a b : Bool) → cond a (Some Einval) (cond b (Some Erange) None) ≡ None → b ≡ false
short true b none = absurd (cc)
short false true none = absurd (cc)
short false false none = refl

either-false : (a b : Bool) → (a || b) ≡ false → (a ≡ false) × (b ≡ false)
either-false true b is = absurd (cc)
either-false false b is = (refl, is)

few-parts : (control body : Option (List ℕ)) → is_too_long control body ≡ false → length (part control ++ part body) + 0 ≤ 8192
few-parts control body is =
    let both = either-false (nat_lt CONTROL_MAX (length (part control))) (nat_lt DATA_MAX (length (part body))) is in
    let first : length (part control) ≤ CONTROL_MAX = let e = both.0 in grind (arith, nat_tests) in
    let second : length (part body) ≤ DATA_MAX = let e = both.1 in grind (arith, nat_tests) in
    omega (arith, first, second, length-append (part control) (part body))

short-put : (prio : Prio) (control body : Option (List ℕ)) → put_refusal prio control body ≡ None → is_too_long control body ≡ false
short-put prio control body none = short (is_no_prio prio control) (is_too_long control body) none

-- what a call brings and its longest answer, where nothing is wrong with it
few : (asked : Request) → FewBytes asked → (needs asked).wrong ≡ None → (needs asked).brings + (needs asked).gives ≤ 8192
few OpenMaster brings right = omega arith
few OpenSlave brings right = omega arith
few (Write bytes) brings right = omega arith
few (Read n) brings right = omega arith
few (Put prio control body) brings right = let long = short-put prio control body right in few-parts control body long
few (Get wanted cmax dmax) brings right = omega arith
few (Ioctl command body) brings right = let short : nat_le (length body) IOCTL_MAX ≡ true = unless-none _ Erange right in grind (arith, nat_tests, short)
few (IoctlResult number) brings right = omega arith
few (Push name) brings right = omega arith
few Pop brings right = omega arith
few Look brings right = omega arith
few Unlock brings right = omega arith
few Shut brings right = omega arith
few (Flush what band) brings right = omega arith
few (Mode mode) brings right = omega arith
few Nread brings right = omega arith
few Signals brings right = omega arith

both-are : (a b : Bool) → a ≡ true → b ≡ true → (a && b) ≡ true
both-are a b first second = subst (λ x. (x && b) ≡ true) (sym first) second

room-for : (limits : Config) (n : ℕ) → TakesAny limits → n ≤ 8192 → has_room [] limits n ≡ true
room-for limits n takes le =
    let entries : 0 < limits.journal_events = takes.entries in
    let bytes : 8192 ≤ limits.journal_bytes = takes.bytes in
    let first : nat_lt 0 limits.journal_events ≡ true = grind (arith, nat_tests) in
    let second : nat_le (0 + n) limits.journal_bytes ≡ true = grind (arith, nat_tests) in
    both-are (nat_lt 0 limits.journal_events) (nat_le (0 + n) limits.journal_bytes) first second

-- a call at a pair whose journal is empty
pub call-other : (p : PairState) (caller : Caller) (asked : Request) → TakesAny p.limits → FewBytes asked → is_full (call_refused no_own (restarted p) caller asked) ≡ false
call-other p caller asked takes brings =
    let n = needs asked in
    or-behind (refused_at_once p.state caller asked) _ (unmet-other p.state caller.side n (wrong-other asked)) (λ none.
    let room : has_room [] p.limits (n.brings + n.gives) ≡ true = room-for p.limits _ takes (few asked brings (met p.state caller.side n none).right) in
    let free = enough (blocks_asked asked) p.free in
    or-other (unless (has_room [] p.limits (n.brings + n.gives)) JournalFull) (or_else (unless free Enosr) (refused_by_state no_own p.state caller asked)) (ap (λ b. is_full (unless b JournalFull)) room)
    (or-other (unless free Enosr) (refused_by_state no_own p.state caller asked) (unless-other free Enosr refl) (state-other p.state caller asked)))

-- and a turn
pub turn-other : (p : PairState) (name : QueueName) → TakesAny p.limits → is_full (queue_refused (restarted p) name) ≡ false
turn-other p name takes =
    let room = unless (has_room [] p.limits 0) JournalFull in
    let free = unless (enough (turn_blocks name.place) p.free) Enosr in
    let range = unless (in_range p.state) Erange in
    or-other (unless (is_enabled name p.state.enabled) Einval) (or_else range (or_else room free)) (unless-other (is_enabled name p.state.enabled) Einval refl)
    (or-other range (or_else room free) (unless-other (in_range p.state) Erange refl)
    (or-other room free (ap (λ b. is_full (unless b JournalFull)) (room-for p.limits 0 takes (omega arith)))
    (unless-other (enough (turn_blocks name.place) p.free) Enosr refl)))

pub next-other : (p : PairState) (first : Option QueueName) → TakesAny p.limits → is_full (refused_of (restarted p) first) ≡ false
next-other p None takes = refl
next-other p (Some name) takes = turn-other p name takes
