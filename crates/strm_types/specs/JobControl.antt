-- Job control: who is in the background of a terminal, what becomes of a call from there, and the commands that read and set the foreground
-- process group (POSIX, General Terminal Interface, "Process Groups" and "Terminal Access Control"; tcgetpgrp, tcsetpgrp; termio(7I):
-- TOSTOP).
use Rattle.std.specs.Prelude.{ℕ, Bool, false, not, ◌&&◌, ◌||◌, ◌==◌, if◌then◌else◌, List, length, Option, None, Some}
use Rattle.strm_types.specs.declared.answers.Answer.TheVariants.{Done, Bytes, Nak}
use Rattle.strm_types.specs.declared.events.Caller.{Caller}
use Rattle.strm_types.specs.declared.ioctls.TheConstants.{TIOCGPGRP, TIOCSPGRP}
use Rattle.strm_types.specs.declared.job_control.Verdict.{Verdict}
use Rattle.strm_types.specs.declared.job_control.Verdict.TheVariants.{Refused, Stopped, Allowed}
use Rattle.strm_types.specs.declared.names.Side.{Side}
use Rattle.strm_types.specs.declared.names.Side.TheVariants.{Master, Slave}
use Rattle.strm_types.specs.declared.needs.Access.{Access}
use Rattle.strm_types.specs.declared.needs.Access.TheVariants.{Reads, Writes}
use Rattle.strm_types.specs.declared.refusals.Refusal.{Refusal}
use Rattle.strm_types.specs.declared.refusals.Refusal.TheVariants.{Einval, Eio}
use Rattle.strm_types.specs.declared.signals.StopSignal.{StopSignal}
use Rattle.strm_types.specs.declared.signals.StopSignal.TheVariants.{Ttin, Ttou}
use Rattle.strm_types.specs.Events.{Reply}
use Rattle.strm_types.specs.Ioctls.{word_at, word_bytes}

-- a caller on a side that is in no process group
abbrev pub caller_of : Side → Caller
caller_of side = record { side = side; group = 0; ignores = false; orphaned = false }

-- the number of a signal that stops, in System V
abbrev pub stop_number : StopSignal → ℕ
stop_number Ttin = 26
stop_number Ttou = 27

-- A caller is in the background of a terminal where its process group isn't the foreground one. Who has no group, and a terminal that has
-- none, know no background.
abbrev pub is_background : Caller → ℕ → Bool
is_background caller foreground = not (caller.group == 0) && (not (foreground == 0) && not (caller.group == foreground))

-- the foreground group that a terminal is known to have: none, where the other end is gone
abbrev pub foreground : Bool → ℕ → ℕ
foreground hung_up group = if hung_up then 0 else group

-- What becomes of an access from the background. A read: EIO where SIGTTIN is ignored or blocked, or the process group is orphaned; else
-- SIGTTIN stops the caller. A write is held where TOSTOP is set: it goes on where SIGTTOU is ignored or blocked; else EIO where the group is
-- orphaned, and else SIGTTOU stops the caller.
abbrev pub from_background : Access → Bool → Caller → Verdict
from_background Reads tostop caller = if caller.ignores || caller.orphaned then Refused Eio else Stopped Ttin
from_background Writes tostop caller =
    if not tostop || caller.ignores then Allowed
    else (if caller.orphaned then Refused Eio else Stopped Ttou)

-- what becomes of an access at a terminal with this TOSTOP and this foreground group
abbrev pub of_access : Access → Bool → ℕ → Caller → Verdict
of_access access tostop foreground caller = if is_background caller foreground then from_background access tostop caller else Allowed

-- and of a call, by what it does at the terminal
abbrev pub held : Option Access → Bool → ℕ → Caller → Verdict
held None tostop foreground caller = Allowed
held (Some access) tostop foreground caller = of_access access tostop foreground caller

-- what a call is refused for: by job control, or else, where it isn't held, for what follows
abbrev pub refusal_behind : Verdict → Option Refusal → Option Refusal
refusal_behind (Refused refusal) next = Some refusal
refusal_behind (Stopped signal) next = None
refusal_behind Allowed next = next

-- the signal by which a verdict stops the caller
abbrev pub stop_in : Verdict → Option StopSignal
stop_in (Refused refusal) = None
stop_in (Stopped signal) = Some signal
stop_in Allowed = None

-- the verdict on a call by its refusal, if there is one, and else by the signal that stops its caller, if one does
abbrev pub judged : Option Refusal → Option StopSignal → Verdict
judged (Some refusal) stop = Refused refusal
judged None (Some signal) = Stopped signal
judged None None = Allowed

-- the commands by which the slave's head is asked for its foreground group, or given one
abbrev pub asks_group : Side → ℕ → Bool
asks_group Master command = false
asks_group Slave command = command == TIOCGPGRP || command == TIOCSPGRP

-- whether such a command sets the group: TIOCSPGRP with four bytes
abbrev pub sets_group : ℕ → List ℕ → Bool
sets_group command body = command == TIOCSPGRP && length body == 4

-- The head's answer: TIOCGPGRP gives the group as four bytes, the most significant one first; TIOCSPGRP is done, and EINVAL with any other
-- number of bytes than four.
abbrev pub group_reply : ℕ → List ℕ → ℕ → Reply
group_reply command body group =
    if command == TIOCGPGRP then Bytes (word_bytes group)
    else (if sets_group command body then Done else Nak Einval)

-- the group behind such a command; 0 takes it away
abbrev pub group_behind : ℕ → List ℕ → ℕ → ℕ
group_behind command body group = if sets_group command body then word_at 0 body else group
