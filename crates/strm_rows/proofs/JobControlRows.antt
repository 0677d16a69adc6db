-- Job control at a slave whose foreground group is 5 (POSIX, General Terminal Interface, "Terminal Access Control"): who is in the background,
-- and what becomes of reads, gets, writes and puts from there.
use Rattle.strm_rows.proofs.Prelude.{ℕ, ◌≡◌, Bool, true, false, List, [], ◌∷◌, map, replicate, refl, None, Some, Done, Bytes, Nak, Caller, Shut, Look}
use Rattle.strm_rows.proofs.Prelude.{Write, Put, Get, Nread, Pop, TIOCGPGRP, TIOCSPGRP, Any, Open, Master, Slave, Einval, Eagain, Eio, Enosr, no_own}
use Rattle.strm_rows.proofs.Prelude.{JournalFull, plain, Request, Head, new_head, caller_of, called, refused, refused_by_state, State, new_stream}
use Rattle.strm_rows.proofs.Prelude.{opening, with_stream, Config}
use Rattle.strm_types.specs.declared.answers.Answer.TheVariants.{Stop}
use Rattle.strm_types.specs.declared.events.Event.TheVariants.{Flush, Read, Ioctl}
use Rattle.strm_types.specs.declared.events.FlushQueues.TheVariants as flushes
use Rattle.strm_types.specs.declared.job_control.Verdict.{Verdict}
use Rattle.strm_types.specs.declared.job_control.Verdict.TheVariants.{Refused, Stopped, Allowed}
use Rattle.strm_types.specs.declared.modes.Prio.TheVariants as prios
use Rattle.strm_types.specs.declared.signals.StopSignal.TheVariants.{Ttin, Ttou}
use Rattle.strm_types.specs.JobControl.{judged}
use Rattle.strm_laws.specs.Calls.{tells}
use Rattle.strm_laws.specs.Refusals.{hold, stop_of}
use Rattle.strm_laws.specs.State.{stream}

-- a caller on the slave in this group
abbrev in_group : ℕ → Caller
in_group group = record (caller_of Slave) { group = group }

abbrev ignoring : ℕ → Caller
ignoring group = record (in_group group) { ignores = true }

abbrev orphaned : ℕ → Caller
orphaned group = record (in_group group) { orphaned = true }

abbrev both : ℕ → Caller
both group = record (ignoring group) { orphaned = true }

-- a pair whose slave's head has a foreground group and TOSTOP or not, and is hung up or not
abbrev head : ℕ → Bool → Bool → Head ℕ
head group tostop hung_up = record new_head { group = group; tostop = tostop; hung_up = hung_up }

abbrev terminal : ℕ → Bool → Bool → State ℕ
terminal group tostop hung_up = with_stream Slave (record new_stream { opened = Open; head = head group tostop hung_up }) opening

abbrev reads : List Request
reads = Read 10 ∷ Read 0 ∷ Get Any 9 9 ∷ []

abbrev writes : List Request
writes = Write (120 ∷ []) ∷ Write [] ∷ Put (prios.Band (record { 0 = 0 })) None (Some (120 ∷ [])) ∷ Put prios.High (Some []) None ∷ []

abbrev verdicts : State ℕ → List Request → Caller → List Verdict
verdicts s asked caller = map (λ one. hold s caller one) asked

-- reads: SIGTTIN stops the background, and EIO refuses who ignores it or is orphaned, whether TOSTOP is set or not
pub reads-from-the-background : map (λ tostop. map (verdicts (terminal 5 tostop false) reads) (in_group 7 ∷ ignoring 7 ∷ orphaned 7 ∷ both 7 ∷ [])) (false ∷ true ∷ [])
    ≡ replicate 2 (replicate 3 (Stopped Ttin) ∷ replicate 3 (Refused Eio) ∷ replicate 3 (Refused Eio) ∷ replicate 3 (Refused Eio) ∷ [])
reads-from-the-background = refl

-- writes: under TOSTOP SIGTTOU stops the background; who ignores it goes on, orphaned or not, and who is orphaned is refused
pub writes-from-the-background : map (verdicts (terminal 5 true false) writes) (in_group 7 ∷ ignoring 7 ∷ orphaned 7 ∷ both 7 ∷ [])
    ≡ replicate 4 (Stopped Ttou) ∷ replicate 4 Allowed ∷ replicate 4 (Refused Eio) ∷ replicate 4 Allowed ∷ []
writes-from-the-background = refl

pub writes-without-tostop : map (verdicts (terminal 5 false false) writes) (in_group 7 ∷ ignoring 7 ∷ orphaned 7 ∷ both 7 ∷ []) ≡ replicate 4 (replicate 4 Allowed)
writes-without-tostop = refl

-- the foreground, a caller or a terminal without a group, and a terminal that is hung up hold nobody
pub foreground-is-free : map (λ caller. verdicts (terminal 5 true false) reads caller) (in_group 5 ∷ orphaned 5 ∷ in_group 0 ∷ both 0 ∷ []) ≡ replicate 4 (replicate 3 Allowed)
foreground-is-free = refl

pub no-foreground-is-free : map (λ s. verdicts s writes (in_group 7)) (terminal 0 true false ∷ terminal 5 true true ∷ []) ≡ replicate 2 (replicate 4 Allowed)
no-foreground-is-free = refl

-- each side's own: a group of the slave's head holds nobody on the master
pub masters-side-is-free : verdicts (terminal 5 true false) reads (record (in_group 7) { side = Master }) ≡ replicate 3 Allowed
masters-side-is-free = refl

-- other calls aren't held
pub other-calls-are-free : verdicts (terminal 5 true false) (Flush flushes.Both None ∷ Look ∷ Pop ∷ Nread ∷ Ioctl 1 [] ∷ Ioctl TIOCSPGRP (0 ∷ 0 ∷ 0 ∷ 7 ∷ []) ∷ Shut ∷ []) (in_group 7) ≡ replicate 7 Allowed
other-calls-are-free = refl

-- a caller that is stopped or refused isn't told what waits; one that goes on is
pub what-waits-is-not-told : map (λ caller. judged (refused_by_state no_own (terminal 5 true false) caller (Read 10)) (stop_of (terminal 5 true false) caller (Read 10))) (in_group 7 ∷ ignoring 7 ∷ in_group 5 ∷ [])
    ≡ Stopped Ttin ∷ Refused Eio ∷ Refused Eagain ∷ []
what-waits-is-not-told = refl

abbrev sizes : ℕ → ℕ → ℕ → Config
sizes blocks events bytes = record { mblks = blocks; dblks = blocks; journal_events = events; journal_bytes = bytes }

-- a full journal and want of blocks are told before
pub room-is-asked-before : refused no_own (terminal 5 true false) [] (sizes 0 1 9) true (in_group 7) (Read 10) ∷ refused no_own (terminal 5 true false) [] (sizes 9 9 99) false (in_group 7) (Write (120 ∷ [])) ∷ refused no_own (terminal 5 true false) [] (sizes 9 9 99) true (in_group 7) (Write (120 ∷ [])) ∷ []
    ≡ Some JournalFull ∷ Some Enosr ∷ None ∷ []
room-is-asked-before = refl

-- a caller that is stopped: nothing changes, comes or goes
pub stopped-calls-change-nothing : map (λ asked. called no_own plain (in_group 7) asked (terminal 5 true false)) (Read 10 ∷ Write (120 ∷ []) ∷ [])
    ≡ tells (Stop Ttin) (terminal 5 true false) ∷ tells (Stop Ttou) (terminal 5 true false) ∷ []
stopped-calls-change-nothing = refl

-- The foreground group, asked and set at the slave by its head, in one step and with a number of its own. 0 takes it away; TIOCSPGRP wants four
-- bytes; who asks may be in the background.
abbrev behind : ℕ → State ℕ
behind group = record (terminal group true false) { next_ioctl = 2 }

pub group-is-told-and-set : map (λ asked. called no_own plain (in_group 7) asked (terminal 5 true false)) (Ioctl TIOCGPGRP [] ∷ Ioctl TIOCGPGRP (9 ∷ []) ∷ Ioctl TIOCSPGRP (1 ∷ 2 ∷ 3 ∷ 4 ∷ []) ∷ Ioctl TIOCSPGRP (0 ∷ 0 ∷ 0 ∷ 0 ∷ []) ∷ Ioctl TIOCSPGRP (0 ∷ 0 ∷ 7 ∷ []) ∷ Ioctl TIOCSPGRP [] ∷ [])
    ≡ tells (Bytes (0 ∷ 0 ∷ 0 ∷ 5 ∷ [])) (behind 5) ∷ tells (Bytes (0 ∷ 0 ∷ 0 ∷ 5 ∷ [])) (behind 5) ∷ tells Done (behind 16909060) ∷ tells Done (behind 0) ∷ tells (Nak Einval) (behind 5) ∷ tells (Nak Einval) (behind 5) ∷ []
group-is-told-and-set = refl

-- the group and TOSTOP go with the slave's close
pub close-takes-the-group : map (λ t. t.head.group ∷ []) (stream Slave (called no_own plain (in_group 5) Shut (terminal 5 true false)).state ∷ []) ≡ (0 ∷ []) ∷ []
close-takes-the-group = refl
