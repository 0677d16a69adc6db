-- Which call a C program asks for, and which answer it is told.
use Rattle.std.specs.Prelude.{ℕ, ◌≡◌, ◌≤◌, ◌+◌, ◌==◌, if◌then◌else◌, List, length, take, drop, Option, None, Some, option_map, option_and_then}
use Rattle.strm_types.specs.declared.answers.Answer.{Answer}
use Rattle.strm_types.specs.declared.answers.Answer.TheVariants as answers
use Rattle.strm_types.specs.declared.events.Caller.{Caller}
use Rattle.strm_types.specs.declared.events.Event.{Event}
use Rattle.strm_types.specs.declared.events.Event.TheVariants.{OpenMaster, Unlock, OpenSlave, Shut, Push, Pop, Look, Flush, Write, Read, Put, Get, Mode, Nread, Ioctl, IoctlResult, Signals}
use Rattle.strm_types.specs.Events.{Request}
use Rattle.strm_types.specs.Events as events
use Rattle.strm_types.specs.Journal.{part_len, part_in, event_len, answer_len, request_in, reply_in}
use Rattle.strm_types.specs.Numbers.{refusal_numbered}
use Rattle.strm_handle.specs.declared.asks.Ask.{Ask}
use Rattle.strm_handle.specs.declared.replies.Reply.{Reply}
use Rattle.strm_handle.specs.Numbers.{side_at, module_at, flush_at, band_at, prio_at, wanted_at, mode_at, stop_at, parts_at}

-- who makes a call
abbrev pub caller_at : Ask → Option Caller
caller_at ask = option_map (λ side. record { side = side; group = ask.group; ignores = ask.ignores; orphaned = ask.orphaned }) (side_at ask.side)

-- the call of an asked number, with the bytes that it brings, those of a control part first
abbrev pub event_at : Ask → List ℕ → Option Request
event_at ask bytes =
    if ask.op == 0 then Some OpenMaster
    else (if ask.op == 1 then Some Unlock
    else (if ask.op == 2 then Some OpenSlave
    else (if ask.op == 3 then Some Shut
    else (if ask.op == 4 then Some (Push (module_at ask.a))
    else (if ask.op == 5 then Some Pop
    else (if ask.op == 6 then Some Look
    else (if ask.op == 7 then option_and_then (λ what. option_map (λ band. Flush what band) (band_at ask.b)) (flush_at ask.a)
    else (if ask.op == 8 then Some (Write bytes)
    else (if ask.op == 9 then Some (Read ask.a)
    else (if ask.op == 10 then option_and_then (λ prio. option_map (λ parts. Put prio parts.control parts.body) (parts_at ask.b ask.c bytes)) (prio_at ask.a)
    else (if ask.op == 11 then option_map (λ wanted. Get wanted ask.b ask.c) (wanted_at ask.a)
    else (if ask.op == 12 then option_map (λ mode. Mode mode) (mode_at ask.a)
    else (if ask.op == 13 then Some Nread
    else (if ask.op == 14 then Some (Ioctl ask.a bytes)
    else (if ask.op == 15 then Some (IoctlResult ask.a)
    else (if ask.op == 16 then Some Signals else None))))))))))))))))

-- the bytes that a call brings: of a write the first 1024 at most
abbrev pub brought : Ask → List ℕ → List ℕ
brought ask bytes = if ask.op == 8 then take 1024 bytes else bytes

-- the answer of a reply, whose bytes are those of a control part and then those of a data part
abbrev pub answer_at : Reply → List ℕ → Option events.Reply
answer_at reply bytes =
    if reply.kind == 0 then Some answers.Done
    else (if reply.kind == 1 then option_map (λ name. answers.Name name) (module_at reply.value)
    else (if reply.kind == 2 then Some (answers.Count reply.value)
    else (if reply.kind == 3 then Some (answers.Bytes bytes)
    else (if reply.kind == 4 then option_and_then (λ prio. option_map (λ parts. answers.Msg prio parts.control parts.body reply.more_control reply.more_data) (parts_at reply.parts reply.size bytes)) (prio_at reply.prio)
    else (if reply.kind == 5 then Some (answers.Sizes reply.size reply.value)
    else (if reply.kind == 6 then Some (answers.Pending reply.value)
    else (if reply.kind == 7 then Some (answers.Nak (refusal_numbered reply.value))
    else (if reply.kind == 8 then Some (answers.Signals bytes)
    else (if reply.kind == 9 then option_map (λ signal. answers.Stop signal) (stop_at reply.value) else None)))))))))

-- the answer that a reply and a buffer hold
abbrev pub answer_in : Reply → List ℕ → Option events.Reply
answer_in reply out = answer_at reply (take reply.bytes out)

-- two stored parts and their numbers: over the bytes of both, the numbers give the parts
abbrev pub HaveParts : ℕ → ℕ → Option ℕ → Option ℕ → Type 0
HaveParts there size control body =
    (bytes : List ℕ) → part_len control + part_len body ≤ length bytes
    → parts_at there size (take (part_len control + part_len body) bytes)
    ≡ Some (record { control = part_in control bytes; body = part_in body (drop (part_len control) bytes) })

-- numbers that ask for a stored call, over its bytes
abbrev pub AsksFor : Ask → Event ℕ → Type 0
AsksFor ask event = (bytes : List ℕ) → event_len event ≤ length bytes → event_at ask (take (event_len event) bytes) ≡ Some (request_in event bytes)

-- numbers that tell a stored answer, over its bytes
abbrev pub Replies : Reply → Answer ℕ → Type 0
Replies reply answer = (bytes : List ℕ) → answer_len answer ≤ length bytes → answer_at reply (take (answer_len answer) bytes) ≡ Some (reply_in answer bytes)
