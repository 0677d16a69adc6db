-- No answer has more bytes than its call may have.
use Rattle.strm_laws.proofs.Prelude.{ℕ, ◌≡◌, ◌≤◌, ◌+◌, Bool, true, false, cond, List, length, refl, arith, length-append, ◌==◌, min, Option, None}
use Rattle.strm_laws.proofs.Prelude.{Some, option_map, length-map, head_draw-most, signals-fit}
use Rattle.strm_laws.specs.Prelude.{Caller, Look, Read, Get, IoctlResult, Signals, Done, Bytes, Nak, TIOCGPGRP, Einval, READ_MAX, IOCTL_MAX, Wanted}
use Rattle.strm_laws.specs.Prelude.{ModuleName, Side, Down, Free, Waiting, Request, content_of, Cells, bytes_of, head_get, asking, ioctl_message}
use Rattle.strm_laws.specs.Prelude.{word_bytes, asks_group, group_reply, sets_group, content_max, part, head_draw, PlainSlot, answer_bytes}
use Rattle.strm_laws.specs.Prelude.{gives_nothing, told_of}
use Rattle.strm_types.specs.declared.events.Event.TheVariants.{Ioctl}
use Rattle.strm_types.specs.declared.limits.TheConstants.{CONTENT_MAX}
use Rattle.strm_types.specs.declared.slots.Slot.TheVariants.{Answered}
use Rattle.strm_laws.specs.Behaviours.{Behaviour}
use Rattle.strm_laws.specs.Calls.{Outcome, called, get_at, ioctl_begun, ioctl_sent, name_told, performed, read_at}
use Rattle.strm_laws.specs.Pushes.{top_on}
use Rattle.strm_laws.specs.State.{State, stream}
use Rattle.strm_laws.specs.Within.{AreWithin}
use Rattle.strm_laws.proofs.GetKeeps.{get-control, get-data}
use Rattle.strm_laws.proofs.Stopping.{of-called}
use Rattle.strm_laws.proofs.WithinSteps.{begun-within, delivered-within}

module _ {C : Type 0} (cells : Cells C) where
  part-bytes : (o : Option (List C)) → length (part (option_map (bytes_of cells) o)) ≡ length (part o)
  part-bytes None = refl
  part-bytes (Some xs) = length-map xs cells.byte

  read-fits : (side : Side) (n : ℕ) (s : State C) → length (content_of (read_at cells side n s).answer) ≤ min n READ_MAX
  read-fits side n s =
      let h = (stream side s).head in
      let most = min n READ_MAX in
      omega (arith, length-map (head_draw h.read_mode h.control_mode most h.queue.messages).given cells.byte, head_draw-most h.read_mode h.control_mode most h.queue.messages)

  get-fits : (side : Side) (wanted : Wanted) (cmax dmax : ℕ) (s : State C) → length (content_of (get_at cells side wanted cmax dmax s).answer) ≤ min cmax READ_MAX + min dmax READ_MAX
  get-fits side wanted cmax dmax s =
      let q = (stream side s).head.queue.messages in
      let c = min cmax READ_MAX in
      let d = min dmax READ_MAX in
      let g = head_get wanted c d q in
      omega (
        arith,
        length-append (part (option_map (bytes_of cells) g.control)) (part (option_map (bytes_of cells) g.body)),
        part-bytes g.control,
        part-bytes g.body,
        get-control wanted c d q,
        get-data wanted c d q,
      )

  answer-fits : (slot : PlainSlot) → length (answer_bytes slot) ≤ IOCTL_MAX → length (content_of (told_of slot)) ≤ IOCTL_MAX
  answer-fits Free fits = omega arith
  answer-fits (Waiting number command) fits = omega arith
  answer-fits (Answered number command false error body) fits = omega arith
  answer-fits (Answered number command true error body) fits = at (gives_nothing command)
    where
      at : (none : Bool) → length (content_of (cond none Done (Bytes body))) ≤ IOCTL_MAX
      at true = omega arith
      at false = fits

  name-fits : (name : Option ModuleName) → length (content_of (name_told name)) ≤ 0
  name-fits None = omega arith
  name-fits (Some name) = omega arith

  group-fits : (command : ℕ) (body : List ℕ) (group : ℕ) → length (content_of (group_reply command body group)) ≤ IOCTL_MAX
  group-fits command body group = at (command == TIOCGPGRP) (sets_group command body)
    where
      at : (gives sets : Bool) → length (content_of (cond gives (Bytes (word_bytes group)) (cond sets Done (Nak Einval)))) ≤ IOCTL_MAX
      at true sets = omega arith
      at false true = omega arith
      at false false = omega arith

  performed-fits : (K : Behaviour) (caller : Caller) (asked : Request) (s : State C) → AreWithin s → length (content_of (performed K cells caller asked s).answer) ≤ content_max asked
  performed-fits K caller Look s within = name-fits (top_on caller.side s)
  performed-fits K caller (Read n) s within = read-fits caller.side n s
  performed-fits K caller (Get wanted cmax dmax) s within = get-fits caller.side wanted cmax dmax s
  performed-fits K caller (Ioctl command body) s within =
      let sent = (ioctl_sent K cells caller.side command body s).state in
      either (asks_group caller.side command) _ _ (group-fits command body (stream caller.side s).head.group)
      (answer-fits (stream caller.side sent).head.ioctl
      (delivered-within K cells (record { side = caller.side; at = 1; way = Down }) (ioctl_message (asking command s.next_ioctl) body) (ioctl_begun caller.side command s) (begun-within K caller.side command s within) caller.side).answer)
    where
      either : (group : Bool) (one another : Outcome C) → length (content_of one.answer) ≤ IOCTL_MAX → length (content_of another.answer) ≤ IOCTL_MAX → length (content_of (cond group one another).answer) ≤ IOCTL_MAX
      either true one another first second = first
      either false one another first second = second
  performed-fits K caller (IoctlResult number) s within = answer-fits (stream caller.side s).head.ioctl (within caller.side).answer
  performed-fits K caller Signals s within = omega (arith, signals-fit (stream caller.side s).head.signals (within caller.side).signals)
  performed-fits K caller _ s within = omega arith

  pub content-fits : (K : Behaviour) (caller : Caller) (asked : Request) (s : State C) → AreWithin s → length (content_of (called K cells caller asked s).answer) ≤ content_max asked
  content-fits K caller asked s within = of-called K cells caller asked s (λ outcome. length (content_of outcome.answer) ≤ content_max asked) (λ signal. omega arith) (performed-fits K caller asked s within)

pub content-bounded : (asked : Request) → content_max asked ≤ CONTENT_MAX
content-bounded (Read n) = omega arith
content-bounded (Get wanted cmax dmax) = omega arith
content-bounded _ = omega arith
