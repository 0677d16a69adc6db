-- What a head keeps for its caller stays bounded: signals wait once each, and answers are cut.
use Rattle.strm_laws.proofs.Prelude.{ℕ, ◌≤◌, Bool, true, false, cond, List, length, arith, [], ◌==◌, Option, None, Some, length-take}
use Rattle.strm_laws.specs.Prelude.{FlushAsked, Ioc, MsgKind, Flush, Sig, Pcsig, Iocack, Iocnak, IOCTL_MAX, Free, Waiting, Spot, Acted, asked_by}
use Rattle.strm_laws.specs.Prelude.{flush_up, head_flushed, head_put, is_doubled, obeyed, passed_by, turned_round, waits_for_readers, Head, read_ioc}
use Rattle.strm_laws.specs.Prelude.{Message, has_parts, PlainSlot, answer_bytes, slot_behind, slot_dropped, has_ioctl, number_of, Einval}
use Rattle.std.specs.Prelude.{drop}
use Rattle.strm_types.specs.declared.slots.Slot.TheVariants.{Answered}
use Rattle.strm_types.specs.Slots.{answer_body, slot_told, with_answer}
use Rattle.strm_laws.specs.Within.{IsWithin}
use Rattle.strm_types.proofs.SignalRoom.{named-within}

-- answers
abbrev pub Fits : PlainSlot → Type 0
Fits slot = length (answer_bytes slot) ≤ IOCTL_MAX

body-fits : (bytes : List ℕ) → length (answer_body bytes) ≤ IOCTL_MAX
body-fits bytes = omega (arith, length-take IOCTL_MAX (drop 16 bytes))

told-fits : (is_ack : Bool) (known : Option Ioc) (bytes : List ℕ) (slot : PlainSlot) → Fits slot → Fits (slot_told is_ack known bytes slot)
told-fits is_ack None bytes slot fits = fits
told-fits is_ack (Some ioc) bytes (Waiting number command) fits = at (ioc.number == number)
  where
    at : (b : Bool) → Fits (cond b (with_answer is_ack number command ioc bytes) (Waiting number command))
    at true = body-fits bytes
    at false = omega arith
told-fits is_ack (Some ioc) bytes Free fits = fits
told-fits is_ack (Some ioc) bytes (Answered number command acked error body) fits = fits

pub behind-fits : (slot : PlainSlot) → Fits (slot_behind slot)
behind-fits Free = omega arith
behind-fits (Waiting number command) = omega arith
behind-fits (Answered number command acked error body) = omega arith

-- once messages have gone
pub dropped-fits : {C : Type 0} (ms : List (Message C)) (slot : PlainSlot) → Fits slot → Fits (slot_dropped ms slot)
dropped-fits ms Free fits = fits
dropped-fits ms (Waiting number command) fits = at (has_ioctl number ms)
  where
    at : (goes : Bool) → Fits (cond goes (Answered number command false (number_of Einval) []) (Waiting number command))
    at true = omega arith
    at false = omega arith
dropped-fits ms (Answered number command acked error body) fits = fits

module _ {C : Type 0} where
  -- at a head
  either-within : (b : Bool) (one another : Acted C (Head C)) → IsWithin one.state → IsWithin another.state → IsWithin (cond b one another).state
  either-within true one another first second = first
  either-within false one another first second = second

  flush-within : (here : Spot) (asked : FlushAsked) (h : Head C) → IsWithin h → IsWithin (flush_up here asked h).state
  flush-within here asked h within = at asked.for_read
    where
      at : (own : Bool) → IsWithin (record (cond own (head_flushed here asked h) (passed_by h)) { sent = turned_round here asked }).state
      at true = record { signals = within.signals; answer = within.answer }
      at false = within

  obeyed-within : (here : Spot) (kind : MsgKind) (bytes : List ℕ) (h : Head C) → IsWithin h → IsWithin (obeyed here kind bytes h).state
  obeyed-within here Flush bytes h within = flush-within here (asked_by bytes) h within
  obeyed-within here Sig bytes h within = record { signals = named-within bytes h.signals within.signals; answer = within.answer }
  obeyed-within here Pcsig bytes h within = record { signals = named-within bytes h.signals within.signals; answer = within.answer }
  obeyed-within here Iocack bytes h within = record { signals = within.signals; answer = told-fits true (read_ioc bytes) bytes h.ioctl within.answer }
  obeyed-within here Iocnak bytes h within = record { signals = within.signals; answer = told-fits false (read_ioc bytes) bytes h.ioctl within.answer }
  obeyed-within here kind bytes h within = record { signals = within.signals; answer = within.answer }

  waits-within : (here : Spot) (m : Message C) (h : Head C) → IsWithin h → IsWithin (waits_for_readers here m h).state
  waits-within here m h within = either-within (is_doubled m h.queue.messages) _ _ within (record { signals = within.signals; answer = within.answer })

  pub put-within : (here : Spot) (m : Message C) (h : Head C) → IsWithin h → IsWithin (head_put here m h).state
  put-within here m h within = either-within (has_parts m) (waits_for_readers here m h) (obeyed here m.kind m.plain h) (waits-within here m h within) (obeyed-within here m.kind m.plain h within)
