-- A read gives no more bytes than it asks for.
use Rattle.std.proofs.Common.{ℕ, ◌≡◌, ◌≤◌, List, length, take, arith, length-take, ap, sym}
use Rattle.std.specs.Prelude.{min, Result, Ok, Err, IfOk, is_ok}
use Rattle.std.specs.Bool.{OnTrue}
use Rattle.std.proofs.lemmas.List.{length-map}
use Rattle.strm_types.specs.declared.answers.Answer.{Answer}
use Rattle.strm_types.specs.declared.answers.Answer.TheVariants.{Done, Name, Count, Bytes, Msg, Sizes, Pending, Nak, Signals, Stop}
use Rattle.strm_types.specs.declared.entries.Entry.TheVariants.{Called}
use Rattle.strm_types.specs.declared.events.Caller.{Caller}
use Rattle.strm_types.specs.declared.events.Event.TheVariants.{Read}
use Rattle.strm_types.specs.declared.limits.TheConstants.{READ_MAX}
use Rattle.strm_types.specs.declared.refusals.Refusal.{Refusal}
use Rattle.strm_types.specs.declared.signals.StopSignal.{StopSignal}
use Rattle.strm_types.specs.Cells.{plain, bytes_of}
use Rattle.strm_types.specs.Journal.{answer_len, reply_in}
use Rattle.strm_laws.proofs.NoOwn.{none as no_own}
use Rattle.strm_laws.specs.Pair.{PairState, AddsEntry}
use Rattle.strm_types.specs.Events.{Reply}
use Rattle.strm_types.specs.Heads.{Head}
use Rattle.strm_types.specs.Reads.{Drawn, head_draw}
use Rattle.strm_laws.specs.State.{stream}
use Rattle.strm_laws.proofs.Stopping.{of-called}
use Rattle.strm_types.proofs.ReadKeeps.{head_draw-most}

-- the bytes of a read are those that its answer counts
counted : (answer : Answer ℕ) (out given : List ℕ) → answer_len answer ≡ length out → Bytes given ≡ reply_in answer out → length out ≡ length given
counted Done out given len is = absurd (cc)
counted (Name name) out given len is = absurd (cc)
counted (Count n) out given len is = absurd (cc)
counted (Bytes n) out given len is =
    let same : given ≡ take n out = cc in
    omega (arith, len, ap length same, length-take n out)
counted (Msg prio control body more_control more_data) out given len is = absurd (cc)
counted (Sizes first messages) out given len is = absurd (cc)
counted (Pending number) out given len is = absurd (cc)
counted (Nak refusal) out given len is = absurd (cc)
counted (Stop signal) out given len is = absurd (cc)
counted (Signals n) out given len is = absurd (cc)

-- whose caller was stopped gives none
stopped : (answer : Answer ℕ) (out : List ℕ) (signal : StopSignal) → answer_len answer ≡ length out → ◌≡◌ {A = Reply} (Stop signal) (reply_in answer out) → length out ≡ 0
stopped Done out signal len is = absurd (cc)
stopped (Name name) out signal len is = absurd (cc)
stopped (Count n) out signal len is = absurd (cc)
stopped (Bytes n) out signal len is = absurd (cc)
stopped (Msg prio control body more_control more_data) out signal len is = absurd (cc)
stopped (Sizes first messages) out signal len is = absurd (cc)
stopped (Pending number) out signal len is = absurd (cc)
stopped (Nak refusal) out signal len is = absurd (cc)
stopped (Stop other) out signal len is = sym len
stopped (Signals n) out signal len is = absurd (cc)

pub read-most : (old new : PairState) (caller : Caller) (n : ℕ) (out : List ℕ) (r : Result (Answer ℕ) Refusal)
    → IfOk r (λ answer. AddsEntry no_own old new (Called caller (Read n) (reply_in answer out)))
    → IfOk r (λ answer. answer_len answer ≡ length out) → OnTrue (is_ok r) (length out ≤ n)
read-most old new caller n out (Ok answer) adds filled =
    of-called no_own plain caller (Read n) old.state (λ outcome. outcome.answer ≡ reply_in answer out → length out ≤ n)
    (λ signal is. omega (arith, stopped answer out signal filled is))
    (λ is. omega (
      arith,
      counted answer out (bytes_of plain drawn.given) filled is,
      length-map drawn.given plain.byte,
      head_draw-most h.read_mode h.control_mode (min n READ_MAX) h.queue.messages,
    ))
    adds.step.answered
  where
    h : Head ℕ
    h = (stream caller.side old.state).head

    drawn : Drawn ℕ
    drawn = head_draw h.read_mode h.control_mode (min n READ_MAX) h.queue.messages
read-most old new caller n out (Err refusal) adds filled = tt
