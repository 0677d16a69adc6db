-- The answer of a kind and two numbers.
use Rattle.std.specs.Prelude.{ℕ, ◌/◌, ◌%◌, ◌<◌}
use Rattle.strm_types.specs.declared.answers.Answer.{Answer}
use Rattle.strm_types.specs.declared.answers.Answer.TheVariants.{Done, Name, Count, Bytes, Msg, Sizes, Pending, Nak, Signals, Stop}
use Rattle.strm_types.specs.declared.signals.StopSignal.TheVariants.{Ttin, Ttou}
use Rattle.strm_types.specs.Journal.{part_len}
use Rattle.strm_types.specs.Numbers.{refusal_numbered}
use Rattle.strm_journal.specs.declared.kinds.Told.{Told}
use Rattle.strm_journal.specs.declared.kinds.Told.TheVariants as told
use Rattle.strm_journal.specs.Numbers.{is_odd, module_at, part_at, prio_at}

-- Two numbers below 65,536 stand in each number of a message: its control part with its priority, and its data part with whether there is more.
abbrev pub answer_at : Told → (first second : ℕ) → Answer ℕ
answer_at told.Done first second = Done
answer_at told.Name first second = Name (module_at first)
answer_at told.Count first second = Count first
answer_at told.Bytes first second = Bytes first
answer_at told.Msg first second =
    Msg (prio_at (first / 65536)) (part_at (first % 65536)) (part_at (second % 65536)) (is_odd (second / 65536)) (is_odd ((second / 65536) / 2))
answer_at told.Sizes first second = Sizes first second
answer_at told.Pending first second = Pending first
answer_at told.Nak first second = Nak (refusal_numbered first)
answer_at told.Signals first second = Signals first
answer_at told.Ttin first second = Stop Ttin
answer_at told.Ttou first second = Stop Ttou

-- the parts of a message are short enough
abbrev pub HasShortParts : Answer ℕ → Type 0
HasShortParts (Msg prio control body more_control more_data) = (part_len control < 65535) × (part_len body < 65535)
HasShortParts _ = Unit {0}
