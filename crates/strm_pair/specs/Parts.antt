-- How long the parts of an answer are, and what holds a message of a priority back.
use Rattle.std.specs.Prelude.{ℕ, Bool, false, max}
use Rattle.strm_pair.specs.Prelude.{Answer, Bytes, Msg, Prio, High, Band, part_len}
use Rattle.strm_types.specs.declared.answers.Answer.TheVariants.{Signals}

-- how many bytes the longest part of an answer has: what a read gives is one part, what a getmsg gives two
abbrev pub longest_part : Answer ℕ → ℕ
longest_part (Bytes len) = len
longest_part (Signals len) = len
longest_part (Msg prio control body more_control more_data) = max (part_len control) (part_len body)
longest_part _ = 0

-- whether a message of this priority has to wait, as the bands are full or not: one of high priority waits for nothing
abbrev pub is_held_back : Prio → (ℕ → Bool) → Bool
is_held_back High full = false
is_held_back (Band band) full = full band.0
