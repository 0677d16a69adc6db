-- How long messages are, by the places of their blocks.
use Rattle.std.specs.Prelude.{ℕ, ◌-◌, List, sum_by}
use Rattle.strm_blocks.specs.Message.{row_at}
use Rattle.strm_blocks.specs.declared.asked.Summary.{Summary}
use Rattle.strm_blocks.specs.declared.message.MessageBlock.{MessageBlock}

-- how many bytes lie between the places of blocks
abbrev pub lens : List MessageBlock → ℕ
lens blocks = sum_by (λ b. b.end - b.start) blocks

-- what a message of these blocks is counted by
abbrev pub summary_in : List MessageBlock → Summary
summary_in blocks = record { kind = (row_at 0 blocks).kind; band = record { 0 = (row_at 0 blocks).band }; bytes = lens blocks }
