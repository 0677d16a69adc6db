-- Whether a byte stands in the parts of messages, and what one who is told of their blocks has seen of it.
use Rattle.std.specs.Prelude.{ℕ, Bool, ◌==◌, ◌&&◌, ◌||◌, if◌then◌else◌, List}
use Rattle.std.specs.List.{list_any}
use Rattle.strm_types.specs.Flush.{is_data_kind}
use Rattle.strm_types.specs.Message.{Message, cells_of}
use Rattle.strm_blocks.specs.Outcomes.{SeenBlock}
use Rattle.strm_own.specs.declared.looking.Seeker.{Seeker}

-- whether a byte is among others
abbrev pub is_among : ℕ → List ℕ → Bool
is_among byte bytes = list_any (λ b. b == byte) bytes

abbrev pub has_byte : ℕ → List (Message ℕ) → Bool
has_byte byte ms = list_any (λ m. is_among byte (cells_of m)) ms

-- what was seen behind one more block: the first one of a message tells whether it has parts
abbrev pub sought : Seeker → SeenBlock → Seeker
sought v b =
    let parts = if b.first then is_data_kind b.kind else v.parts in
    record v { parts = parts; found = v.found || (parts && is_among v.byte b.bytes) }
