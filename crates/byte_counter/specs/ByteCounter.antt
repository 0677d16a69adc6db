-- A module that counts the bytes of the data parts that pass it, up and down together, and hands all on as it is.
use Rattle.std.specs.Prelude.{ℕ, ◌+◌, ◌%◌, ◌^◌, List, length, replicate}
use Rattle.std.specs.Int.{w64, from_be_bytes, to_be_bytes}
use Rattle.strm_types.specs.declared.spots.Spot.{Spot}
use Rattle.strm_types.specs.Cells.{Cells}
use Rattle.strm_types.specs.Deliver.{Acted}
use Rattle.strm_types.specs.Message.{Message, part}
use Rattle.strm_types.specs.Owns.{Own}
use Rattle.strm_laws.specs.Behaviours.{passes_all}

-- the number by which it is pushed
abbrev pub byte_counter_number : ℕ
byte_counter_number = 2

-- The count that it is set to: the number of 64 bits that stands in the first eight bytes, the most significant byte first. Where there are fewer, as
-- an image may have it, those that aren't there count as 0.
abbrev pub count_in : List ℕ → ℕ
count_in settings = from_be_bytes w64 settings

-- the eight bytes of a count that went on by so many, modulo 2^64
abbrev pub counted_on : List ℕ → ℕ → List ℕ
counted_on settings more = to_be_bytes w64 ((count_in settings + more) % 2 ^ 64)

-- nothing is counted
abbrev pub none_counted : List ℕ
none_counted = replicate 8 0

-- how many bytes the data part of a message has: of M_DATA, M_PROTO and M_PCPROTO, and 0 of any other kind
abbrev pub data_length : {C : Type 0} → Message C → ℕ
data_length m = length (part m.body)

-- what a put does: it counts on, and the message goes on
abbrev pub byte_counter_puts : {C : Type 0} → Cells C → Spot → Message C → Own → Acted C Own
byte_counter_puts cells here m x = passes_all here m (record x { settings = counted_on x.settings (data_length m) })
