-- How long the first message of a list is, or the first one that has M_DATA blocks (streamio(7I): I_NREAD).
use Rattle.std.specs.Prelude.{ℕ, Bool, true, false, not, ◌&&◌, ◌||◌, ◌+◌, ◌-◌, ◌^◌, min, if◌then◌else◌, List, [], ◌∷◌, length, Option, None, Some, is_some, unwrap_or}
use Rattle.strm_types.specs.Kinds.{is_body_kind}
use Rattle.strm_types.specs.declared.kinds.MsgKind.{MsgKind}
use Rattle.strm_blocks.specs.Blocks.{Block}
use Rattle.strm_blocks.specs.Outcomes.{SeenBlock}
use Rattle.strm_msg.specs.Bytes.{length_of_part, data_blocks}
use Rattle.strm_queue.specs.declared.lengths.Measure.{Measure}

-- the blocks of a message that count: its M_DATA blocks, or all
abbrev pub counted_blocks : Bool → List Block → List Block
counted_blocks true chain = data_blocks chain
counted_blocks false chain = chain

-- a length, or else another one where a message without such a block is passed over
abbrev pub or_next : Bool → Option ℕ → Option ℕ → Option ℕ
or_next passes_over None next = if passes_over then next else None
or_next passes_over (Some n) next = Some n

-- how many bytes the blocks that count have, of the first message or of the first that has one
abbrev pub length_on : Bool → Bool → List (List Block) → Option ℕ
length_on data_only passes_over [] = None
length_on data_only passes_over (chain ∷ q) =
    or_next passes_over (length_of_part (counted_blocks data_only chain)) (length_on data_only passes_over q)

-- a length with the bytes of one more block, if it counts
abbrev pub longer : Bool → MsgKind → List ℕ → Option ℕ → Option ℕ
longer data_only kind bytes found =
    if not data_only || is_body_kind kind then Some (min (unwrap_or found 0 + length bytes) (2 ^ 64 - 1)) else found

-- what is measured behind one more block: another message ends it, unless it passes over to that
abbrev pub measured : Measure → SeenBlock → Measure
measured v b =
    if b.first && v.met && (not v.passes_over || is_some v.found)
    then record v { more = false }
    else record v { met = true; found = longer v.data_only b.kind b.bytes v.found }
