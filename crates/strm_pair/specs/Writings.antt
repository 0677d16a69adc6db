-- How the text of messages is written block by block.
use Rattle.std.specs.Prelude.{ℕ, true, false, ◌&&◌, ◌+◌, min, if◌then◌else◌, List, [], ◌∷◌, length}
use Rattle.std.specs.Int.{to_be_bytes, w32}
use Rattle.std.specs.List.{flat_map}
use Rattle.strm_pair.specs.Prelude.{MsgKind, kind_number, is_body_kind, is_control_kind, Message, SeenBlock, Second, message, patch, place_in, put}
use Rattle.strm_pair.specs.declared.images.texts.Writing.{Writing}

-- the text of a part that is absent
abbrev pub absent : List ℕ
absent = 0 ∷ 0 ∷ 0 ∷ 0 ∷ 0 ∷ []

-- the text of messages, one behind the other
abbrev pub texts_of : List (Message ℕ) → List ℕ
texts_of ms = flat_map (message Second).text ms

-- a part begins, with no byte: it is there, and its length stands at a place
unfoldable pub part_begun : Writing → Writing
part_begun w = record w { out = put (0 ∷ 0 ∷ 0 ∷ 0 ∷ []) (put (1 ∷ []) w.out); at = place_in (put (1 ∷ []) w.out); length = 0 }

-- a message ends: a data part that is owed is absent
abbrev pub ended : Writing → Writing
ended w = if w.in_control then record w { out = put absent w.out; in_control = false } else w

-- a message begins with its kind and its band, and its first part
abbrev pub headed : MsgKind → ℕ → Writing → Writing
headed kind band w =
    if is_control_kind kind
    then record w { out = put (kind_number kind ∷ band ∷ []) w.out; in_control = true }
    else record w { out = put absent (put (kind_number kind ∷ band ∷ []) w.out) }

abbrev pub begun : MsgKind → ℕ → Writing → Writing
begun kind band w = part_begun (headed kind band (ended w))

-- bytes join the part at the end, and its length grows, as far as 32 bits count
abbrev pub longer : ℕ → List ℕ → ℕ
longer n bytes = min (n + length bytes) 4294967295

unfoldable pub extended : List ℕ → Writing → Writing
extended bytes w = record w { out = put bytes (patch w.at (to_be_bytes w32 (longer w.length bytes)) w.out); length = longer w.length bytes }

-- the first block of the data part behind a control part begins it
abbrev pub continued : MsgKind → Writing → Writing
continued kind w = if w.in_control && is_body_kind kind then part_begun (record w { in_control = false }) else w

-- what is written of one more block
abbrev pub written : Writing → SeenBlock → Writing
written w b = extended b.bytes (if b.first then begun b.kind b.band w else continued b.kind w)
