-- The journal: entries of calls and turns, and the bytes that an entry takes.
use Rattle.std.specs.Prelude.{ℕ, List, [], ◌∷◌, ◌+◌, length, sum_by, take, drop, Option, option_map, unwrap_or}
use Rattle.strm_types.specs.declared.answers.Answer.{Answer}
use Rattle.strm_types.specs.declared.answers.Answer.TheVariants.{Bytes, Msg}
use Rattle.strm_types.specs.declared.answers.Answer.TheVariants as answers
use Rattle.strm_types.specs.declared.events.Event.{Event}
use Rattle.strm_types.specs.declared.events.Event.TheVariants.{Write, Put, Ioctl}
use Rattle.strm_types.specs.declared.entries.Entry.{Entry}
use Rattle.strm_types.specs.declared.entries.Entry.TheVariants.{Called, Turned}
use Rattle.strm_types.specs.Events.{Request, Reply, payload_of, content_of, map_event, map_answer}
use Rattle.strm_types.specs.Needs.{needs}

-- an entry with its bytes: a caller's call and what it was answered, or a queue's turn
abbrev pub PlainEntry : Type 0
PlainEntry = Entry (List ℕ)

-- the most bytes that a call's answer can have
abbrev pub content_max : Request → ℕ
content_max asked = (needs asked).gives

-- how many bytes of the journal's buffer an entry takes
abbrev pub room_of : PlainEntry → ℕ
room_of (Called caller asked answer) = length (payload_of asked) + length (content_of answer)
room_of (Turned name turn) = 0

-- how many bytes of the journal's buffer entries take
abbrev pub room_used : List PlainEntry → ℕ
room_used entries = sum_by room_of entries

-- how many bytes a stored part has, none where it is absent
abbrev pub part_len : Option ℕ → ℕ
part_len o = unwrap_or o 0

-- how many bytes a stored call, answer or entry has
abbrev pub event_len : Event ℕ → ℕ
event_len (Write len) = len
event_len (Put prio control body) = part_len control + part_len body
event_len (Ioctl command len) = len
event_len _ = 0

abbrev pub answer_len : Answer ℕ → ℕ
answer_len (Bytes len) = len
answer_len (Msg prio control body more_control more_data) = part_len control + part_len body
answer_len (answers.Signals len) = len
answer_len _ = 0

abbrev pub entry_len : Entry ℕ → ℕ
entry_len (Called caller event answer) = event_len event + answer_len answer
entry_len (Turned name turn) = 0

-- a stored part, with its bytes at the front of the buffer
abbrev pub part_in : Option ℕ → List ℕ → Option (List ℕ)
part_in o bytes = option_map (λ len. take len bytes) o

-- a stored call and a stored answer, each with its bytes at the front of the buffer, those of a control part first
abbrev pub request_in : Event ℕ → List ℕ → Request
request_in (Put prio control body) bytes = Put prio (part_in control bytes) (part_in body (drop (part_len control) bytes))
request_in event bytes = map_event (λ len. take len bytes) event

abbrev pub reply_in : Answer ℕ → List ℕ → Reply
reply_in (Msg prio control body more_control more_data) bytes =
    Msg prio (part_in control bytes) (part_in body (drop (part_len control) bytes)) more_control more_data
reply_in answer bytes = map_answer (λ len. take len bytes) answer

-- a stored entry, with its bytes at the front of the buffer
abbrev pub entry_in : Entry ℕ → List ℕ → PlainEntry
entry_in (Called caller event answer) bytes =
    Called caller (request_in event bytes) (reply_in answer (drop (event_len event) bytes))
entry_in (Turned name turn) bytes = Turned name turn

-- the stored entries, with their bytes in their order
abbrev pub entries_in : List (Entry ℕ) → List ℕ → List PlainEntry
entries_in [] bytes = []
entries_in (entry ∷ entries) bytes = entry_in entry bytes ∷ entries_in entries (drop (entry_len entry) bytes)
