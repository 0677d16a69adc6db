-- Stored entries and their bytes in one buffer.
use Rattle.strm_laws.proofs.Prelude.{ℕ, suc, ◌≡◌, ◌≤◌, ◌+◌, List, [], ◌∷◌, ◌++◌, length, drop, refl, sym, ap, ◌∙◌, arith, length-append, sum_by}
use Rattle.strm_laws.proofs.Prelude.{Option, None, Some, take-append-le, length-drop, sum_by-cons}
use Rattle.strm_laws.specs.Prelude.{Called, Turned, Event, Answer, payload_of, content_of, part, part_len, part_in, event_len, answer_len, request_in}
use Rattle.strm_laws.specs.Prelude.{reply_in, entry_in, room_of, room_used}
use Rattle.std.proofs.lemmas.List.{drop-append-le, length-take-le, nil_from_length}
use Rattle.strm_types.specs.declared.entries.Entry.{Entry}
use Rattle.strm_types.specs.declared.events.Event.TheVariants as shapes
use Rattle.strm_types.specs.declared.answers.Answer.TheVariants as told
use Rattle.strm_types.specs.Journal.{entry_len, entries_in}

-- bytes behind a part's own change nothing of it
part_in-more : (o : Option ℕ) (bytes more : List ℕ) → part_len o ≤ length bytes → part_in o (bytes ++ more) ≡ part_in o bytes
part_in-more None bytes more le = refl
part_in-more (Some len) bytes more le = ap Some (take-append-le len bytes more le)

-- nor of the part behind it
second-more : (control body : Option ℕ) (bytes more : List ℕ) → part_len control + part_len body ≤ length bytes
    → part_in body (drop (part_len control) (bytes ++ more)) ≡ part_in body (drop (part_len control) bytes)
second-more control body bytes more le =
    let first : part_len control ≤ length bytes = omega (arith, le) in
    let second : part_len body ≤ length (drop (part_len control) bytes) = omega (arith, le, length-drop (part_len control) bytes) in
    ap (λ xs. part_in body xs) (drop-append-le (part_len control) bytes more first) ∙ part_in-more body (drop (part_len control) bytes) more second

-- bytes behind a call's own change nothing of it
request_in-more : (shape : Event ℕ) (bytes more : List ℕ) → event_len shape ≤ length bytes → request_in shape (bytes ++ more) ≡ request_in shape bytes
request_in-more (shapes.Write len) bytes more le = ap shapes.Write (take-append-le len bytes more le)
request_in-more (shapes.Put prio control body) bytes more le =
    let first : part_len control ≤ length bytes = omega (arith, le) in
    rw (part_in-more control bytes more first, second-more control body bytes more le) refl
request_in-more (shapes.Ioctl command len) bytes more le = ap (λ body. shapes.Ioctl command body) (take-append-le len bytes more le)
request_in-more _ bytes more le = refl

reply_in-more : (shape : Answer ℕ) (bytes more : List ℕ) → answer_len shape ≤ length bytes → reply_in shape (bytes ++ more) ≡ reply_in shape bytes
reply_in-more (told.Bytes len) bytes more le = ap told.Bytes (take-append-le len bytes more le)
reply_in-more (told.Msg prio control body more_control more_data) bytes more le =
    let first : part_len control ≤ length bytes = omega (arith, le) in
    rw (part_in-more control bytes more first, second-more control body bytes more le) refl
reply_in-more (told.Signals len) bytes more le = ap told.Signals (take-append-le len bytes more le)
reply_in-more _ bytes more le = refl

-- bytes behind an entry's own change nothing of it
entry_in-more : (entry : Entry ℕ) (bytes more : List ℕ) → entry_len entry ≤ length bytes → entry_in entry (bytes ++ more) ≡ entry_in entry bytes
entry_in-more (Called caller event answer) bytes more le =
    let first : event_len event ≤ length bytes = omega (arith, le) in
    let second : answer_len answer ≤ length (drop (event_len event) bytes) = omega (arith, le, length-drop (event_len event) bytes) in
    rw (request_in-more event bytes more first, drop-append-le (event_len event) bytes more first, reply_in-more answer (drop (event_len event) bytes) more second) refl
entry_in-more (Turned name turn) bytes more le = refl

-- one more entry, with its bytes at the end of the buffer
pub entries_in-push : (entries : List (Entry ℕ)) (entry : Entry ℕ) (bytes more : List ℕ) → sum_by entry_len entries ≡ length bytes → entries_in (entries ++ entry ∷ []) (bytes ++ more) ≡ entries_in entries bytes ++ entry_in entry more ∷ []
entries_in-push [] entry bytes more lengths =
    let none : bytes ≡ [] = nil_from_length bytes (sym lengths) in rw none refl
entries_in-push (e ∷ entries) entry bytes more lengths =
    let sums : entry_len e + sum_by entry_len entries ≡ length bytes = sym (sum_by-cons entry_len e entries) ∙ lengths in
    let le : entry_len e ≤ length bytes = omega (arith, sums) in
    let others : sum_by entry_len entries ≡ length (drop (entry_len e) bytes) = omega (arith, sums, length-drop (entry_len e) bytes) in
    rw (entry_in-more e bytes more le, drop-append-le (entry_len e) bytes more le, entries_in-push entries entry (drop (entry_len e) bytes) more others) refl

-- there are as many plain entries
pub length-entries_in : (entries : List (Entry ℕ)) (bytes : List ℕ) → length (entries_in entries bytes) ≡ length entries
length-entries_in [] bytes = refl
length-entries_in (e ∷ entries) bytes = ap (λ n. suc n) (length-entries_in entries (drop (entry_len e) bytes))

part-length : (o : Option ℕ) (bytes : List ℕ) → part_len o ≤ length bytes → length (part (part_in o bytes)) ≡ part_len o
part-length None bytes le = refl
part-length (Some len) bytes le = length-take-le len bytes le

parts-length : (control body : Option ℕ) (bytes : List ℕ) → part_len control + part_len body ≤ length bytes
    → length (part (part_in control bytes) ++ part (part_in body (drop (part_len control) bytes))) ≡ part_len control + part_len body
parts-length control body bytes le =
    let first : part_len control ≤ length bytes = omega (arith, le) in
    let second : part_len body ≤ length (drop (part_len control) bytes) = omega (arith, le, length-drop (part_len control) bytes) in
    omega (
      arith,
      length-append (part (part_in control bytes)) (part (part_in body (drop (part_len control) bytes))),
      part-length control bytes first,
      part-length body (drop (part_len control) bytes) second,
    )

payload-len : (shape : Event ℕ) (bytes : List ℕ) → event_len shape ≤ length bytes → length (payload_of (request_in shape bytes)) ≡ event_len shape
payload-len (shapes.Write len) bytes le = length-take-le len bytes le
payload-len (shapes.Put prio control body) bytes le = parts-length control body bytes le
payload-len (shapes.Ioctl command len) bytes le = length-take-le len bytes le
payload-len _ bytes le = refl

content-len : (shape : Answer ℕ) (bytes : List ℕ) → answer_len shape ≤ length bytes → length (content_of (reply_in shape bytes)) ≡ answer_len shape
content-len (told.Bytes len) bytes le = length-take-le len bytes le
content-len (told.Msg prio control body more_control more_data) bytes le = parts-length control body bytes le
content-len (told.Signals len) bytes le = length-take-le len bytes le
content-len _ bytes le = refl

entry_room : (entry : Entry ℕ) (bytes : List ℕ) → entry_len entry ≤ length bytes → room_of (entry_in entry bytes) ≡ entry_len entry
entry_room (Called caller event answer) bytes le =
    let first : event_len event ≤ length bytes = omega (arith, le) in
    let second : answer_len answer ≤ length (drop (event_len event) bytes) = omega (arith, le, length-drop (event_len event) bytes) in
    omega (arith, payload-len event bytes first, content-len answer (drop (event_len event) bytes) second)
entry_room (Turned name turn) bytes le = refl

-- and they take the bytes of the buffer
pub room_used-stored : (entries : List (Entry ℕ)) (bytes : List ℕ) → sum_by entry_len entries ≡ length bytes → room_used (entries_in entries bytes) ≡ length bytes
room_used-stored [] bytes lengths = lengths
room_used-stored (e ∷ entries) bytes lengths =
    let sums : entry_len e + sum_by entry_len entries ≡ length bytes = sym (sum_by-cons entry_len e entries) ∙ lengths in
    let le : entry_len e ≤ length bytes = omega (arith, sums) in
    let others : sum_by entry_len entries ≡ length (drop (entry_len e) bytes) = omega (arith, sums, length-drop (entry_len e) bytes) in
    omega (arith, sum_by-cons room_of (entry_in e bytes) (entries_in entries (drop (entry_len e) bytes)), entry_room e bytes le, room_used-stored entries (drop (entry_len e) bytes) others, length-drop (entry_len e) bytes)
