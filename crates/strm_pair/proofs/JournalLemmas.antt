-- What room in the plain journal says of the kept one.
use Rattle.strm_pair.proofs.Prelude.{ℕ, ◌≡◌, ◌≤◌, ◌<◌, ◌+◌, Bool, true, false, List, length, refl, sym, ap, ◌∙◌, arith, sum_by, ◌&&◌, nat_lt, nat_le}
use Rattle.strm_pair.proofs.Prelude.{nat_tests, length-entries_in, room_used-stored}
use Rattle.strm_pair.specs.Prelude.{Entry, Config, has_room, PlainEntry, entry_len, entries_in, room_used}
use Rattle.strm_journal.specs.Replies.{HasShortParts}
use Rattle.strm_pair.specs.Prelude.{Answer, Msg, READ_MAX}
use Rattle.strm_pair.specs.Parts.{longest_part}
use Rattle.strm_pair.specs.Journals.{has_room_for}

-- what calls give can be packed
pub short-parts : (answer : Answer ℕ) → longest_part answer ≤ READ_MAX → HasShortParts answer
short-parts (Msg prio control body more_control more_data) few = (omega (arith, few), omega (arith, few))
short-parts _ few = tt

both : (a b : Bool) → (a && b) ≡ true → (a ≡ true) × (b ≡ true)
both true true h = (refl, refl)
both true false h = absurd (cc)
both false b h = absurd (cc)

pub room-means : (entries : List (Entry ℕ)) (bytes : List ℕ) (most_entries most_bytes n : ℕ) → sum_by entry_len entries ≡ length bytes → has_room_for (entries_in entries bytes) most_entries most_bytes n ≡ true → (length entries < most_entries) × (length bytes + n ≤ most_bytes)
room-means entries bytes most_entries most_bytes n lengths room =
    let parts = both _ _ room in
    let few : nat_lt (length entries) most_entries ≡ true = ap (λ k. nat_lt k most_entries) (sym (length-entries_in entries bytes)) ∙ parts.0 in
    let fits : nat_le (length bytes + n) most_bytes ≡ true = ap (λ k. nat_le (k + n) most_bytes) (sym (room_used-stored entries bytes lengths)) ∙ parts.1 in
    (grind (arith, nat_tests), grind (arith, nat_tests))

-- room for more bytes is room for fewer
pub room-less : (entries : List PlainEntry) (limits : Config) (most_entries most_bytes more n : ℕ) → most_entries ≡ limits.journal_events → most_bytes ≡ limits.journal_bytes → n ≤ more → has_room entries limits more ≡ true → has_room_for entries most_entries most_bytes n ≡ true
room-less entries limits most_entries most_bytes more n events bytes less room =
    let parts : (nat_lt (length entries) limits.journal_events ≡ true) × (nat_le (room_used entries + more) limits.journal_bytes ≡ true) = both (nat_lt (length entries) limits.journal_events) (nat_le (room_used entries + more) limits.journal_bytes) room in
    let fits : nat_le (room_used entries + n) limits.journal_bytes ≡ true = let more_fits : nat_le (room_used entries + more) limits.journal_bytes ≡ true = parts.1 in grind (arith, nat_tests) in
    rw (events, bytes, parts.0, fits) refl
