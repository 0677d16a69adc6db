-- The entry at a place of a stored journal, and its bytes.
use Rattle.std.proofs.Common.{ℕ, zero, suc, ◌≡◌, ◌≤◌, ◌+◌, List, [], ◌∷◌, ◌++◌, length, take, drop, sym, ap, ◌∙◌, arith, length-drop}
use Rattle.std.proofs.lemmas.List.{take-append-drop, length-take-le, drop-drop}
use Rattle.std.proofs.lemmas.List.Sums.{sum_by-cons}
use Rattle.std.specs.Prelude.{Some, slice_get, sum_by}
use Rattle.strm_types.specs.declared.entries.Entry.{Entry}
use Rattle.strm_types.specs.Journal.{entry_in, entry_len, entries_in, room_of, room_used}
use Rattle.strm_laws.proofs.JournalEntries.{entries_in-push, room_used-stored}

first : {A : Type 0} (x y : A) (xs ys : List A) → x ∷ xs ≡ y ∷ ys → x ≡ y
first x y xs ys e = cc

alone : (s : Entry ℕ) → sum_by entry_len (s ∷ []) ≡ entry_len s
alone s = omega (arith, sum_by-cons entry_len s [])

-- bytes behind an entry's own change nothing of it
more : (s : Entry ℕ) (bytes behind : List ℕ) → entry_len s ≡ length bytes → entry_in s (bytes ++ behind) ≡ entry_in s bytes
more s bytes behind len = first _ _ _ _ (entries_in-push (s ∷ []) s bytes behind (alone s ∙ len))

module _ (s : Entry ℕ) (bytes : List ℕ) (le : entry_len s ≤ length bytes) where
  own : List ℕ
  own = take (entry_len s) bytes

  own-length : entry_len s ≡ length own
  unfolding own
  own-length = sym (length-take-le (entry_len s) bytes le)

  -- an entry's own bytes alone, with others behind them, are enough of it
  pub of-own : (behind : List ℕ) → entry_in s (take (entry_len s) bytes ++ behind) ≡ entry_in s bytes
  unfolding own
  of-own behind =
      more s own behind own-length
      ∙ sym (more s own (drop (entry_len s) bytes) own-length)
      ∙ ap (λ bs. entry_in s bs) (take-append-drop (entry_len s) bytes)

  pub room-stored : room_of (entry_in s bytes) ≡ entry_len s
  unfolding own
  room-stored =
      let used = room_used-stored (s ∷ []) own (alone s ∙ own-length) in
      let cons = sum_by-cons room_of (entry_in s own) [] in
      let same : entry_in s own ≡ entry_in s bytes = sym (more s own (drop (entry_len s) bytes) own-length) ∙ ap (λ bs. entry_in s bs) (take-append-drop (entry_len s) bytes) in
      ap room_of (sym same) ∙ omega (arith, used, cons, own-length)

-- where an entry stands: behind the bytes of those in front of it
pub record StoredAt (entries : List (Entry ℕ)) (bytes : List ℕ) (place : ℕ) (s : Entry ℕ) (from : ℕ) : Type 0 where
  pub within : from + entry_len s ≤ length bytes
  pub is : slice_get (entries_in entries bytes) place ≡ Some (entry_in s (drop from bytes))

pub stored-at : (entries : List (Entry ℕ)) (bytes : List ℕ) (place : ℕ) (s : Entry ℕ) → sum_by entry_len entries ≡ length bytes → slice_get entries place ≡ Some s
    → StoredAt entries bytes place s (room_used (take place (entries_in entries bytes)))
stored-at [] bytes place s lengths is = absurd (cc)
stored-at (e ∷ entries) bytes zero s lengths is =
    let same : e ≡ s = (cc) in
    let sums = sum_by-cons entry_len e entries in
    record { within = rw (← same) (omega (arith, sums, lengths)); is = ap (λ x. Some (entry_in x bytes)) same }
stored-at (e ∷ entries) bytes (suc place) s lengths is =
    let sums : entry_len e + sum_by entry_len entries ≡ length bytes = sym (sum_by-cons entry_len e entries) ∙ lengths in
    let le : entry_len e ≤ length bytes = omega (arith, sums) in
    let rest : List ℕ = drop (entry_len e) bytes in
    let from : ℕ = room_used (take place (entries_in entries rest)) in
    let behind = stored-at entries rest place s (omega (arith, sums, length-drop (entry_len e) bytes)) is in
    let before : room_used (entry_in e bytes ∷ take place (entries_in entries rest)) ≡ entry_len e + from = sum_by-cons room_of (entry_in e bytes) (take place (entries_in entries rest)) ∙ ap (λ n. n + from) (room-stored e bytes le) in
    record {
      within = omega (arith, before, behind.within, length-drop (entry_len e) bytes);
      is = behind.is ∙ ap (λ bs. Some (entry_in s bs)) (drop-drop from (entry_len e) bytes ∙ ap (λ n. drop n bytes) (sym before));
    }
