-- Taking an entry of a stored journal.
use Rattle.std.proofs.Common.{ℕ, zero, suc, ◌≡◌, ◌<◌, ◌≤◌, ◌+◌, List, [], ◌∷◌, ◌++◌, length, take, drop, refl, sym, ap, subst, ◌∙◌, arith, length-append}
use Rattle.std.proofs.lemmas.Bool.{le-leb, lt-leb, ltb-true}
use Rattle.std.proofs.lemmas.List.{drop_at, length-take-le}
use Rattle.std.proofs.lemmas.Option.{slice_get_read}
use Rattle.std.specs.Prelude.{Bool, true, false, Option, Some, None, nat_le, nat_lt, get_or, slice_get, sum_by}
use Rattle.strm_types.specs.declared.entries.Entry.{Entry}
use Rattle.strm_types.specs.Journal.{PlainEntry, entry_in, entry_len, entries_in, room_of, room_used}
use Rattle.strm_handle.specs.Entries.{AreWhole, Enters, StandsAt, Taking, Takes, TakesAt, TakesStored, taken_where}
use Rattle.strm_handle.proofs.StoredEntries.{StoredAt, of-own, room-stored, stored-at}

none-at : (entries : List (Entry ℕ)) (bytes : List ℕ) (place : ℕ) → slice_get entries place ≡ None → slice_get (entries_in entries bytes) place ≡ None
none-at [] bytes place is = refl
none-at (e ∷ entries) bytes zero is = absurd (cc)
none-at (e ∷ entries) bytes (suc place) is = none-at entries (drop (entry_len e) bytes) place is

some-at : (entries : List (Entry ℕ)) (bytes : List ℕ) (place : ℕ) (s : Entry ℕ) → slice_get entries place ≡ Some s
    → (e : PlainEntry) × (slice_get (entries_in entries bytes) place ≡ Some e)
some-at [] bytes place s is = absurd (cc)
some-at (e ∷ entries) bytes zero s is = (entry_in e bytes, refl)
some-at (e ∷ entries) bytes (suc place) s is = some-at entries (drop (entry_len e) bytes) place s is

same-entry : (e f : PlainEntry) → Some e ≡ Some f → f ≡ e
same-entry e f is = cc

module _ (entries : List (Entry ℕ)) (bytes : List ℕ) (old new : Taking) (n : ℕ) where
  abbrev Given : Type 0
  Given = AreWhole entries bytes × StandsAt old.at (entries_in entries bytes)

  -- behind the last entry
  pub takes-none : slice_get entries old.at.entry ≡ None → n ≡ 2 → new ≡ old → TakesStored entries bytes old new n
  takes-none is told same =
      subst (λ (o : Option PlainEntry). Takes o Given old new n) (sym (none-at entries bytes old.at.entry is)) (told, same)

  -- an entry whose bytes stand at the cursor
  pub takes-some : (s : Entry ℕ) → slice_get entries old.at.entry ≡ Some s
      → (old.at.byte + entry_len s ≤ length bytes → taken_where (nat_le (room_of (entry_in s (drop old.at.byte bytes))) (length old.out)) (entry_in s (drop old.at.byte bytes)) old new n)
      → TakesStored entries bytes old new n
  takes-some s is so =
      let found = some-at entries bytes old.at.entry s is in
      let from : ℕ = room_used (take old.at.entry (entries_in entries bytes)) in
      subst (λ (o : Option PlainEntry). Takes o Given old new n) (sym found.1)
      (λ given. let there : StoredAt entries bytes old.at.entry s from = stored-at entries bytes old.at.entry s given.0 is in
      let stands : old.at.byte ≡ from = given.1 in
      subst (λ (e : PlainEntry). taken_where (nat_le (room_of e) (length old.out)) e old new n) (same-entry found.0 (entry_in s (drop from bytes)) (sym found.1 ∙ there.is))
      (subst (λ k. taken_where (nat_le (room_of (entry_in s (drop k bytes))) (length old.out)) (entry_in s (drop k bytes)) old new n) stands (so (omega (arith, there.within, stands)))))

-- An entry of a whole journal is taken as of a plain one.
pub takes-whole : (o : Option PlainEntry) (whole stands : Type 0) (old new : Taking) (n : ℕ) → whole → Takes o (whole × stands) old new n → Takes o stands old new n
takes-whole None whole stands old new n is told = told
takes-whole (Some e) whole stands old new n is told = λ given. told (is, given)

pub takes-journal : (entries : List (Entry ℕ)) (bytes : List ℕ) (journal : List PlainEntry) (old new : Taking) (n : ℕ)
    → entries_in entries bytes ≡ journal → sum_by entry_len entries ≡ length bytes → TakesStored entries bytes old new n → TakesAt journal old new n
takes-journal entries bytes journal old new n is whole told =
    subst (λ (es : List PlainEntry). TakesAt es old new n) is
    (takes-whole (slice_get (entries_in entries bytes) old.at.entry) (AreWhole entries bytes) (StandsAt old.at (entries_in entries bytes)) old new n whole told)

-- what a slice lends
pub is-there : (entries : List (Entry ℕ)) (place : ℕ) (s : Entry ℕ) → true ≡ nat_lt place (length entries) → s ≡ get_or entries place s → slice_get entries place ≡ Some s
is-there entries place s within is = slice_get_read entries (length entries) place s refl (ltb-true place (length entries) (sym within)) is

module _ (s : Entry ℕ) (bytes : List ℕ) (le : entry_len s ≤ length bytes) (old new : Taking) (n : ℕ) (reads : Enters new.told s)
    (sum : new.told.brings + new.told.reply.bytes ≡ entry_len s) where
  -- its bytes don't fit
  pub asks-room : length old.out < entry_len s → new.out ≡ old.out → new.at ≡ old.at → n ≡ 1 → taken_where (nat_le (room_of (entry_in s bytes)) (length old.out)) (entry_in s bytes) old new n
  asks-room small out at told =
      let room : room_of (entry_in s bytes) ≡ entry_len s = room-stored s bytes le in
      let no : nat_le (room_of (entry_in s bytes)) (length old.out) ≡ false = lt-leb (room_of (entry_in s bytes)) (length old.out) (omega (arith, room, small)) in
      subst (λ (b : Bool). taken_where b (entry_in s bytes) old new n) (sym no)
      (told, record { missing = bytes; told = reads bytes le; bytes = sum ∙ sym room; out = out; at = at })

  -- they stand at the front of the buffer
  pub takes-entry : entry_len s ≤ length old.out → new.out ≡ take (entry_len s) bytes ++ drop (entry_len s) old.out → new.at.entry ≡ old.at.entry + 1 → new.at.byte ≡ old.at.byte + entry_len s → n ≡ 0
      → taken_where (nat_le (room_of (entry_in s bytes)) (length old.out)) (entry_in s bytes) old new n
  takes-entry fits out entry byte told =
      let room : room_of (entry_in s bytes) ≡ entry_len s = room-stored s bytes le in
      let yes : nat_le (room_of (entry_in s bytes)) (length old.out) ≡ true = le-leb (room_of (entry_in s bytes)) (length old.out) (omega (arith, room, fits)) in
      let own = length-take-le (entry_len s) bytes le in
      let long : entry_len s ≤ length new.out = omega (arith, own, ap length out, length-append (take (entry_len s) bytes) (drop (entry_len s) old.out)) in
      let same : entry_in s new.out ≡ entry_in s bytes = ap (λ bs. entry_in s bs) out ∙ of-own s bytes le (drop (entry_len s) old.out) in
      let others : drop (entry_len s) new.out ≡ drop (entry_len s) old.out = ap (λ bs. drop (entry_len s) bs) out ∙ drop_at (take (entry_len s) bytes) (drop (entry_len s) old.out) (entry_len s) own in
      subst (λ (b : Bool). taken_where b (entry_in s bytes) old new n) (sym yes) (
        told,
        record {
          told = reads new.out long ∙ ap (λ e. Some e) same;
          bytes = sum ∙ sym room;
          others = rw room others;
          entry = entry;
          byte = rw room byte;
        },
      )
