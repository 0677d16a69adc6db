-- What a seat at a lock has, and what a call under the lock does.
use Rattle.std.specs.Prelude.{◌≡◌, ◌≢◌, ℕ, suc, ◌+◌, ◌-◌, ◌<◌, ◌≤◌, ◌⊎◌, List, [], ◌∷◌, ◌++◌, length, Some, Result, MatchResult}
use Rattle.atomic_table.specs.declared.shared.Seat.{Seat}
use Rattle.strm_types.specs.declared.answers.Answer.{Answer}
use Rattle.strm_types.specs.declared.entries.Entry.TheVariants.{Called}
use Rattle.strm_types.specs.declared.events.Caller.{Caller}
use Rattle.strm_types.specs.declared.events.Event.TheVariants.{OpenMaster}
use Rattle.strm_types.specs.declared.names.Side.TheVariants.{Master}
use Rattle.strm_types.specs.declared.refusals.Refusal.{Refusal}
use Rattle.strm_types.specs.declared.refusals.Refusal.TheVariants.{Einval}
use Rattle.strm_types.specs.Events.{Request}
use Rattle.strm_types.specs.JobControl.{caller_of}
use Rattle.strm_types.specs.Journal.{PlainEntry, answer_len, reply_in}
use Rattle.strm_laws.proofs.NoOwn.{none as no_own}
use Rattle.strm_laws.specs.Pair.{PairState, AddsEntry, call_refused}
use Rattle.strm_locks.specs.declared.end.TheConstants.{ALL_PARTS}
use Rattle.strm_locks.specs.declared.told.Told.{Told}
use Rattle.strm_locks.specs.declared.view.View.{View}
use Rattle.strm_locks.specs.Books.{pick, minus, nothing, IsBelow, IsCounted, IsNew, Fits, Book, Kept, LockId, Adds, book_with, history_of, tally_of}
use Rattle.strm_locks.specs.Rules.{Mine, share, holding, Knows}
use Rattle.strm_locks.specs.Sounds.{IsSound}

-- an end's seat, where the end was told this and has so many parts: it holds no lock
pub record IsSeated (seat : Mine) (told : Told) (parts : ℕ) : Type 0 where
  pub shown : seat ≡ (share seat.0.sizes told seat.0.made parts seat.0.met, [])
  pub some_part : 0 < parts

-- a seat that was told nothing, and holds no lock
abbrev pub IsPosted : Mine → Type 0
IsPosted seat = seat ≡ (share seat.0.sizes nothing [] 0 seat.0.met, [])

-- a seat without the lock
abbrev pub IsFree : Seat Kept View → Type 0
IsFree s = (s.me.1 ≡ []) × (s.me.0.holds ≡ 0)

-- one seat, of the same table
abbrev pub IsSame : Seat Kept View → Seat Kept View → Type 0
IsSame s t = (t.table_id ≡ s.table_id) × (t.id ≡ s.id)

-- the lock that a seat is at
abbrev pub lock_of : Seat Kept View → LockId
lock_of s = record { table = s.table_id; sizes = s.me.0.sizes }

-- the seat has the pair
abbrev pub HasPair : Seat Kept View → Type 0
HasPair s = (k : Kept) × (s.me.1 ≡ (0, k) ∷ [])

-- the seat has a pair of which an end has a part
abbrev pub HasOpened : Seat Kept View → Type 0
HasOpened s = (k : Kept) × (s.me.1 ≡ (0, k) ∷ []) × (k.book.left ≢ ALL_PARTS)

-- what was done to the pair that a seat has: it has another one then, made so of the first
abbrev pub Became : (Kept → Kept → Type 0) → List (ℕ × Kept) → List (ℕ × Kept) → Type 0
Became done before behind = (k : Kept) → before ≡ (0, k) ∷ [] → (k' : Kept) × (behind ≡ (0, k') ∷ []) × done k k'

-- the seat whose view was v has the lock, and found this pair, of its lock's sizes, with its book
pub record HasLock (v : View) (k : Kept) (s : Seat Kept View) : Type 0 where
  pub seen : s.me ≡ (holding v k, (0, k) ∷ [])
  pub knows : Knows v k.book
  pub sized : k.pair.limits ≡ v.sizes

-- what the lock's holder may give back: a book that has grown from the one that it found, and whose numbers fit
pub record MayGive (v : View) (c : Book) : Type 0 where
  pub below : IsBelow v.found.totals c.totals
  pub fits : Fits c.totals
  pub history : (more : List PlainEntry) × (c.history ≡ v.found.history ++ more)
  pub left : c.left ≤ v.found.left
  pub some_part : (0 < v.parts + v.found.left - c.left) ⊎ ((c.totals ≡ v.found.totals) × (c.history ≡ v.found.history))

-- an answer, whose bytes lie in the caller's buffer, or why there is none
abbrev pub Outcome : Type 0
Outcome = Result (Answer ℕ) Refusal

-- the entry of a call that gave these bytes and this answer
abbrev pub entry_of : Caller → Request → List ℕ → Answer ℕ → PlainEntry
entry_of caller asked bytes answer = Called caller asked (reply_in answer bytes)

-- what a call on the pair p tells: itself, unless the number of the pair's calls stands still, and the bytes that it wrote and read
pub record Tells (p : PairState) (e : PlainEntry) (more : Told) : Type 0 where
  pub calls : ((length (history_of p) < 18446744073709551615) × (more.calls ≡ 1)) ⊎ ((18446744073709551615 ≤ length (history_of p)) × (more.calls ≡ 0))
  pub bytes : (i : ℕ) → pick (suc i) more ≡ pick (suc i) (tally_of e)

-- The pair p makes just this call and becomes q: its journal gains the entry, and the caller's buffer has just the bytes that it gives.
pub record Makes (p : PairState) (caller : Caller) (asked : Request) (bytes : List ℕ) (x : Answer ℕ) (q : PairState) : Type 0 where
  pub adds : AddsEntry no_own p q (entry_of caller asked bytes x)
  pub filled : answer_len x ≡ length bytes

-- What a call does to the pair p, which becomes q, and to the bytes in the caller's buffer: it is made; or the pair has a reason, and both stay
abbrev pub Does : PairState → Caller → Request → List ℕ → List ℕ → Outcome → PairState → Type 0
Does p caller asked before bytes r q = MatchResult r
    (λ x. Makes p caller asked bytes x q)
    (λ z. (q ≡ p) × (bytes ≡ before) × (call_refused no_own p caller asked ≡ Some z))

-- A call by a pair's book: where it is answered the book gains its entry; else the pair has a reason, and the pair, the book and the bytes in the caller's buffer stay
abbrev pub Did : Kept → Caller → Request → List ℕ → List ℕ → Outcome → Kept → Type 0
Did a caller asked before bytes r b = MatchResult r
    (λ x. Adds a.book (entry_of caller asked bytes x) b.book × Makes a.pair caller asked bytes x b.pair)
    (λ z. (b ≡ a) × (bytes ≡ before) × (call_refused no_own a.pair caller asked ≡ Some z))

-- the book has grown by these numbers, which fit
pub record Grew (b : Book) (more : Told) (c : Book) : Type 0 where
  pub below : IsBelow b.totals c.totals
  pub fits : Fits c.totals
  pub growth : more ≡ minus c.totals b.totals

-- a call on a pair of which all holds that holds of every pair, and what it told
pub record Applied (a : Kept) (caller : Caller) (asked : Request) (before bytes : List ℕ) (r : Outcome × Told) (b : Kept) : Type 0 where
  pub sound : IsSound a.pair
  pub counted : IsCounted a.book.totals.calls (history_of a.pair)
  pub answer : Did a caller asked before bytes r.0 b
  pub grew : Grew a.book r.1 b.book

-- the master, as it is opened
abbrev pub opener : Caller
opener = caller_of Master

-- Why a pair isn't opened: it was opened before, and is an end's, or was dropped with one; else nobody opened it, and it refuses the call for this
abbrev pub IsShut : PairState → Refusal → Type 0
IsShut p z = ((0 < length (history_of p)) × (z ≡ Einval)) ⊎ (IsNew p × (call_refused no_own p opener OpenMaster ≡ Some z))

-- The call that opens the master of a pair that nobody opened takes all parts out of the book.
abbrev pub Opens : Kept → List ℕ → Outcome → Kept → Type 0
Opens a bytes r b = MatchResult r
    (λ x. (a.book.left ≡ ALL_PARTS) × IsNew a.pair × Adds a.book (entry_of opener OpenMaster bytes x) (book_with b.book.totals b.book.history a.book.left) × (b.book.left ≡ 0)
    × Makes a.pair opener OpenMaster bytes x b.pair)
    (λ z. (b ≡ a) × IsShut a.pair z)

pub record Opened (a : Kept) (bytes : List ℕ) (r : Outcome × Told) (b : Kept) : Type 0 where
  pub sound : IsSound a.pair
  pub answer : Opens a bytes r.0 b
  pub grew : Grew a.book r.1 b.book
