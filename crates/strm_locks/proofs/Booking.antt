-- What an entry adds to the book of its pair, and what closing the book tells.
use Rattle.std.proofs.Common.{◌≡◌, ◌≢◌, ℕ, zero, suc, ◌+◌, ◌<◌, min, List, [], ◌∷◌, ◌++◌, length, sym, refl, ap, ◌∙◌, subst, arith, append_assoc, length-append}
use Rattle.std.specs.Prelude.{false, true, Result, Ok, Err, MatchOption, IsOk, IfOk, Option, None, Some, slice_index_or}
use Rattle.strm_types.specs.declared.answers.Turn.{Turn}
use Rattle.strm_types.specs.declared.entries.Entry.TheVariants.{Called, Turned}
use Rattle.strm_types.specs.declared.events.Caller.{Caller}
use Rattle.strm_types.specs.declared.names.Dir.TheVariants.{MasterToSlave, SlaveToMaster}
use Rattle.strm_types.specs.declared.names.QueueName.{QueueName}
use Rattle.strm_types.specs.declared.refusals.Refusal.{Refusal}
use Rattle.strm_types.specs.Events.{Request, Reply}
use Rattle.strm_types.specs.Journal.{PlainEntry, answer_len}
use Rattle.strm_types.specs.Names.{is_enabled}
use Rattle.strm_laws.proofs.NoOwn.{none as no_own}
use Rattle.strm_laws.specs.Pair.{PairState, AddsEntry, call_refused}
use Rattle.strm_laws.proofs.Replay.{refused-by}
use Rattle.strm_locks.specs.declared.end.TheConstants.{ALL_PARTS}
use Rattle.strm_locks.specs.declared.held.Settled.{Settled}
use Rattle.strm_locks.specs.declared.told.Told.{Told}
use Rattle.strm_locks.specs.declared.view.View.{View}
use Rattle.strm_locks.specs.Tallies.{Tallies, calls_in}
use Rattle.strm_locks.specs.Books.{pick, each, weigh, IsBelow, IsCounted, IsKept, IsNew, Kept, book_of, book_with, history_of, told_of, tally_of, Adds}
use Rattle.strm_locks.specs.Rules.{Knows}
use Rattle.strm_locks.specs.Settles.{IsAll, IsShown}
use Rattle.strm_locks.specs.Shares.{Did, Outcome, entry_of}
use Rattle.strm_locks.proofs.Sums.{same_told}

-- the calls of a journal that gains a call, and of one that gains a turn
calls-called : (es : List PlainEntry) (caller : Caller) (asked : Request) (answer : Reply) → calls_in (es ++ Called caller asked answer ∷ []) ≡ calls_in es ++ Called caller asked answer ∷ []
calls-called [] caller asked answer = refl
calls-called (Called c a r ∷ es) caller asked answer = ap (λ xs. Called c a r ∷ xs) (calls-called es caller asked answer)
calls-called (Turned n t ∷ es) caller asked answer = calls-called es caller asked answer

calls-turned : (es : List PlainEntry) (name : QueueName) (turn : Turn) → calls_in (es ++ Turned name turn ∷ []) ≡ calls_in es
calls-turned [] name turn = refl
calls-turned (Called c a r ∷ es) name turn = ap (λ xs. Called c a r ∷ xs) (calls-turned es name turn)
calls-turned (Turned n t ∷ es) name turn = calls-turned es name turn

-- all entries of a pair that gains one
entered : (p q : PairState) (e : PlainEntry) → AddsEntry no_own p q e → q.past ++ q.journal ≡ (p.past ++ p.journal) ++ e ∷ []
entered p q e adds = ap (λ es. es ++ q.journal) adds.past ∙ ap (λ es. p.past ++ es) adds.journal ∙ sym (append_assoc p.past p.journal (e ∷ []))

module _ (p q : PairState) where
  module _ (caller : Caller) (asked : Request) (answer : Reply) (adds : AddsEntry no_own p q (Called caller asked answer)) where
    longer : history_of q ≡ history_of p ++ Called caller asked answer ∷ []
    longer =
        ap (λ es. calls_in es) (entered p q (Called caller asked answer) adds) ∙ calls-called (p.past ++ p.journal) caller asked answer

    pub counts-on : (calls : ℕ) → IsCounted calls (history_of p) → IsCounted (min (calls + 1) 18446744073709551615) (history_of q)
    counts-on calls is =
        let long : length (history_of q) ≡ length (history_of p) + 1 = ap (λ (xs : List PlainEntry). length xs) longer ∙ length-append (history_of p) (Called caller asked answer ∷ []) in
        omega (arith, is, long)

    pub adds-call : (calls left : ℕ) → Tallies p q (Called caller asked answer) → Adds (book_of calls p left) (Called caller asked answer) (book_of (min (calls + 1) 18446744073709551615) q left)
    adds-call calls left tally = record { calls = refl; bytes = bytes; history = longer; left = refl }
      where
        bytes : (i : ℕ) → pick (suc i) (told_of (min (calls + 1) 18446744073709551615) q) ≡ pick (suc i) (told_of calls p) + pick (suc i) (tally_of (Called caller asked answer))
        bytes zero = tally.written MasterToSlave
        bytes (suc zero) = tally.written SlaveToMaster
        bytes (suc (suc zero)) = tally.read MasterToSlave
        bytes (suc (suc (suc i))) = tally.read SlaveToMaster

  module _ (name : QueueName) (turn : Turn) (adds : AddsEntry no_own p q (Turned name turn)) where
    as_long : history_of q ≡ history_of p
    as_long = ap (λ es. calls_in es) (entered p q (Turned name turn) adds) ∙ calls-turned (p.past ++ p.journal) name turn

    -- no queue of a pair that nobody opened is enabled
    not_new : IsNew p → ⊥
    not_new new = let is : false ≡ true = sym (ap (λ (x : PairState). is_enabled name x.state.enabled) new) ∙ adds.step.enabled in absurd (cc)

    keeps-still : (calls left : ℕ) → IsKept calls left p → IsKept calls left q
    keeps-still calls left is = record { counted = subst (IsCounted calls) (sym as_long) is.counted; unopened = λ all. absurd (not_new (is.unopened all)); opened = is.opened }

    book-still : (calls left : ℕ) → Tallies p q (Turned name turn) → book_of calls q left ≡ book_of calls p left
    book-still calls left tally = λ k. book_with (same_told (told_of calls q) (told_of calls p) at k) (as_long k) left
      where
        at : (i : ℕ) → pick i (told_of calls q) ≡ pick i (told_of calls p)
        at zero = refl
        at (suc zero) = omega (arith, tally.written MasterToSlave)
        at (suc (suc zero)) = omega (arith, tally.written SlaveToMaster)
        at (suc (suc (suc zero))) = omega (arith, tally.read MasterToSlave)
        at (suc (suc (suc (suc i)))) = omega (arith, tally.read SlaveToMaster)

-- the same, said of what follows from that
pub refused-map : (A K L : Type 0) (B : Refusal → Type 0) (o p : Option Refusal) → o ≡ p → (K → L) → MatchOption o A (λ r. B r × K) → MatchOption p A (λ r. B r × L)
refused-map A K L B o p same f m = subst (λ z. MatchOption z A (λ r. B r × L)) same (at o m)
  where
    at : (o : Option Refusal) → MatchOption o A (λ r. B r × K) → MatchOption o A (λ r. B r × L)
    at None m = m
    at (Some r) m = (m.0, f m.1)

pub refused-on : (A K L : Type 0) (o p : Option Refusal) (x e : Result A Refusal) → x ≡ e → o ≡ p → (K → L) → MatchOption o (IsOk x) (λ r. (x ≡ Err r) × K) → MatchOption p (IsOk e) (λ r. (e ≡ Err r) × L)
refused-on A K L o p x e is same f m = refused-map (IsOk e) K L (λ r. e ≡ Err r) o p same f (subst (λ (y : Result A Refusal). MatchOption o (IsOk y) (λ r. (y ≡ Err r) × K)) is m)

-- what was answered wasn't refused
pub answered : (A K L : Type 0) (o p : Option Refusal) (x : Result A Refusal) (y : A) → x ≡ Ok y → o ≡ p → MatchOption o (IsOk x) (λ r. (x ≡ Err r) × K)
    → let e : Result A Refusal = Ok y in MatchOption p (IsOk e) (λ r. (e ≡ Err r) × L)
answered A K L o p x y is same m = let e : Result A Refusal = Ok y in subst (λ z. MatchOption z (IsOk e) (λ r. (e ≡ Err r) × L)) same (at o m)
  where
    at : (o : Option Refusal) → MatchOption o (IsOk x) (λ r. (x ≡ Err r) × K) → let e : Result A Refusal = Ok y in MatchOption o (IsOk e) (λ r. (e ≡ Err r) × L)
    at None m = refl
    at (Some r) m = let t : x ≡ Err r = m.0 in absurd (cc)

-- a turn, refused or not, leaves the number of calls and the book
module _ (p q : PairState) (name : QueueName) (x : Result Turn Refusal) (calls left : ℕ) where
  abbrev Stays : Type 0
  Stays = (IsKept calls left p → IsKept calls left q) × (book_of calls q left ≡ book_of calls p left)

  pub turn-still : (o : Option Refusal) → MatchOption o (IsOk x) (λ r. (x ≡ Err r) × (q ≡ p)) → IfOk x (λ t. AddsEntry no_own p q (Turned name t)) → IfOk x (λ t. Tallies p q (Turned name t)) → Stays
  turn-still o refused adds tally = at x refl adds tally
    where
      at : (y : Result Turn Refusal) → x ≡ y → IfOk y (λ t. AddsEntry no_own p q (Turned name t)) → IfOk y (λ t. Tallies p q (Turned name t)) → Stays
      at (Ok t) is adds tally = (keeps-still p q name t adds calls left, book-still p q name t adds calls left tally)
      at (Err r) is adds tally = let same : q ≡ p = (refused-by o x refused r is).1 in (subst (λ z. IsKept calls left z) (sym same), ap (λ z. book_of calls z left) same)

-- the book of a pair that is called: it is open then, and no longer as new
pub call-keeps : (p q : PairState) (caller : Caller) (asked : Request) (answer : Reply) (calls left left' : ℕ) → AddsEntry no_own p q (Called caller asked answer) → left' ≢ ALL_PARTS
    → IsKept calls left p → IsKept (min (calls + 1) 18446744073709551615) left' q
call-keeps p q caller asked answer calls left left' adds used kept =
    record { counted = counts-on p q caller asked answer adds calls kept.counted; unopened = λ all. absurd (used all); opened = λ _. omega arith }

-- what a call did, by what it ensures
module _ (a b : Kept) (caller : Caller) (asked : Request) (before bytes : List ℕ) where
  pub did : (M : Type 0) → (M → bytes ≡ before) → (x : Outcome) → MatchOption (call_refused no_own a.pair caller asked) (IsOk x) (λ r. (x ≡ Err r) × ((b ≡ a) × M))
      → IfOk x (λ y. Adds a.book (entry_of caller asked bytes y) b.book) → IfOk x (λ y. AddsEntry no_own a.pair b.pair (entry_of caller asked bytes y)) → IfOk x (λ y. answer_len y ≡ length bytes)
      → Did a caller asked before bytes x b
  did M stays x refused = at x refl
    where
      at : (y : Outcome) → x ≡ y → IfOk y (λ z. Adds a.book (entry_of caller asked bytes z) b.book) → IfOk y (λ z. AddsEntry no_own a.pair b.pair (entry_of caller asked bytes z))
          → IfOk y (λ z. answer_len z ≡ length bytes) → Did a caller asked before bytes y b
      at (Ok z) is book adds filled = (book, record { adds = adds; filled = filled })
      at (Err r) is book adds filled = let t = refused-by (call_refused no_own a.pair caller asked) x refused r is in (t.1.0, stays t.1.1, t.0)

  -- no number of the book falls
  pub below-did : (x : Outcome) → Did a caller asked before bytes x b → a.book.totals.calls < 18446744073709551616 → IsBelow a.book.totals b.book.totals
  below-did (Ok y) d low zero = let n = d.0.calls in omega arith
  below-did (Ok y) d low (suc i) = let n = d.0.bytes i in omega arith
  below-did (Err r) d low i = let same : pick i b.book.totals ≡ pick i a.book.totals = ap (λ (k : Kept). pick i k.book.totals) d.0 in omega arith

-- a seat with all parts finds in the book just what it was told
pub settled-all : (v : View) (k : Kept) (s : Settled) → Knows v k.book → v.parts ≡ ALL_PARTS → IsShown k s → IsAll v.told v.made k.pair s
settled-all v k s knows all closed =
    let whole = knows.whole all in
    let is : v.told ≡ k.book.totals = whole.0 in
    let numbers : s.told ≡ told_of k.book.totals.calls k.pair = closed.told ∙ closed.numbers in record {
      shows = closed.pair;
      told_all = closed.told ∙ sym is;
      calls = λ h. whole.1 h ∙ ap (weigh h) closed.history;
      counted = subst (λ (n : ℕ). IsCounted n (history_of k.pair)) (ap (λ (t : Told). t.calls) (sym is)) (subst (IsCounted k.book.totals.calls) closed.history closed.counted);
      numbers = is ∙ closed.numbers ∙ ap (λ (t : Told). told_of t.calls k.pair) (sym is);
      written = ap (λ (t : Told). t.written) numbers ∙ (λ j. each (sym closed.pair.ms j).written (sym closed.pair.sm j).written);
      read = ap (λ (t : Told). t.read) numbers ∙ (λ j. each (slice_index_or (sym closed.pair.ms j).fates 0 0) (slice_index_or (sym closed.pair.sm j).fates 0 0));
    }
