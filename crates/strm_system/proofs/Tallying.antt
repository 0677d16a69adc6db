-- Where a pair adds an entry to its journal, its numbers of written and of read bytes grow by what the entry wrote and read.
use Rattle.std.proofs.Common.{ℕ, ◌≡◌, ◌+◌, ◌≤◌, List, refl, sym, ap, subst, ◌∙◌, arith}
use Rattle.strm_types.specs.declared.books.Book.{Book}
use Rattle.strm_types.specs.declared.entries.Entry.TheVariants.{Called, Turned}
use Rattle.strm_types.specs.declared.events.Caller.{Caller}
use Rattle.strm_types.specs.declared.events.Event.TheVariants.{Read, Get}
use Rattle.strm_types.specs.declared.names.Dir.{Dir}
use Rattle.strm_types.specs.declared.names.Dir.TheVariants.{MasterToSlave, SlaveToMaster}
use Rattle.strm_types.specs.declared.names.Side.{Side}
use Rattle.strm_types.specs.declared.names.Side.TheVariants.{Master, Slave}
use Rattle.strm_types.specs.declared.rules.Fates.{Fates}
use Rattle.strm_types.specs.Cells.{plain}
use Rattle.strm_types.specs.Deliver.{Fate, tallied}
use Rattle.strm_types.specs.Events.{Reply, Request}
use Rattle.strm_types.specs.Journal.{PlainEntry}
use Rattle.strm_types.specs.Names.{direction_of, head_of}
use Rattle.strm_types.specs.Rules.{fates_of}
use Rattle.strm_laws.proofs.NoOwn.{none as no_own}
use Rattle.strm_laws.specs.Calls.{called, performed}
use Rattle.strm_laws.specs.Kept.{gone}
use Rattle.strm_laws.specs.Ledgers.{inline, queued}
use Rattle.strm_laws.specs.Pair.{AddsEntry, PairState}
use Rattle.strm_laws.specs.State.{State, book}
use Rattle.strm_laws.specs.Step.{Step}
use Rattle.strm_laws.proofs.Balances.{still-same}
use Rattle.strm_laws.proofs.PutsBook.{SameBooks, books-are}
use Rattle.strm_laws.proofs.Stopping.{of-called}
use Rattle.strm_locks.specs.Tallies.{Tallies, bytes_read, read_by, received_by}
use Rattle.strm_system.specs.Known.{AreCounts, IsKnown}
use Rattle.strm_system.proofs.Counting.{all-grow, gone_in, reads-grow, sum_of}
use Rattle.strm_system.proofs.Reading.{call-read, step-read}
use Rattle.strm_system.proofs.Taken.{Takes, get-takes, read-takes}
use Rattle.strm_system.proofs.Unread.{only_in, reads}
use Rattle.strm_system.proofs.Written.{step-written}

none-received : (dir : Dir) (side : Side) → received_by side dir 0 ≡ 0
none-received MasterToSlave Master = refl
none-received MasterToSlave Slave = refl
none-received SlaveToMaster Master = refl
none-received SlaveToMaster Slave = refl

-- two directions are the same, or none counts for the other
either-dir : (dir d : Dir) (R : Type 0) → (dir ≡ d → R) → (((n : ℕ) → only_in dir d n ≡ 0) → R) → R
either-dir MasterToSlave MasterToSlave R same apart = same refl
either-dir MasterToSlave SlaveToMaster R same apart = apart (λ n. refl)
either-dir SlaveToMaster MasterToSlave R same apart = apart (λ n. refl)
either-dir SlaveToMaster SlaveToMaster R same apart = same refl

-- a ledger agrees
abbrev Balance : Dir → State ℕ → Fates → Type 0
Balance d s f = (book d s).written + (book d s).made ≡ queued d s + (inline d s + sum_of (fates_of d f))

-- Where what has gone stood on the queues, the counts have grown by all of it.
full : (d : Dir) (s t : State ℕ) (f g : Fates) (told : List (Fate ℕ)) → book d t ≡ book d s → inline d t ≡ inline d s → gone_in d told + queued d t ≡ queued d s
    → Balance d s f → Balance d t g → sum_of (fates_of d f) + gone_in d told ≤ sum_of (fates_of d g)
full d s t f g told books lines stood before behind =
    omega (arith, ap (λ (b : Book). b.written) books, ap (λ (b : Book). b.made) books, lines, stood, before, behind)

-- the count of reads has grown by what goes to readers
abbrev Grows : Dir → List (Fate ℕ) → Fates → Type 0
Grows dir told f = bytes_read dir (tallied told f) ≡ bytes_read dir f + reads dir told

quiet : (dir : Dir) (told : List (Fate ℕ)) (f : Fates) → AreCounts f → reads dir told ≡ 0 → Grows dir told f
quiet dir told f counts none = reads-grow dir told f (counts dir).0 (omega (arith, (counts dir).1, none))

module _ (caller : Caller) (answer : Reply) (s t : State ℕ) (f : Fates) where
  abbrev d : Dir
  d = direction_of (head_of caller.side)

  -- who is stopped takes nothing
  stopped-or : (asked : Request) → Takes caller.side s (performed no_own plain caller asked s)
      → Takes caller.side s (called no_own plain caller asked s)
  stopped-or asked = of-called no_own plain caller asked s (Takes caller.side s) (λ signal. (refl, omega arith))

  -- a call that takes from the queues of the direction that its side reads
  takes : (asked : Request) → let told = gone no_own plain s (Called caller asked answer) in let u = (called no_own plain caller asked s).state in
      AreCounts f → AreCounts (tallied told f) → SameBooks s u → Takes caller.side s (called no_own plain caller asked s)
      → Balance d s f → Balance d t (tallied told f) → u ≡ t → (dir : Dir) → Grows dir told f
  takes asked counts after same taken before behind leads dir =
      let told = gone no_own plain s (Called caller asked answer) in
      let u = (called no_own plain caller asked s).state in
      let now : Balance d u (tallied told f) = subst (λ (v : State ℕ). Balance d v (tallied told f)) (sym leads) behind in
      either-dir dir d (Grows dir told f)
      (λ is. subst (λ (e : Dir). Grows e told f) (sym is) (all-grow d told f (counts d).0 (after d).1 (full d s u f (tallied told f) told (books-are s u same d) taken.0 taken.1 before now)))
      (λ apart. quiet dir told f counts (call-read dir plain s caller asked ∙ apart (read_by asked (called no_own plain caller asked s).answer)))

  -- one that reads nothing
  rests : (asked : Request) → read_by asked answer ≡ 0 → AreCounts f → Step no_own plain s (Called caller asked answer) t → (dir : Dir) → Grows dir (gone no_own plain s (Called caller asked answer)) f
  rests asked none counts step dir =
      let is = step-read dir plain s (Called caller asked answer) t step in
      quiet dir (gone no_own plain s (Called caller asked answer)) f counts (is ∙ (ap (λ n. received_by caller.side dir n) none ∙ none-received dir caller.side))

  call-grows : (asked : Request) → let told = gone no_own plain s (Called caller asked answer) in AreCounts f → AreCounts (tallied told f) → Balance d s f → Balance d t (tallied told f)
      → Step no_own plain s (Called caller asked answer) t → (dir : Dir) → Grows dir told f
  call-grows (Read n) counts after before behind step dir =
      takes (Read n) counts after (still-same plain no_own caller (Read n) s refl) (stopped-or (Read n) (read-takes plain caller.side n s)) before behind step.leads dir
  call-grows (Get wanted cmax dmax) counts after before behind step dir =
      takes (Get wanted cmax dmax) counts after (still-same plain no_own caller (Get wanted cmax dmax) s refl) (stopped-or (Get wanted cmax dmax) (get-takes plain caller.side wanted cmax dmax s)) before behind step.leads dir
  call-grows asked counts after before behind step dir = rests asked refl counts step dir

entry-grows : (p q : PairState) (e : PlainEntry) → IsKnown e p → IsKnown e q → AddsEntry no_own p q e → (dir : Dir) → Grows dir (gone no_own plain p.state e) p.fates
entry-grows p q (Turned name turn) known after adds dir = quiet dir (gone no_own plain p.state (Turned name turn)) p.fates known (step-read dir plain p.state (Turned name turn) q.state adds.step)
entry-grows p q (Called caller asked answer) known after adds dir =
    let told = gone no_own plain p.state (Called caller asked answer) in
    call-grows caller answer p.state q.state p.fates asked known.0 (subst AreCounts adds.fates after.0) known.1
    (subst (λ (f : Fates). Balance (direction_of (head_of caller.side)) q.state f) adds.fates after.1) adds.step dir

pub adds-tally : (p q : PairState) (e : PlainEntry) → IsKnown e p → IsKnown e q → AddsEntry no_own p q e → Tallies p q e
adds-tally p q e known after adds = record {
  written = λ dir. step-written plain dir p.state e q.state adds.step;
  read = λ dir.
      ap (λ f. bytes_read dir f) adds.fates
      ∙ (entry-grows p q e known after adds dir ∙ ap (λ n. bytes_read dir p.fates + n) (step-read dir plain p.state e q.state adds.step));
}
