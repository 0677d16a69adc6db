-- What a step books as written is what its entry wrote.
use Rattle.std.proofs.Common.{◌≡◌, ℕ, ◌+◌, Bool, true, false, cond, List, length, refl, sym, ap, ◌∙◌, arith}
use Rattle.std.specs.Prelude.{Option, None, Some}
use Rattle.strm_types.specs.declared.answers.Answer.TheVariants.{Stop}
use Rattle.strm_types.specs.declared.entries.Entry.TheVariants.{Called, Turned}
use Rattle.strm_types.specs.declared.events.Caller.{Caller}
use Rattle.strm_types.specs.declared.events.Event.TheVariants.{Flush, Write, Put, Ioctl}
use Rattle.strm_types.specs.declared.modes.Prio.{Prio}
use Rattle.strm_types.specs.declared.names.Dir.{Dir}
use Rattle.strm_types.specs.declared.names.Dir.TheVariants.{MasterToSlave, SlaveToMaster}
use Rattle.strm_types.specs.declared.names.Side.{Side}
use Rattle.strm_types.specs.declared.names.Side.TheVariants.{Master, Slave}
use Rattle.strm_types.specs.declared.names.Way.TheVariants.{Down}
use Rattle.strm_types.specs.declared.signals.StopSignal.{StopSignal}
use Rattle.strm_types.specs.Books.{with_written}
use Rattle.strm_types.specs.Events.{Reply, Request}
use Rattle.strm_laws.proofs.NoOwn.{none as no_own}
use Rattle.strm_laws.specs.Calls.{Outcome, called, group_at, ioctl_at, ioctl_begun, ioctl_sent, ioctl_told, message_put, performed, put_at, write_sent}
use Rattle.strm_types.specs.Cells.{Cells, cells_written}
use Rattle.strm_types.specs.Flushing.{asked_of, flush_bytes, flush_message}
use Rattle.strm_types.specs.Ioctls.{asking, ioctl_message}
use Rattle.strm_types.specs.JobControl.{asks_group}
use Rattle.strm_types.specs.Journal.{PlainEntry}
use Rattle.strm_types.specs.Message.{Message, part}
use Rattle.strm_types.specs.Names.{direction_from}
use Rattle.strm_laws.specs.Puts.{delivered, flushed_on}
use Rattle.strm_laws.specs.State.{State, book, with_book}
use Rattle.strm_laws.specs.Step.{Step}
use Rattle.strm_types.specs.Write.{chunk_count, chunks_of}
use Rattle.strm_laws.proofs.Balances.{chunks-book, still-same, told-books}
use Rattle.strm_laws.proofs.PutsBook.{SameBooks, books-are, delivered-books}
use Rattle.strm_laws.proofs.StepBooks.{turn-books}
use Rattle.strm_laws.proofs.Stopping.{of-called}
use Rattle.strm_locks.specs.Tallies.{sent_by, written_by, written_in}
use Rattle.strm_system.proofs.Unread.{only_in}

module _ {C : Type 0} (cells : Cells C) where
  -- a book with more written
  more-written : (dir d : Dir) (n : ℕ) (t : State C) → (book dir (with_book d (with_written n (book d t)) t)).written ≡ (book dir t).written + only_in dir d n
  more-written MasterToSlave MasterToSlave n t = refl
  more-written MasterToSlave SlaveToMaster n t = let e : t.books.master.written ≡ t.books.master.written + 0 = omega arith in e
  more-written SlaveToMaster MasterToSlave n t = let e : t.books.slave.written ≡ t.books.slave.written + 0 = omega arith in e
  more-written SlaveToMaster SlaveToMaster n t = refl

  none-written : (dir d : Dir) → only_in dir d 0 ≡ 0
  none-written MasterToSlave MasterToSlave = refl
  none-written MasterToSlave SlaveToMaster = refl
  none-written SlaveToMaster MasterToSlave = refl
  none-written SlaveToMaster SlaveToMaster = refl

  module _ (dir : Dir) (s : State C) where
    abbrev now : State C → ℕ
    now t = (book dir t).written

    -- what is written behind a call is what it wrote, beside what was before
    abbrev Writes : Caller → Request → Outcome C → Type 0
    Writes caller asked outcome = now outcome.state ≡ now s + only_in dir (direction_from caller.side) (written_by asked outcome.answer)

    -- where nothing more is written
    none-more : (caller : Caller) (t : State C) → now t ≡ now s → now t ≡ now s + only_in dir (direction_from caller.side) 0
    none-more caller t is = let none = none-written dir (direction_from caller.side) in omega (arith, is, none)

    same : (caller : Caller) (t : State C) → SameBooks s t → now t ≡ now s + only_in dir (direction_from caller.side) 0
    same caller t is = none-more caller t (ap (λ b. b.written) (books-are s t is dir))

    -- who is stopped writes nothing
    none-stopped : (asked : Request) (signal : StopSignal) → written_by asked (Stop signal) ≡ 0
    none-stopped (Write bytes) signal = refl
    none-stopped (Put prio control body) signal = refl
    none-stopped _ signal = refl

    carried : (caller : Caller) (asked : Request) → Writes caller asked (performed no_own cells caller asked s) → Writes caller asked (called no_own cells caller asked s)
    carried caller asked =
        of-called no_own cells caller asked s (Writes caller asked)
        (λ signal. none-more caller s refl ∙ ap (λ n. now s + only_in dir (direction_from caller.side) n) (sym (none-stopped asked signal)))

    put-written : (caller : Caller) (prio : Prio) (c b : Option (List ℕ)) → now (put_at no_own cells caller.side prio c b s).state ≡ now s + only_in dir (direction_from caller.side) (length (part c) + length (part b))
    put-written caller prio c b = at c b
      where
        d : Dir
        d = direction_from caller.side

        sent : (n : ℕ) (m : Message C) → let t = delivered no_own cells (record { side = caller.side; at = 1; way = Down }) m s in
            now (with_book (direction_from caller.side) (with_written n (book (direction_from caller.side) t.state)) t.state) ≡ now s + only_in dir (direction_from caller.side) n
        sent n m =
            let t = delivered no_own cells (record { side = caller.side; at = 1; way = Down }) m s in
            more-written dir (direction_from caller.side) n t.state ∙ ap (λ k. k + only_in dir (direction_from caller.side) n) ((delivered-books cells no_own (record { side = caller.side; at = 1; way = Down }) m s).written dir)

        at : (c b : Option (List ℕ)) → now (put_at no_own cells caller.side prio c b s).state ≡ now s + only_in dir (direction_from caller.side) (length (part c) + length (part b))
        at None None = let none = none-written dir (direction_from caller.side) in omega (arith, none)
        at None (Some ys) = sent (0 + length ys) (message_put cells caller.side prio None (Some ys) s)
        at (Some xs) b = sent (length xs + length (part b)) (message_put cells caller.side prio (Some xs) b s)

    -- a call
    pub call-written : (caller : Caller) (asked : Request) → Writes caller asked (called no_own cells caller asked s)
    call-written caller (Write bytes) = carried caller (Write bytes)
        (let d = direction_from caller.side in
        let xs = cells_written cells d (book d s).written bytes in
        let t = write_sent no_own cells caller.side bytes s in
        more-written dir d t.taken t.state ∙ ap (λ k. k + only_in dir d t.taken) ((chunks-book cells no_own caller.side (chunks_of (chunk_count (length xs)) xs) s).written dir))
    call-written caller (Put prio control body) = carried caller (Put prio control body) (put-written caller prio control body)
    call-written caller (Flush what band) = carried caller (Flush what band)
        (none-more caller (flushed_on no_own cells band caller.side what s).state ((delivered-books cells no_own (record { side = caller.side; at = 1; way = Down }) (flush_message (flush_bytes (asked_of what band))) s).written dir))
    call-written caller (Ioctl command body) = carried caller (Ioctl command body) (at (asks_group caller.side command))
      where
        at : (group : Bool) → Writes caller (Ioctl command body) (cond group (group_at caller.side command body s) (ioctl_at no_own cells caller.side command body s))
        at true = same caller (group_at caller.side command body s).state refl
        at false =
            let t = ioctl_sent no_own cells caller.side command body s in
            none-more caller (ioctl_told caller.side t.state).state
            (ap (λ b. b.written) (books-are t.state (ioctl_told caller.side t.state).state (told-books caller.side t.state) dir)
            ∙ (delivered-books cells no_own (record { side = caller.side; at = 1; way = Down }) (ioctl_message (asking command s.next_ioctl) body) (ioctl_begun caller.side command s)).written dir)
    call-written caller asked = same caller (called no_own cells caller asked s).state (still-same cells no_own caller asked s refl)

    sent-by : (side : Side) (n : ℕ) → only_in dir (direction_from side) n ≡ sent_by side dir n
    sent-by = at dir
      where
        at : (d : Dir) (side : Side) (n : ℕ) → only_in d (direction_from side) n ≡ sent_by side d n
        at MasterToSlave Master n = refl
        at MasterToSlave Slave n = refl
        at SlaveToMaster Master n = refl
        at SlaveToMaster Slave n = refl

    -- a step
    pub step-written : (entry : PlainEntry) (t : State C) → Step no_own cells s entry t → now t ≡ now s + written_in dir entry
    step-written (Called caller asked answer) t step =
        ap now (sym step.leads) ∙ (call-written caller asked ∙ (ap (λ (r : Reply). now s + only_in dir (direction_from caller.side) (written_by asked r)) step.answered
        ∙ ap (λ n. now s + n) (sent-by caller.side (written_by asked answer))))
    step-written (Turned name turn) t step = ap now (sym step.leads) ∙ ((turn-books cells no_own name turn s).written dir ∙ (let e : now s ≡ now s + 0 = omega arith in e))
