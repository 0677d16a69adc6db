-- What a step lets go to readers is what its entry read; so a pair's number of bytes read grows by it.
use Rattle.std.proofs.Common.{ℕ, ◌≡◌, ◌+◌, Bool, true, false, cond, List, [], ◌∷◌, ◌++◌, length, refl, sym, ap, ◌∙◌, arith, length-append}
use Rattle.std.specs.Prelude.{not, min, Option, None, Some, option_map}
use lib.ListN.{length-map}
use Rattle.strm_types.specs.declared.answers.Answer.TheVariants.{Stop}
use Rattle.strm_types.specs.declared.entries.Entry.TheVariants.{Called, Turned}
use Rattle.strm_types.specs.declared.events.Caller.{Caller}
use Rattle.strm_types.specs.declared.events.Event.TheVariants.{Shut, Push, Pop, Flush, Write, Read, Put, Get, Ioctl}
use Rattle.strm_types.specs.declared.limits.TheConstants.{READ_MAX}
use Rattle.strm_types.specs.declared.modes.ControlMode.{ControlMode}
use Rattle.strm_types.specs.declared.modes.ReadMode.{ReadMode}
use Rattle.strm_types.specs.declared.modes.Wanted.{Wanted}
use Rattle.strm_types.specs.declared.names.Dir.{Dir}
use Rattle.strm_types.specs.declared.names.Dir.TheVariants.{MasterToSlave, SlaveToMaster}
use Rattle.strm_types.specs.declared.names.Side.{Side}
use Rattle.strm_types.specs.declared.names.Side.TheVariants.{Master, Slave}
use Rattle.strm_types.specs.declared.names.Way.TheVariants.{Down}
use Rattle.strm_types.specs.declared.signals.StopSignal.{StopSignal}
use Rattle.strm_types.specs.Events.{Reply, Request}
use Rattle.strm_laws.proofs.NoOwn.{none as no_own}
use Rattle.strm_laws.specs.Calls.{Outcome, called, group_at, ioctl_at, ioctl_begun, ioctl_sent, message_put, performed, put_at, write_sent}
use Rattle.strm_laws.specs.Closes.{closed_at}
use Rattle.strm_types.specs.Cells.{Cells, bytes_of, cells_written}
use Rattle.strm_types.specs.Deliver.{Fate, Goes}
use Rattle.strm_types.specs.Flushing.{asked_of, flush_bytes, flush_message}
use Rattle.strm_types.specs.GetQueues.{cells_got, get_gone}
use Rattle.strm_types.specs.Gets.{Got, got_none, head_get, is_wanted, parts_of}
use Rattle.strm_types.specs.Ioctls.{asking, ioctl_message}
use Rattle.strm_types.specs.JobControl.{asks_group}
use Rattle.strm_types.specs.Journal.{PlainEntry}
use Rattle.strm_laws.specs.Kept.{gone}
use Rattle.strm_types.specs.Message.{Message, data_message, part}
use Rattle.strm_types.specs.Names.{direction_from, direction_of, head_of}
use Rattle.strm_laws.specs.Puts.{delivered, flushed_on}
use Rattle.strm_laws.specs.Pushes.{named_by, popped, pushed_named}
use Rattle.strm_types.specs.Reads.{Drawn, head_draw, read_fates, read_gone, takes_none}
use Rattle.strm_laws.specs.State.{State, book, stream}
use Rattle.strm_laws.specs.Step.{Step}
use Rattle.strm_types.specs.Write.{chunk_count, chunks_of}
use Rattle.strm_laws.specs.Writes.{Wrote, below_head, chunks_sent, is_full_below}
use Rattle.strm_types.proofs.ReadRefuses.{takes-none}
use Rattle.strm_laws.proofs.Stopping.{of-called}
use Rattle.strm_locks.specs.Tallies.{read_by, read_in, received_by}
use Rattle.strm_system.proofs.Unread.{delivered-unread, none-both, only_in, reads}
use Rattle.strm_system.proofs.UnreadTurns.{close-unread, pop-unread, push-unread, turn-unread}

only-none : (dir d : Dir) → only_in dir d 0 ≡ 0
only-none MasterToSlave MasterToSlave = refl
only-none MasterToSlave SlaveToMaster = refl
only-none SlaveToMaster MasterToSlave = refl
only-none SlaveToMaster SlaveToMaster = refl

module _ {C : Type 0} (dir : Dir) where
  -- a read: what it gives goes to the reader, and nothing else that it takes
  read-goes : (d : Dir) (mode : ReadMode) (control : ControlMode) (n : ℕ) (q : List (Message C)) → reads dir (read_gone d mode control n q) ≡ only_in dir d (length (head_draw mode control n q).given)
  read-goes d mode control n q = at (takes_none control n q) refl
    where
      drew : Drawn C
      drew = head_draw mode control n q

      at : (none : Bool) → takes_none control n q ≡ none → reads dir (cond none [] (read_fates d drew)) ≡ only_in dir d (length (head_draw mode control n q).given)
      at true is = sym (only-none dir d) ∙ ap (λ (x : Drawn C). only_in dir d (length x.given)) (sym (takes-none mode control n q is))
      at false is = let e : only_in dir d (length drew.given) + (0 + (0 + 0)) ≡ only_in dir d (length drew.given) = omega arith in e

  -- a get: what both parts have that it gives
  get-goes : (d : Dir) (wanted : Wanted) (cmax dmax : ℕ) (q : List (Message C)) → reads dir (get_gone d wanted cmax dmax q) ≡ only_in dir d (length (cells_got (head_get wanted cmax dmax q)))
  get-goes d wanted cmax dmax [] = sym (only-none dir d)
  get-goes d wanted cmax dmax (m ∷ q) = at (is_wanted wanted m)
    where
      at : (want : Bool) → reads dir (cond (not want) [] (Goes d Rattle.strm_types.specs.declared.rules.Rule.TheVariants.Read (cells_got (cond want (parts_of cmax dmax m q) (got_none (m ∷ q)))) ∷ []))
          ≡ only_in dir d (length (cells_got (cond want (parts_of cmax dmax m q) (got_none (m ∷ q)))))
      at true = let n = only_in dir d (length (cells_got (parts_of cmax dmax m q))) in let e : n + 0 ≡ n = omega arith in e
      at false = sym (only-none dir d)

  -- the bytes that an answer has are those of the cells
  module _ (cells : Cells C) where
    part-long : (o : Option (List C)) → length (part (option_map (bytes_of cells) o)) ≡ length (part o)
    part-long None = refl
    part-long (Some xs) = length-map xs cells.byte

    got-long : (g : Got C) → length (part (option_map (bytes_of cells) g.control) ++ part (option_map (bytes_of cells) g.body)) ≡ length (cells_got g)
    got-long g = length-append (part (option_map (bytes_of cells) g.control)) (part (option_map (bytes_of cells) g.body))
        ∙ (ap (λ n. n + length (part (option_map (bytes_of cells) g.body))) (part-long g.control) ∙ (ap (λ n. length (part g.control) + n) (part-long g.body) ∙ sym (length-append (part g.control) (part g.body))))

    -- the chunks of a write
    chunks-unread : (side : Side) (chunks : List (List C)) (s : State C) → reads dir (chunks_sent no_own cells side chunks s).gone ≡ 0
    chunks-unread side [] s = refl
    chunks-unread side (chunk ∷ chunks) s =
        let t = delivered no_own cells (below_head side) (data_message chunk) s in
        let more = chunks_sent no_own cells side chunks t.state in
        either (is_full_below 0 side s) _ _ refl (none-both dir t.gone more.gone (delivered-unread dir cells (below_head side) (data_message chunk) s) (chunks-unread side chunks t.state))
      where
        either : (full : Bool) (one another : Wrote C) → reads dir one.gone ≡ 0 → reads dir another.gone ≡ 0 → reads dir (cond full one another).gone ≡ 0
        either true one another first second = first
        either false one another first second = second

    put-unread : (side : Side) (prio : Rattle.strm_types.specs.declared.modes.Prio.Prio) (c b : Option (List ℕ)) (s : State C) → reads dir (put_at no_own cells side prio c b s).gone ≡ 0
    put-unread side prio None None s = refl
    put-unread side prio None (Some ys) s = delivered-unread dir cells (record { side = side; at = 1; way = Down }) (message_put cells side prio None (Some ys) s) s
    put-unread side prio (Some xs) b s = delivered-unread dir cells (record { side = side; at = 1; way = Down }) (message_put cells side prio (Some xs) b s) s

    module _ (s : State C) where
      -- what goes to readers is what the answer gives
      abbrev Reads : Caller → Request → Outcome C → Type 0
      Reads caller asked outcome = reads dir outcome.gone ≡ only_in dir (direction_of (head_of caller.side)) (read_by asked outcome.answer)

      quiet : (caller : Caller) (told : List (Fate C)) → reads dir told ≡ 0 → reads dir told ≡ only_in dir (direction_of (head_of caller.side)) 0
      quiet caller told none = none ∙ sym (only-none dir (direction_of (head_of caller.side)))

      -- a call that is carried out
      performed-read : (caller : Caller) (asked : Request) → Reads caller asked (performed no_own cells caller asked s)
      performed-read caller (Read n) =
          let d = direction_of (head_of caller.side) in
          let h = (stream caller.side s).head in
          let drew = head_draw h.read_mode h.control_mode (min n READ_MAX) h.queue.messages in
          read-goes d h.read_mode h.control_mode (min n READ_MAX) h.queue.messages ∙ ap (λ k. only_in dir d k) (sym (length-map drew.given cells.byte))
      performed-read caller (Get wanted cmax dmax) =
          let d = direction_of (head_of caller.side) in
          let q = (stream caller.side s).head.queue.messages in
          get-goes d wanted (min cmax READ_MAX) (min dmax READ_MAX) q ∙ ap (λ k. only_in dir d k) (sym (got-long (head_get wanted (min cmax READ_MAX) (min dmax READ_MAX) q)))
      performed-read caller (Write bytes) =
          let d = direction_from caller.side in
          let xs = cells_written cells d (book d s).written bytes in
          quiet caller (write_sent no_own cells caller.side bytes s).gone (chunks-unread caller.side (chunks_of (chunk_count (length xs)) xs) s)
      performed-read caller (Put prio control body) = quiet caller (put_at no_own cells caller.side prio control body s).gone (put-unread caller.side prio control body s)
      performed-read caller (Flush what band) =
          quiet caller (flushed_on no_own cells band caller.side what s).gone (delivered-unread dir cells (record { side = caller.side; at = 1; way = Down }) (flush_message (flush_bytes (asked_of what band))) s)
      performed-read caller (Ioctl command body) = at (asks_group caller.side command)
        where
          at : (group : Bool) → Reads caller (Ioctl command body) (cond group (group_at caller.side command body s) (ioctl_at no_own cells caller.side command body s))
          at true = quiet caller [] refl
          at false =
              quiet caller (ioctl_sent no_own cells caller.side command body s).gone
              (delivered-unread dir cells (record { side = caller.side; at = 1; way = Down }) (ioctl_message (asking command s.next_ioctl) body) (ioctl_begun caller.side command s))
      performed-read caller Shut = quiet caller (closed_at caller.side s).gone (close-unread dir cells caller.side s)
      performed-read caller (Push name) = quiet caller (pushed_named caller.side (named_by no_own name) s).gone (push-unread dir cells caller.side (named_by no_own name) s)
      performed-read caller Pop = quiet caller (popped caller.side s).gone (pop-unread dir cells caller.side s)
      performed-read caller _ = quiet caller [] refl

      -- who is stopped reads nothing
      none-read : (asked : Request) (signal : StopSignal) → read_by asked (Stop signal) ≡ 0
      none-read (Read n) signal = refl
      none-read (Get wanted cmax dmax) signal = refl
      none-read _ signal = refl

      -- a call
      pub call-read : (caller : Caller) (asked : Request) → Reads caller asked (called no_own cells caller asked s)
      call-read caller asked =
          of-called no_own cells caller asked s (Reads caller asked)
          (λ signal. sym (only-none dir (direction_of (head_of caller.side))) ∙ ap (λ n. only_in dir (direction_of (head_of caller.side)) n) (sym (none-read asked signal)))
          (performed-read caller asked)

      received-by : (d : Dir) (side : Side) (n : ℕ) → only_in d (direction_of (head_of side)) n ≡ received_by side d n
      received-by MasterToSlave Master n = refl
      received-by MasterToSlave Slave n = refl
      received-by SlaveToMaster Master n = refl
      received-by SlaveToMaster Slave n = refl

      -- a step
      pub step-read : (entry : PlainEntry) (t : State C) → Step no_own cells s entry t → reads dir (gone no_own cells s entry) ≡ read_in dir entry
      step-read (Called caller asked answer) t step =
          call-read caller asked ∙ ap (λ (r : Reply). only_in dir (direction_of (head_of caller.side)) (read_by asked r)) step.answered
          ∙ received-by dir caller.side (read_by asked answer)
      step-read (Turned name turn) t step = turn-unread dir cells name turn s
