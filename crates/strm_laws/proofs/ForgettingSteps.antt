-- Forgetting the origins of cells commutes with whole calls, whole turns and the replay of a journal.
use Rattle.strm_laws.proofs.Prelude.{ℕ, ◌≡◌, Bool, true, false, cond, List, [], ◌∷◌, length, map, take, refl, sym, ap, ◌∙◌, min, not, Option, None}
use Rattle.strm_laws.proofs.Prelude.{Some, option_map, length-map, take-map, written-plain, bytes-plain, written-bytes, map-set}
use Rattle.strm_laws.specs.Prelude.{READ_MAX, Count, Msg, Sizes, Turn, Called, Turned, Caller, OpenMaster, Unlock, OpenSlave, Shut, Push, Pop, Look}
use Rattle.strm_laws.specs.Prelude.{Write, Read, Put, Get, Mode, Nread, IoctlResult, Prio, Wanted, ModuleName, Side, Master, Slave, Open, Place}
use Rattle.strm_laws.specs.Prelude.{QueueName, Cells, AreCells, plain, cells_written, bytes_of, driver_of, direction_from, direction_of, head_of}
use Rattle.strm_laws.specs.Prelude.{without, enable_if, Got, prio_got, first_data, head_get, map_got, get_queue, Message, cells_of, part, map_message}
use Rattle.strm_laws.specs.Prelude.{map_fate, map_messages, Head, new_head, with_written, Drawn, head_draw, read_queue, asks_group, stop_in}
use Rattle.strm_laws.specs.Prelude.{StopSignal, Request, Reply, PlainEntry, Carried}
use Rattle.strm_types.specs.declared.events.Event.TheVariants.{Flush, Ioctl}
use Rattle.strm_types.specs.declared.events.Event.TheVariants as events
use Rattle.strm_types.specs.declared.modes.Mode as modes
use Rattle.strm_types.specs.declared.modes.Mode.TheVariants as chosen
use Rattle.strm_types.specs.declared.names.Place.TheVariants as places
use Rattle.strm_laws.specs.Behaviours.{Behaviour}
use Rattle.strm_laws.specs.State.{State, stream, with_stream, with_head_queue, book, with_book, map_state, map_stream}
use Rattle.strm_laws.specs.Writes.{Wrote, cells_sent}
use Rattle.strm_laws.specs.TurnOutcomes.{TurnOutcome, map_turn_outcome}
use Rattle.strm_laws.specs.Turns.{turned_at, turned}
use Rattle.strm_laws.specs.Calls.{Outcome, called, done, get_at, group_at, ioctl_at, ioctl_sent, ioctl_told, map_outcome, message_put, mode_set, name_told, or_stopped, performed, put_at, read_at, sizes_at, takes, tells, wrote}
use Rattle.strm_laws.specs.Refusals.{stop_of}
use Rattle.strm_laws.specs.Step.{after, replay}
use Rattle.strm_laws.proofs.Earlier.{before_head-forgets}
use Rattle.strm_laws.proofs.Forgetting.{none-forgets}
use Rattle.strm_laws.proofs.ClosesForget.{closed_at-forgets}
use Rattle.strm_laws.proofs.WriteSteps.{cells_sent-forgets}
use Rattle.strm_laws.proofs.IoctlCalls.{ioctl_told-forgets, sent-forgets, signals-forget}
use Rattle.strm_laws.proofs.ModuleTurnForgets.{module_turned-forgets}
use Rattle.strm_laws.proofs.PushForgets.{pop-forgets, push-forgets, top-forgets}
use Rattle.strm_laws.proofs.PutsForget.{flushed_on-forgets}
use Rattle.strm_laws.proofs.GetKeeps.{get-forgets}
use Rattle.strm_laws.proofs.GotQueues.{get_gone-forgets, get_queue-forgets, get_lets_go-forgets}
use Rattle.strm_laws.proofs.PutMessages.{put_at-forgets, put_came-forgets}
use Rattle.strm_laws.proofs.ReadForgets.{body-forgets, head_draw-forgets, read_gone-forgets, read_queue-forgets, read_lets_go-forgets}
use Rattle.strm_laws.proofs.Stopping.{hold-same}
use Rattle.strm_laws.proofs.TurnForgets.{driver_turned-forgets}
use Rattle.strm_laws.proofs.EmptiedForgets.{stream-forgets}

-- what a write makes of what was sent
abbrev sent_on : {C : Type 0} → Side → List C → Wrote C → Outcome C
sent_on side xs t = let dir = direction_from side in record { answer = Count t.taken; state = with_book dir (with_written t.taken (book dir t.state)) t.state; came = take t.taken xs; gone = t.gone }

-- what a get answers
abbrev msg_of : Prio → Option (List ℕ) → Option (List ℕ) → Bool → Bool → Reply
msg_of prio control body more_control more_data = Msg prio control body more_control more_data

abbrev got_answer : {C : Type 0} → Cells C → Got C → Reply
got_answer cells g = msg_of (prio_got g) (option_map (bytes_of cells) g.control) (option_map (bytes_of cells) g.body) g.more_control g.more_data

-- what is told of the messages at a head
abbrev told_of : {C : Type 0} → State C → ℕ → ℕ → Outcome C
told_of s first messages = tells (Sizes first messages) s

-- what a look answers
abbrev name_answered : {C : Type 0} → Option ModuleName → State C → Outcome C
name_answered name s = tells (name_told name) s

module _ {C D : Type 0} (f : C → D) where
  -- modes that are set, and what is told of a head
  mode-forgets : (side : Side) (mode : modes.Mode) (s : State C) → mode_set side mode (map_state f s) ≡ map_state f (mode_set side mode s)
  mode-forgets Master (chosen.Read mode) s = refl
  mode-forgets Master (chosen.Control mode) s = refl
  mode-forgets Slave (chosen.Read mode) s = refl
  mode-forgets Slave (chosen.Control mode) s = refl

  first-forgets : (q : List (Message C)) → first_data (map_messages f q) ≡ first_data q
  first-forgets [] = refl
  first-forgets (m ∷ q) = ap length (body-forgets f m) ∙ length-map (part m.body) f

  told-forgets : (q : List (Message C)) (t : State D) → told_of t (first_data (map_messages f q)) (length (map_messages f q)) ≡ told_of t (first_data q) (length q)
  told-forgets q t = ap (λ n. told_of t n (length (map_messages f q))) (first-forgets q) ∙ ap (λ n. told_of t (first_data q) n) (length-map q (map_message f))

  sizes-forgets : (side : Side) (s : State C) → sizes_at side (map_state f s) ≡ map_outcome f (sizes_at side s)
  sizes-forgets Master s = told-forgets s.ends.master.head.queue.messages (map_state f s)
  sizes-forgets Slave s = told-forgets s.ends.slave.head.queue.messages (map_state f s)

module _ {C : Type 0} (cells : Cells C) (are : AreCells cells) where
  -- where origins are forgotten, what is written are the bytes
  write-forgets : (K : Behaviour) (side : Side) (bytes : List ℕ) (s : State C) → wrote K plain side bytes (map_state cells.byte s) ≡ map_outcome cells.byte (wrote K cells side bytes s)
  write-forgets K side bytes s =
      let dir = direction_from side in
      let n = (book dir s).written in
      let base = map_state cells.byte s in
      let written = cells_written cells dir n bytes in
      let t = cells_sent K cells side written s in
      ap (λ (xs : List ℕ). sent_on side xs (cells_sent K plain side xs base)) (written-plain dir (book dir base).written bytes ∙ sym (written-bytes cells are dir n bytes))
      ∙ ap (λ (t : Wrote ℕ). sent_on side (map cells.byte written) t) (cells_sent-forgets cells are K side written s)
      ∙ ap (λ (xs : List ℕ). record (map_outcome cells.byte (sent_on side written t)) { came = xs }) (take-map cells.byte t.taken written)

  -- a read, which gives the bytes of its cells
  given-bytes : (k : ℕ) (g : Head C) → bytes_of plain (head_draw g.read_mode g.control_mode k (map_messages cells.byte g.queue.messages)).given ≡ bytes_of cells (head_draw g.read_mode g.control_mode k g.queue.messages).given
  given-bytes k g = bytes-plain (head_draw g.read_mode g.control_mode k (map_messages cells.byte g.queue.messages)).given ∙ ap (λ (d : Drawn ℕ). d.given) (sym (head_draw-forgets cells.byte g.read_mode g.control_mode k g.queue.messages))

  read_at-forgets : (side : Side) (n : ℕ) (s : State C) → read_at plain side n (map_state cells.byte s) ≡ map_outcome cells.byte (read_at cells side n s)
  read_at-forgets side n s =
      let t = stream side s in
      let h = t.head in
      let k = min n READ_MAX in
      rw (before_head-forgets cells.byte side s, stream-forgets cells.byte side s, given-bytes k h, read_queue-forgets cells.byte h.read_mode h.control_mode k h.queue, read_lets_go-forgets cells.byte h.read_mode h.control_mode k h.queue, read_gone-forgets cells.byte (direction_of (head_of side)) h.read_mode h.control_mode k h.queue.messages, map-set (map_stream cells.byte) side (with_head_queue (read_queue h.read_mode h.control_mode k h.queue) t) s.ends)
      refl

  -- a get, which gives the bytes of its cells
  bytes-forget : (o : Option (List C)) → option_map (bytes_of plain) (option_map (map cells.byte) o) ≡ option_map (bytes_of cells) o
  bytes-forget None = refl
  bytes-forget (Some xs) = ap Some (bytes-plain (map cells.byte xs))

  answer-forgets : (g : Got C) → got_answer plain (map_got cells.byte g) ≡ got_answer cells g
  answer-forgets g =
      rw (bytes-forget g.control, bytes-forget g.body) refl

  got-answer : (wanted : Wanted) (c d : ℕ) (q : List (Message C)) → got_answer plain (head_get wanted c d (map_messages cells.byte q)) ≡ got_answer cells (head_get wanted c d q)
  got-answer wanted c d q = ap (λ (g : Got ℕ). got_answer plain g) (sym (get-forgets cells.byte wanted c d q)) ∙ answer-forgets (head_get wanted c d q)

  get_at-forgets : (side : Side) (wanted : Wanted) (cmax dmax : ℕ) (s : State C) → get_at plain side wanted cmax dmax (map_state cells.byte s) ≡ map_outcome cells.byte (get_at cells side wanted cmax dmax s)
  get_at-forgets side wanted cmax dmax s =
      let t = stream side s in
      let q = t.head.queue in
      let c = min cmax READ_MAX in
      let d = min dmax READ_MAX in
      rw (before_head-forgets cells.byte side s, stream-forgets cells.byte side s, got-answer wanted c d q.messages, get_queue-forgets cells.byte wanted c d q, get_lets_go-forgets cells.byte wanted c d q, get_gone-forgets cells.byte (direction_of (head_of side)) wanted c d q.messages, map-set (map_stream cells.byte) side (with_head_queue (get_queue wanted c d q) t) s.ends)
      refl

  group-forgets : (side : Side) (command : ℕ) (body : List ℕ) (s : State C) → group_at side command body (map_state cells.byte s) ≡ map_outcome cells.byte (group_at side command body s)
  group-forgets Master command body s = refl
  group-forgets Slave command body s = refl

  performed-forgets : (K : Behaviour) (caller : Caller) (asked : Request) (s : State C) → performed K plain caller asked (map_state cells.byte s) ≡ map_outcome cells.byte (performed K cells caller asked s)
  performed-forgets K caller OpenMaster s = refl
  performed-forgets K caller Unlock s = refl
  performed-forgets K caller OpenSlave s = ap (λ (none : Bool). opened-with none) (none-forgets {D = ℕ} cells.byte (map_message cells.byte) s.ends.master.driver.queue.messages)
    where
      opened-with : Bool → Outcome ℕ
      opened-with none = done (map_state cells.byte (record (with_stream Slave (record s.ends.slave { opened = Open; head = new_head }) s) { enabled = enable_if (not none) (driver_of Master) s.enabled }))
  performed-forgets K caller Shut s = ap (λ (t : Carried ℕ (State ℕ)). takes t) (closed_at-forgets cells.byte caller.side s)
  performed-forgets K caller (Push name) s = ap (λ (t : Carried ℕ (State ℕ)). takes t) (push-forgets cells.byte K caller.side name s)
  performed-forgets K caller Pop s = ap (λ (t : Carried ℕ (State ℕ)). takes t) (pop-forgets cells.byte caller.side s)
  performed-forgets K caller Look s = ap (λ (name : Option ModuleName). name_answered name (map_state cells.byte s)) (top-forgets cells.byte caller.side s)
  performed-forgets K caller (Flush what band) s = ap (λ (t : Carried ℕ (State ℕ)). takes t) (flushed_on-forgets cells are K band caller.side what s)
  performed-forgets K caller (Write bytes) s = write-forgets K caller.side bytes s
  performed-forgets K caller (Read n) s = read_at-forgets caller.side n s
  performed-forgets K caller (Put prio control body) s =
      ap (λ (t : Carried ℕ (State ℕ)). record (takes t) { came = cells_of (message_put plain caller.side prio control body (map_state cells.byte s)) }) (put_at-forgets cells are K caller.side prio control body s)
      ∙ ap (λ (xs : List ℕ). record (map_outcome cells.byte (takes (put_at K cells caller.side prio control body s))) { came = xs }) (put_came-forgets cells are caller.side prio control body s)
  performed-forgets K caller (Get wanted cmax dmax) s = get_at-forgets caller.side wanted cmax dmax s
  performed-forgets K caller (Mode mode) s = ap (λ (t : State ℕ). done t) (mode-forgets cells.byte caller.side mode s)
  performed-forgets K caller Nread s = sizes-forgets cells.byte caller.side s
  performed-forgets K caller (Ioctl command body) s = at (asks_group caller.side command)
    where
      behind : Carried ℕ (State ℕ) → Outcome ℕ
      behind t = record (ioctl_told caller.side t.state) { gone = t.gone }

      sent : Carried C (State C)
      sent = ioctl_sent K cells caller.side command body s

      at : (group : Bool) → cond group (group_at caller.side command body (map_state cells.byte s)) (ioctl_at K plain caller.side command body (map_state cells.byte s))
          ≡ map_outcome cells.byte (cond group (group_at caller.side command body s) (ioctl_at K cells caller.side command body s))
      at true = group-forgets caller.side command body s
      at false =
          ap behind (sent-forgets cells are K caller.side command body s)
          ∙ ap (λ (o : Outcome ℕ). record o { gone = map (map_fate cells.byte) sent.gone }) (ioctl_told-forgets cells.byte caller.side sent.state)
  performed-forgets K caller (IoctlResult number) s = ioctl_told-forgets cells.byte caller.side s
  performed-forgets K caller events.Signals s = signals-forget cells.byte caller.side s

  pub call-forgets : (K : Behaviour) (caller : Caller) (asked : Request) (s : State C) → called K plain caller asked (map_state cells.byte s) ≡ map_outcome cells.byte (called K cells caller asked s)
  call-forgets K caller asked s =
      ap (λ v. or_stopped (stop_in v) (map_state cells.byte s) (performed K plain caller asked (map_state cells.byte s))) (hold-same cells.byte s caller asked)
      ∙ ap (λ (o : Outcome ℕ). or_stopped (stop_of s caller asked) (map_state cells.byte s) o) (performed-forgets K caller asked s)
      ∙ at (stop_of s caller asked)
    where
      at : (stop : Option StopSignal) → or_stopped stop (map_state cells.byte s) (map_outcome cells.byte (performed K cells caller asked s)) ≡ map_outcome cells.byte (or_stopped stop s (performed K cells caller asked s))
      at None = refl
      at (Some signal) = refl

  pub turn-forgets : (K : Behaviour) (name : QueueName) (turn : Turn) (s : State C) → turned K plain name turn (map_state cells.byte s) ≡ map_turn_outcome cells.byte (turned K cells name turn s)
  turn-forgets K name turn s = at name.place (record s { enabled = without name s.enabled })
    where
      at : (place : Place) (s : State C) → turned_at K plain place name turn (map_state cells.byte s) ≡ map_turn_outcome cells.byte (turned_at K cells place name turn s)
      at places.Driver s = driver_turned-forgets cells are K name.side s
      at places.Head s = refl
      at (places.Module owner) s = module_turned-forgets cells are K name turn s

  pub after-forgets : (K : Behaviour) (s : State C) (e : PlainEntry) → after K plain (map_state cells.byte s) e
      ≡ map_state cells.byte (after K cells s e)
  after-forgets K s (Called caller asked answer) = ap (λ (o : Outcome ℕ). o.state) (call-forgets K caller asked s)
  after-forgets K s (Turned name turn) = ap (λ (o : TurnOutcome ℕ). o.state) (turn-forgets K name turn s)

  pub replay-forgets : (K : Behaviour) (s : State C) (es : List PlainEntry) → replay K plain (map_state cells.byte s) es
      ≡ map_state cells.byte (replay K cells s es)
  replay-forgets K s [] = refl
  replay-forgets K s (e ∷ es) = ap (λ (t : State ℕ). replay K plain t es) (after-forgets K s e) ∙ replay-forgets K (after K cells s e) es
