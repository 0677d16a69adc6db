-- What holds of each stream of a pair holds behind each call, turn and step, where it holds of a stream that changes as steps change it.
use Rattle.strm_laws.proofs.Prelude.{ℕ, ◌≡◌, ◌==◌, ◌||◌, Bool, true, false, cond, List, [], ◌∷◌, refl, subst, sym, arith, Option, None, Some, min}
use Rattle.strm_laws.proofs.Prelude.{set-all}
use Rattle.strm_laws.specs.Prelude.{Turn, Called, Turned, Caller, OpenMaster, OpenSlave, Shut, Push, Pop, Write, Read, Put, Get, Mode, IoctlResult}
use Rattle.strm_laws.specs.Prelude.{Signals, READ_MAX, ControlMode, Prio, ReadMode, ModuleName, Openness, Open, Closed, QueueName, Side, Master}
use Rattle.strm_laws.specs.Prelude.{Slave, Way, Up, Down, EndClosed, Free, Waiting, Spot, AllSides, Cells, cells_written, Took, of_all, queue_behind}
use Rattle.strm_laws.specs.Prelude.{Request, asked_of, flush_bytes, flush_message, get_queue, head_put, new_head, asking, ioctl_message, asks_group}
use Rattle.strm_laws.specs.Prelude.{group_behind, PlainEntry, Message, with_waiting, direction_from, is_open, mode_message, Queue, read_queue}
use Rattle.strm_laws.specs.Prelude.{PlainSlot, Wanted, slot_behind}
use Rattle.strm_types.specs.declared.events.Event.TheVariants.{Flush, Ioctl}
use Rattle.strm_types.specs.declared.modes.Mode as modes
use Rattle.strm_types.specs.declared.modes.Mode.TheVariants as chosen
use Rattle.strm_laws.specs.Behaviours.{Behaviour}
use Rattle.strm_laws.specs.Calls.{Outcome, called, group_at, ioctl_begun, ioctl_sent, message_put, mode_set, performed, put_at}
use Rattle.strm_laws.specs.Closes.{closed_at, driver_emptied, ended, head_emptied, hung_up_at, stream_emptied}
use Rattle.strm_laws.specs.Pushes.{head_above, is_known, module_named, named_by, popped, pushed_named}
use Rattle.strm_laws.specs.Puts.{delivered, put_at_head}
use Rattle.strm_laws.specs.Stacked.{Standing}
use Rattle.strm_laws.specs.State.{State, Stream, book, stream, with_driver_queue, with_head_queue, with_ioctl, with_stream}
use Rattle.strm_laws.specs.Step.{Step, after}
use Rattle.strm_laws.specs.Turns.{turned, with_driver}
use Rattle.strm_laws.proofs.EmptiedKeeps.{behind-none}
use Rattle.strm_laws.proofs.PushHolds.{Survives, modules_emptied-holds, pop-holds, pushed-holds}
use Rattle.strm_laws.proofs.PutParts.{Stays, waiting}
use Rattle.strm_laws.proofs.Replay.{after-step}
use Rattle.strm_laws.proofs.Stopping.{of-called}
use Rattle.strm_laws.proofs.TurnHolds.{Turns, turns-stay}
use Rattle.strm_laws.proofs.WithinHeads.{Fits, behind-fits, dropped-fits}
use Rattle.strm_laws.proofs.WriteSteps.{cells_sent-holds}
use Rattle.strm_laws.proofs.LawfulKinds.{named-each}

-- the place below a side's head
abbrev below : Side → Spot
below side = record { side = side; at = 1; way = Down }

-- of an empty queue a reader takes nothing
module _ {C : Type 0} (q : Queue C) (none : q.messages ≡ []) where
  read-none : (read : ReadMode) (control : ControlMode) (n : ℕ) → (read_queue read control n q).messages ≡ []
  read-none read control n =
      subst (λ ms. (read_queue read control n (record q { messages = ms })).messages ≡ []) (sym none) (at (n == 0) _)
    where
      at : (nothing : Bool) (other : Queue C) → (cond (nothing || true) (record q { messages = [] }) other).messages ≡ []
      at true other = refl
      at false other = refl

  get-none : (wanted : Wanted) (most_control most_data : ℕ) → (get_queue wanted most_control most_data q).messages ≡ []
  get-none wanted most_control most_data =
      subst (λ ms. (get_queue wanted most_control most_data (record q { messages = ms })).messages ≡ []) (sym none) refl

module _ {C : Type 0} (P : Side → Stream C → Type 0) where
  abbrev pub OfEach : State C → Type 0
  OfEach s = AllSides P s.ends

  -- It holds of a stream that changes so: at its head, at its driver, or in its modules, which are of a kind.
  pub record Changes (K : Behaviour) (Good : List (Standing C) → Type 0) : Type 0 where
    pub put : (side : Side) (here : Spot) (m : Message C) (t : Stream C) → is_open t.opened ≡ true → P side t → P side (record t { head = (head_put here m t.head).state })
    pub queue : (side : Side) (q : Queue C) (t : Stream C) → (is_open t.opened ≡ false → t.head.queue.messages ≡ [] → q.messages ≡ []) → P side t → P side (with_head_queue q t)
    pub settings : (side : Side) (read : ReadMode) (control : ControlMode) (group : ℕ) (hung_up : Bool) (t : Stream C) → P side t
        → P side (record t { head = record t.head { read_mode = read; control_mode = control; group = group; hung_up = hung_up } })
    pub slot : (side : Side) (slot : PlainSlot) (t : Stream C) → (Fits t.head.ioctl → Fits slot) → P side t → P side (record t { head = record t.head { ioctl = slot } })
    pub handed : (side : Side) (t : Stream C) → P side t → P side (record t { head = record t.head { signals = [] } })
    pub opened : (side : Side) (t : Stream C) → P side t → P side (record t { opened = Open })
    pub anew : (side : Side) (opened : Openness) (t : Stream C) → P side t → P side (record t { opened = opened; head = new_head })
    pub driver : (side : Side) (q : Queue C) (t : Stream C) → P side t → P side (with_driver_queue q t)
    pub modules : (side : Side) (ps : List (Standing C)) (t : Stream C) → Good ps → P side t → P side (record t { modules = ps })
    pub good : (side : Side) (t : Stream C) → P side t → Good t.modules
    pub below : (p : Standing C) (ps : List (Standing C)) → Good (p ∷ ps) → Good ps
    pub above : (name : ModuleName) (ps : List (Standing C)) → is_known K name ≡ true → Good ps → Good (module_named K name ∷ ps)

  module _ (K : Behaviour) (Good : List (Standing C) → Type 0) (changes : Changes K Good) where
    changed : (side : Side) (t : Stream C) (s : State C) → (P side (stream side s) → P side t) → OfEach s → OfEach (with_stream side t s)
    changed side t s keeps all = set-all P side t s.ends (keeps (all side)) all

    open-holds : (b : Bool) (one another : Took C (State C)) → (b ≡ true → OfEach one.state) → OfEach another.state → OfEach (cond b one another).state
    open-holds true one another first second = first refl
    open-holds false one another first second = second

    -- puts
    pub head-each : (side : Side) (here : Spot) (m : Message C) (s : State C) → OfEach s → OfEach (put_at_head side here m s).state
    head-each side here m s all =
        let t = stream side s in
        open-holds (is_open t.opened) _ _ (λ is. changed side (record t { head = (head_put here m t.head).state }) s (λ holds. changes.put side here m t is holds) all) all

    pub driver-each : (side : Side) (q : Queue C) (s : State C) → OfEach s → OfEach (with_driver side q s)
    driver-each side q s all = changed side (with_driver_queue q (stream side s)) s (λ holds. changes.driver side q (stream side s) holds) all

    -- and where any modules may stand, deliveries and turns
    module _ (any : (ps : List (Standing C)) → Good ps) where
      pub each-stays : Stays OfEach
      each-stays = record {
        head = head-each;
        driver = λ side here m s all. driver-each side _ s all;
        modules = λ side ps s same all.
            changed side (record (stream side s) { modules = ps }) s (λ holds. changes.modules side ps (stream side s) (any ps) holds) all;
        names = λ names s all. all;
        books = λ dir n s all. all;
        waits = waits;
      }
        where
          waits : (side : Side) (way : Way) (band : ℕ) (s : State C) → OfEach s → OfEach (waiting side way band s)
          waits side Up band s all =
              let t = stream side s in
              let q = with_waiting band t.head.queue in
              changed side (with_head_queue q t) s (λ holds. changes.queue side q t (λ closed none. none) holds) all
          waits side Down band s all = driver-each side (with_waiting band (stream side s).driver.queue) s all

      pub each-turns : Turns K OfEach
      each-turns = turns-stay K OfEach driver-each each-stays

    -- the ioctl under way
    slot-each : (side : Side) (slot : PlainSlot) (s : State C) → (Fits (stream side s).head.ioctl → Fits slot) → OfEach s → OfEach (with_ioctl side slot s)
    slot-each side slot s fits all = changed side _ s (λ holds. changes.slot side slot (stream side s) fits holds) all

    -- pushes and pops
    survives : (side : Side) → Survives side OfEach Good
    survives side = record {
      named = λ names s all. all;
      apart = λ ps s good all. changed side (record (stream side s) { modules = ps }) s (λ holds. changes.modules side ps (stream side s) good holds) all;
      given = λ mode s all. head-each side (head_above side) (mode_message mode false) s all;
      good = λ s all. changes.good side (stream side s) (all side);
      dropped = λ ms s all. slot-each side _ s (λ fits. dropped-fits ms (stream side s).head.ioctl fits) all;
      below = changes.below;
    }

    push-each : (side : Side) (name : Option ModuleName) (s : State C) → OfEach s → OfEach (pushed_named side (named_by K name) s).state
    push-each side None s all = all
    push-each side (Some name) s all =
        let ps = (stream side s).modules in
        named-each K name (λ o. OfEach (pushed_named side o s).state) all
        (λ known.
        let good = changes.above name ps known (changes.good side (stream side s) (all side)) in
        pushed-holds side OfEach Good (survives side) (module_named K name) s good all)

    pop-each : (side : Side) (s : State C) → OfEach s → OfEach (popped side s).state
    pop-each side s all = pop-holds side OfEach Good (survives side) s all

    -- closes
    emptied-each : (side : Side) (s : State C) → OfEach s → OfEach (stream_emptied side s).state
    emptied-each side s all =
        let t = stream side s in
        let q = queue_behind of_all t.head.queue in
        modules_emptied-holds side OfEach Good (survives side) EndClosed (head_emptied EndClosed of_all side s).state
        (changed side (with_head_queue q t) s (λ holds. changes.queue side q t (λ closed none. behind-none of_all t.head.queue none) holds) all)

    ended-each : (side : Side) (s : State C) → OfEach s → OfEach (ended side s)
    ended-each side s all = changed side (record (stream side s) { opened = Closed; head = new_head }) s (λ holds. changes.anew side Closed (stream side s) holds) all

    hung_up-each : (side : Side) (s : State C) → OfEach s → OfEach (hung_up_at side s)
    hung_up-each side s all = at (is_open (stream side s).opened)
      where
        at : (opened : Bool) → let t = stream side s in OfEach (cond opened (with_stream side (record t { head = record t.head { hung_up = true } }) s) s)
        at true = let t = stream side s in changed side _ s (λ holds. changes.settings side t.head.read_mode t.head.control_mode t.head.group true t holds) all
        at false = all

    close-each : (side : Side) (s : State C) → OfEach s → OfEach (closed_at side s).state
    close-each Slave s all = ended-each Slave (stream_emptied Slave s).state (emptied-each Slave s all)
    close-each Master s all =
        let heads = (stream_emptied Master s).state in
        let one = (driver_emptied EndClosed of_all Master heads).state in
        let both = (driver_emptied EndClosed of_all Slave one).state in
        hung_up-each Slave (ended Master both) (ended-each Master both (driver-each Slave _ one (driver-each Master _ heads (emptied-each Master s all))))

    mode-each : (side : Side) (mode : modes.Mode) (s : State C) → OfEach s → OfEach (mode_set side mode s)
    mode-each side (chosen.Read mode) s all = let t = stream side s in changed side _ s (λ holds. changes.settings side mode t.head.control_mode t.head.group t.head.hung_up t holds) all
    mode-each side (chosen.Control mode) s all = let t = stream side s in changed side _ s (λ holds. changes.settings side t.head.read_mode mode t.head.group t.head.hung_up t holds) all

    -- what a reader takes, which is nothing where nothing stands
    taken-each : (side : Side) (q : Queue C) (s : State C) → ((stream side s).head.queue.messages ≡ [] → q.messages ≡ []) → OfEach s
        → OfEach (with_stream side (with_head_queue q (stream side s)) s)
    taken-each side q s empty all = changed side _ s (λ holds. changes.queue side q (stream side s) (λ closed. empty) holds) all

    pub begun-each : (side : Side) (command : ℕ) (s : State C) → OfEach s → OfEach (ioctl_begun side command s)
    begun-each side command s all = slot-each side (Waiting s.next_ioctl command) s (λ fits. omega arith) all

    -- a group that is told or set, where none is under way behind it
    group-each : (side : Side) (command : ℕ) (body : List ℕ) (s : State C) → OfEach s → OfEach (group_at side command body s).state
    group-each side command body s all =
        let t = stream side s in
        changed side _ s (λ holds. changes.slot side Free _ (λ fits. omega arith) (changes.settings side t.head.read_mode t.head.control_mode (group_behind command body t.head.group) t.head.hung_up t holds)) all

    told-each : (side : Side) (s : State C) → OfEach s → OfEach (with_ioctl side (slot_behind (stream side s).head.ioctl) s)
    told-each side s all = slot-each side _ s (λ fits. behind-fits (stream side s).head.ioctl) all

    module _ (cells : Cells C) (given : (to : Spot) (m : Message C) (s : State C) → OfEach s → OfEach (delivered K cells to m s).state) where
      put-each : (side : Side) (prio : Prio) (control body : Option (List ℕ)) (s : State C) → OfEach s → OfEach (put_at K cells side prio control body s).state
      put-each side prio None None s all = all
      put-each side prio None (Some xs) s all = given (below side) (message_put cells side prio None (Some xs) s) s all
      put-each side prio (Some xs) body s all = given (below side) (message_put cells side prio (Some xs) body s) s all

      call-each : (caller : Caller) (asked : Request) (s : State C) → OfEach s → OfEach (performed K cells caller asked s).state
      call-each caller OpenMaster s all = changed Master _ s (λ holds. changes.opened Master (stream Master s) holds) all
      call-each caller OpenSlave s all = changed Slave _ s (λ holds. changes.anew Slave Open (stream Slave s) holds) all
      call-each caller Shut s all = close-each caller.side s all
      call-each caller (Push name) s all = push-each caller.side name s all
      call-each caller Pop s all = pop-each caller.side s all
      call-each caller (Flush what band) s all = given (below caller.side) (flush_message (flush_bytes (asked_of what band))) s all
      call-each caller (Write bytes) s all =
          let dir = direction_from caller.side in
          cells_sent-holds K cells OfEach given caller.side (cells_written cells dir (book dir s).written bytes) s all
      call-each caller (Read n) s all =
          let h = (stream caller.side s).head in
          let most = min n READ_MAX in
          taken-each caller.side (read_queue h.read_mode h.control_mode most h.queue) s
          (λ none. read-none h.queue none h.read_mode h.control_mode most) all
      call-each caller (Put prio control body) s all = put-each caller.side prio control body s all
      call-each caller (Get wanted cmax dmax) s all =
          let q = (stream caller.side s).head.queue in
          taken-each caller.side (get_queue wanted (min cmax READ_MAX) (min dmax READ_MAX) q) s
          (λ none. get-none q none wanted (min cmax READ_MAX) (min dmax READ_MAX)) all
      call-each caller (Mode mode) s all = mode-each caller.side mode s all
      call-each caller (Ioctl command body) s all =
          either (asks_group caller.side command) _ _ (group-each caller.side command body s all)
          (told-each caller.side (ioctl_sent K cells caller.side command body s).state
          (given (below caller.side) (ioctl_message (asking command s.next_ioctl) body) (ioctl_begun caller.side command s) (begun-each caller.side command s all)))
        where
          either : (group : Bool) (one another : Outcome C) → OfEach one.state → OfEach another.state → OfEach (cond group one another).state
          either true one another first second = first
          either false one another first second = second
      call-each caller (IoctlResult number) s all = told-each caller.side s all
      call-each caller Signals s all = changed caller.side _ s (λ holds. changes.handed caller.side (stream caller.side s) holds) all
      call-each caller _ s all = all

      pub called-each : (caller : Caller) (asked : Request) (s : State C) → OfEach s → OfEach (called K cells caller asked s).state
      called-each caller asked s all =
          of-called K cells caller asked s (λ outcome. OfEach outcome.state) (λ signal. all) (call-each caller asked s all)

      module _ (turns : (name : QueueName) (turn : Turn) (s : State C) → OfEach s → OfEach (turned K cells name turn s).state) where
        -- an entry of a journal, and a step
        pub after-each : (s : State C) (entry : PlainEntry) → OfEach s → OfEach (after K cells s entry)
        after-each s (Called caller asked answer) all = called-each caller asked s all
        after-each s (Turned name turn) all = turns name turn s all

        pub step-each : (old new : State C) (entry : PlainEntry) → OfEach old → Step K cells old entry new → OfEach new
        step-each old new entry all step = subst (λ s. OfEach s) (after-step K cells old new entry step) (after-each old entry all)
