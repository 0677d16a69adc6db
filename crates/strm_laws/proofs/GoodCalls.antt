-- A call on a pair of good streams leaves them good, where its band is one that queues have and nothing refuses it.
use Rattle.strm_laws.proofs.Prelude.{ℕ, suc, ◌≡◌, ◌≤◌, Bool, true, false, cond, List, [], ◌∷◌, length, map, refl, sym, ap, ◌∙◌, arith, false≢true}
use Rattle.strm_laws.proofs.Prelude.{and_parts, nat_tests, ◌||◌, not, nat_le, nat_lt, min, Option, None, Some, each-side}
use Rattle.strm_laws.specs.Prelude.{Caller, OpenMaster, OpenSlave, Shut, Push, Pop, Write, Read, Put, Get, Mode, IoctlResult, Signals, IOCTL_END}
use Rattle.strm_laws.specs.Prelude.{IOCTL_MAX, MODULES, READ_MAX, Prio, ModuleName, Open, Closed, QueueName, Side, Master, Slave, Down, Einval}
use Rattle.strm_laws.specs.Prelude.{Erange, Rule, EndClosed, Free, Waiting, Spot, Cells, cells_written, Carried, slot_dropped, of_all, queue_behind}
use Rattle.strm_laws.specs.Prelude.{Request, asked_of, flush_bytes, flush_message, get_queue, Head, head_put, new_head, asking, ioctl_message}
use Rattle.strm_laws.specs.Prelude.{asks_group, group_behind, is_body_kind, is_control_kind, Message, data_message, is_high_priority, is_part, stands}
use Rattle.strm_laws.specs.Prelude.{direction_from, is_open, mode_message, is_no_prio, is_too_long, put_message, put_refusal, read_queue, or_else}
use Rattle.strm_laws.specs.Prelude.{unless, slot_behind, chunk_count, chunks_of}
use Rattle.strm_types.specs.declared.events.Event.TheVariants.{Flush, Ioctl}
use Rattle.strm_types.specs.declared.modes.Mode as modes
use Rattle.strm_types.specs.declared.modes.Mode.TheVariants as chosen
use Rattle.strm_types.specs.declared.modes.Prio.TheVariants as prios
use Rattle.strm_laws.specs.Behaviours.{Behaviour}
use Rattle.strm_laws.specs.Calls.{group_at, ioctl_at, ioctl_begun, ioctl_called, ioctl_sent, message_put, mode_set, performed, put_at}
use Rattle.strm_laws.specs.Closes.{closed_at, driver_emptied, ended, head_emptied, hung_up_at, stream_emptied}
use Rattle.strm_laws.specs.Pushes.{all_taken, head_above, is_known, may_stand, module_named, named_by, pushed_named, top_taken, with_modules}
use Rattle.strm_laws.specs.Puts.{delivered, put_at_head}
use Rattle.strm_laws.specs.Refusals.{goes_down, is_numbered, refused_at_once, unfit}
use Rattle.strm_laws.specs.GoodMessages.{GoodMessage}
use Rattle.strm_laws.specs.Restorable.{GoodHead, GoodModules, GoodStream, IsBanded, IsWithinCall, stands_below}
use Rattle.strm_laws.specs.Stacked.{Standing, module_name}
use Rattle.strm_laws.specs.State.{State, Stream, book, opening, stream, with_driver_queue, with_head_queue, with_ioctl, with_stream}
use Rattle.strm_laws.specs.Writes.{Wrote, below_head, chunks_sent, is_full_below}
use Rattle.strm_laws.proofs.GoodHeads.{data-good, flush-good, ioctl-good, mode-good}
use Rattle.strm_laws.proofs.GoodQueues.{behind-good, new-good}
use Rattle.strm_laws.proofs.GoodReads.{get-good, read-good}
use Rattle.strm_laws.proofs.GoodStreams.{AreStreams, driver-queue-good, head-puts, open-head, streams-with}
use Rattle.strm_laws.proofs.GoodTurns.{delivered-streams}
use Rattle.strm_laws.proofs.PushHolds.{Survives, modules_emptied-holds, pop-holds, pushed-holds}
use Rattle.strm_laws.proofs.PutParts.{either-holds}
use Rattle.strm_laws.proofs.Replay.{fitting-met, or_else-none, unless-none}
use Rattle.strm_laws.proofs.StackOnce.{none-once, pop-once, push-once}
use Rattle.strm_laws.proofs.WriteSteps.{went}
use Rattle.strm_laws.proofs.LawfulKinds.{named-each, new}

under : (a b : ℕ) → nat_lt a b ≡ true → suc a ≤ b
under a b is = grind (arith, nat_tests)

most : (a b : ℕ) → nat_le a b ≡ true → a ≤ b
most a b is = grind (arith, nat_tests)

module _ {C : Type 0} where
  new-head : (side : Side) → GoodHead {C = C} side new_head
  new-head side = record { queue = new-good _ 5120 1024 (omega arith) (omega arith) (omega arith); group = λ is. refl }

  new-modules : GoodModules {C = C} []
  new-modules = record { each = tt; few = omega arith; once = none-once }

  -- a pair as it is made
  pub opening-good : AreStreams {C = C} opening
  opening-good = (each-side GoodStream opening.ends (new Master) (new Slave), omega arith, omega arith)
    where
      new : (side : Side) → GoodStream {C = C} side (stream side opening)
      new Master = record { head = new-head Master; modules = new-modules; driver = new-good _ 512 128 (omega arith) (omega arith) (omega arith); shut = λ closed. record { modules = refl; signals = refl; ioctl = refl; unread = refl } }
      new Slave = record { head = new-head Slave; modules = new-modules; driver = new-good _ 512 128 (omega arith) (omega arith) (omega arith); shut = λ closed. record { modules = refl; signals = refl; ioctl = refl; unread = refl } }

  -- an open side
  opens : (side : Side) (h : Head C) (s : State C) → is_open (stream side s).opened ≡ true → GoodHead side h → AreStreams s → AreStreams (with_stream side (record (stream side s) { head = h }) s)
  opens side h s is fits all = streams-with side (record (stream side s) { head = h }) s (open-head side h (stream side s) is fits (all.0 side)) all

  -- the modules of an open side
  abbrev OpenGood : Side → State C → Type 0
  OpenGood side s = AreStreams s × (is_open (stream side s).opened ≡ true)

  with-open : (side : Side) (t : Stream C) (s : State C) → is_open t.opened ≡ true → is_open (stream side (with_stream side t s)).opened ≡ true
  with-open Master t s is = is
  with-open Slave t s is = is

  head-open : (side : Side) (here : Spot) (m : Message C) (s : State C) → is_open (stream side s).opened ≡ true → is_open (stream side (put_at_head side here m s).state).opened ≡ true
  head-open side here m s is =
      let above = stream side s in
      either-holds (λ s. is_open (stream side s).opened ≡ true) (is_open above.opened) _ _ (with-open side (record above { head = (head_put here m above.head).state }) s is) is

  survives : (side : Side) → Survives side (OpenGood side) (GoodModules {C = C})
  survives side = record {
    named = λ names s all. all;
    apart = λ ps s good all. (
      streams-with side (record (stream side s) { modules = ps }) s
          (let t = all.0.0 side in record { head = t.head; modules = good; driver = t.driver; shut = λ closed. absurd (false≢true (sym closed ∙ all.1)) }) all.0,
      with-open side (record (stream side s) { modules = ps }) s all.1,
    );
    given = λ mode s all. ((head-puts side (head_above side) (mode_message mode false) s (mode-good mode false) all.0).state, head-open side (head_above side) (mode_message mode false) s all.1);
    good = λ s all. (all.0.0 side).modules;
    dropped = λ ms s all. (let t = stream side s in (opens side (record t.head { ioctl = slot_dropped ms t.head.ioctl }) s all.1 (let h = (all.0.0 side).head in record { queue = h.queue; group = h.group }) all.0, with-open side (record t { head = record t.head { ioctl = slot_dropped ms t.head.ioctl } }) s all.1));
    below = λ p ps good. record { each = good.each.1; few = omega (arith, good.few); once = pop-once (module_name p) (map module_name ps) good.once };
  }

  -- pushes and pops
  one-more : (K : Behaviour) (name : ModuleName) (ps : List (Standing C)) → is_known K name ≡ true → may_stand (Some (module_named K name)) ps ≡ true
      → GoodModules ps
      → GoodModules (module_named K name ∷ ps)
  one-more K name ps known may good = record {
    each = ((new K name).good known, good.each);
    few = under (length ps) MODULES (and_parts (nat_lt (length ps) MODULES) (not (stands module_name (module_name (module_named {C = C} K name)) ps)) may).0;
    once = push-once (module_named K name) ps may good.once;
  }

  push-streams : (K : Behaviour) (side : Side) (name : Option ModuleName) (s : State C) → may_stand (named_by K name) (stream side s).modules ≡ true → OpenGood side s → OpenGood side (pushed_named side (named_by K name) s).state
  push-streams K side None s may all = all
  push-streams K side (Some name) s may all =
      named-each K name (λ o. may_stand o (stream side s).modules ≡ true → OpenGood side (pushed_named side o s).state) (λ may. all)
      (λ known may.
      let good = one-more K name (stream side s).modules known may (all.0.0 side).modules in
      pushed-holds side (OpenGood side) GoodModules (survives side) (module_named K name) s good all)
      may

  -- closes: when all modules are taken, none is left
  pub with-get : (side : Side) (ps : List (Standing C)) (names : List QueueName) (s : State C) → (stream side (record (with_modules side ps s) { enabled = names })).modules ≡ ps
  with-get Master ps names s = refl
  with-get Slave ps names s = refl

  all-gone : (rule : Rule) (side : Side) (ps : List (Standing C)) (s : State C) → (stream side s).modules ≡ ps → (stream side (all_taken rule side ps s).state).modules ≡ []
  all-gone rule side [] s is = is
  all-gone rule side (p ∷ ps) s is = all-gone rule side ps (top_taken rule side (p ∷ ps) s).state (with-get side ps [] s)

  emptied-streams : (side : Side) (s : State C) → OpenGood side s → OpenGood side (stream_emptied side s).state
  emptied-streams side s all =
      let t = stream side s in
      let q = queue_behind of_all t.head.queue in
      let h = (all.0.0 side).head in
      modules_emptied-holds side (OpenGood side) GoodModules (survives side) EndClosed (head_emptied EndClosed of_all side s).state
      (opens side (record t.head { queue = q }) s all.1 (record { queue = behind-good _ of_all t.head.queue h.queue; group = h.group }) all.0, with-open side (with_head_queue q t) s all.1)

  emptied-gone : (side : Side) (s : State C) → (stream side (stream_emptied side s).state).modules ≡ []
  emptied-gone side s = let t = (head_emptied EndClosed of_all side s).state in all-gone EndClosed side (stream side t).modules t refl

  ended-streams : (side : Side) (s : State C) → (stream side s).modules ≡ [] → AreStreams s → AreStreams (ended side s)
  ended-streams side s none all =
      streams-with side (record (stream side s) { opened = Closed; head = new_head }) s
      (let t = all.0 side in record { head = new-head side; modules = t.modules; driver = t.driver; shut = λ closed. record { modules = none; signals = refl; ioctl = refl; unread = refl } }) all

  drivers-emptied : (side : Side) (s : State C) → AreStreams s → AreStreams (driver_emptied EndClosed of_all side s).state
  drivers-emptied side s all =
      let t = stream side s in
      streams-with side (with_driver_queue (queue_behind of_all t.driver.queue) t) s (driver-queue-good side (queue_behind of_all t.driver.queue) t (behind-good stands_below of_all t.driver.queue (all.0 side).driver) (all.0 side)) all

  hung-streams : (side : Side) (s : State C) → AreStreams s → AreStreams (hung_up_at side s)
  hung-streams side s all = at (is_open (stream side s).opened) refl
    where
      at : (is : Bool) → is_open (stream side s).opened ≡ is → let t = stream side s in AreStreams (cond is (with_stream side (record t { head = record t.head { hung_up = true } }) s) s)
      at true is = let t = stream side s in let h = (all.0 side).head in opens side (record t.head { hung_up = true }) s is (record { queue = h.queue; group = h.group }) all
      at false is = all

  close-streams : (side : Side) (s : State C) → OpenGood side s → AreStreams (closed_at side s).state
  close-streams Slave s all = ended-streams Slave (stream_emptied Slave s).state (emptied-gone Slave s) (emptied-streams Slave s all).0
  close-streams Master s all =
      let heads = (stream_emptied Master s).state in
      let one = (driver_emptied EndClosed of_all Master heads).state in
      let two = (driver_emptied EndClosed of_all Slave one).state in
      hung-streams Slave (ended Master two) (ended-streams Master two (emptied-gone Master s) (drivers-emptied Slave one (drivers-emptied Master heads (emptied-streams Master s all).0)))

  -- modes, reads and the ioctl under way
  mode-streams : (side : Side) (mode : modes.Mode) (s : State C) → OpenGood side s → AreStreams (mode_set side mode s)
  mode-streams side (chosen.Read mode) s all = let h = (all.0.0 side).head in opens side (record (stream side s).head { read_mode = mode }) s all.1 (record { queue = h.queue; group = h.group }) all.0
  mode-streams side (chosen.Control mode) s all = let h = (all.0.0 side).head in opens side (record (stream side s).head { control_mode = mode }) s all.1 (record { queue = h.queue; group = h.group }) all.0

  told-streams : (side : Side) (s : State C) → AreStreams s → AreStreams (with_ioctl side (slot_behind (stream side s).head.ioctl) s)
  told-streams side s all =
      let t = stream side s in
      let good = all.0 side in
      streams-with side (record t { head = record t.head { ioctl = slot_behind t.head.ioctl } }) s
      (record {
        head = record { queue = good.head.queue; group = good.head.group };
        modules = good.modules;
        driver = good.driver;
        shut = λ closed. (let was = good.shut closed in record { modules = was.modules; signals = was.signals; ioctl = ap (λ slot. slot_behind slot) was.ioctl; unread = was.unread });
      }) all

  signals-streams : (side : Side) (s : State C) → AreStreams s → AreStreams (with_stream side (record (stream side s) { head = record (stream side s).head { signals = [] } }) s)
  signals-streams side s all =
      let good = all.0 side in
      streams-with side (record (stream side s) { head = record (stream side s).head { signals = [] } }) s
      (record {
        head = record { queue = good.head.queue; group = good.head.group };
        modules = good.modules;
        driver = good.driver;
        shut = λ closed. (let was = good.shut closed in record { modules = was.modules; signals = refl; ioctl = was.ioctl; unread = was.unread });
      }) all

  begun-streams : (side : Side) (command : ℕ) (s : State C) → is_numbered s ≡ true → OpenGood side s → AreStreams (ioctl_begun side command s)
  begun-streams side command s numbered all =
      let h = (all.0.0 side).head in
      let begun = opens side (record (stream side s).head { ioctl = Waiting s.next_ioctl command }) s all.1 (record { queue = h.queue; group = h.group }) all.0 in
      (begun.0, omega arith, under s.next_ioctl IOCTL_END numbered)

  group-streams : (side : Side) (command : ℕ) (body : List ℕ) (s : State C) → asks_group side command ≡ true → is_numbered s ≡ true → OpenGood side s → AreStreams (group_at side command body s).state
  group-streams Master command body s asks numbered all = absurd (false≢true asks)
  group-streams Slave command body s asks numbered all =
      let h = (all.0.0 Slave).head in
      let set = opens Slave (record (stream Slave s).head { group = group_behind command body (stream Slave s).head.group; ioctl = Free }) s all.1 (record { queue = h.queue; group = λ is. absurd (false≢true is) }) all.0 in
      (set.0, omega arith, under s.next_ioctl IOCTL_END numbered)

  module _ (cells : Cells C) where
    -- a write
    went-streams : (full : Bool) (size : ℕ) (s : State C) (t : Carried C (State C)) (more : Wrote C) → AreStreams s → AreStreams more.state → AreStreams (went full size s t more).state
    went-streams true size s t more one two = one
    went-streams false size s t more one two = two

    chunks-streams : (K : Behaviour) (side : Side) (chunks : List (List C)) (s : State C) → AreStreams s
        → AreStreams (chunks_sent K cells side chunks s).state
    chunks-streams K side [] s all = all
    chunks-streams K side (chunk ∷ chunks) s all =
        let t = delivered K cells (below_head side) (data_message chunk) s in
        went-streams (is_full_below 0 side s) (length chunk) s t (chunks_sent K cells side chunks t.state) all
        (chunks-streams K side chunks t.state (delivered-streams cells K (below_head side) (data_message chunk) s (data-good chunk) all))

    -- a putmsg that isn't refused: high priority has a control part
    put-good : (prio : Prio) (control body : Option (List C)) → IsBanded prio → (is_part control || is_part body) ≡ true → is_no_prio prio control ≡ false → GoodMessage (put_message prio control body)
    unfolding is_control_kind is_body_kind is_high_priority
    put-good prios.High None body low some prio = absurd (false≢true (sym prio))
    put-good prios.High (Some xs) body low some prio = record {
      control = refl;
      body = λ is. absurd (false≢true is);
      bare = λ is. absurd (false≢true (sym is));
      plain = λ is. refl;
      band = omega arith;
      high = λ is. refl;
      header = λ is. absurd (false≢true is);
      options = λ is. absurd (false≢true is);
    }
    put-good (prios.Band band) (Some xs) body low some prio = record {
      control = refl;
      body = λ is. absurd (false≢true is);
      bare = λ is. absurd (false≢true (sym is));
      plain = λ is. refl;
      band = low;
      high = λ is. absurd (false≢true is);
      header = λ is. absurd (false≢true is);
      options = λ is. absurd (false≢true is);
    }
    put-good (prios.Band band) None body low some prio = record {
      control = refl;
      body = λ is. some;
      bare = λ is. absurd (false≢true (sym is));
      plain = λ is. refl;
      band = low;
      high = λ is. absurd (false≢true is);
      header = λ is. absurd (false≢true is);
      options = λ is. absurd (false≢true is);
    }

    abbrev below : Side → Spot
    below side = record { side = side; at = 1; way = Down }

    -- it sees only whether there is a control part
    same-prio : (prio : Prio) (a : Option (List ℕ)) (b : Option (List C)) → is_part a ≡ is_part b → is_no_prio prio a ≡ false → is_no_prio prio b ≡ false
    same-prio prios.High a b same right = sym (ap (λ there. not there) same) ∙ right
    same-prio (prios.Band band) a b same right = right

    put-streams : (K : Behaviour) (side : Side) (prio : Prio) (control body : Option (List ℕ)) (s : State C) → IsBanded prio → is_no_prio prio control ≡ false → AreStreams s → AreStreams (put_at K cells side prio control body s).state
    put-streams K side prio None None s low right all = all
    put-streams K side prio None (Some xs) s low right all =
        delivered-streams cells K (below side) (message_put cells side prio None (Some xs) s) s (put-good prio None _ low refl (same-prio prio None None refl right)) all
    put-streams K side prio (Some ys) body s low right all =
        delivered-streams cells K (below side) (message_put cells side prio (Some ys) body s) s (put-good prio _ _ low refl (same-prio prio (Some ys) (Some (cells_written cells (direction_from side) (book (direction_from side) s).written ys)) refl right)) all

    -- its arguments are right
    prio-right : (prio : Prio) (control body : Option (List ℕ)) → put_refusal prio control body ≡ None → is_no_prio prio control ≡ false
    prio-right prio control body none = at (is_no_prio prio control) (is_too_long control body) none
      where
        at : (wrong long : Bool) → cond wrong (Some Einval) (cond long (Some Erange) None) ≡ None → wrong ≡ false
        at false long none = refl
        at true long none = absurd (cc none)

    short-right : (body : List ℕ) → unless (nat_le (length body) IOCTL_MAX) Erange ≡ None → length body ≤ IOCTL_MAX
    short-right body none = most (length body) IOCTL_MAX (unless-none (nat_le (length body) IOCTL_MAX) Erange none)

    goes-open : (side : Side) (s : State C) → goes_down side s ≡ true → is_open (stream side s).opened ≡ true
    goes-open side s is = (and_parts (is_open (stream side s).opened) (not (stream side s).head.hung_up) is).0

    sent-streams : (K : Behaviour) (side : Side) (command : ℕ) (body : List ℕ) (s : State C) → length body ≤ IOCTL_MAX → is_numbered s ≡ true → OpenGood side s → AreStreams (ioctl_sent K cells side command body s).state
    sent-streams K side command body s few numbered all =
        delivered-streams cells K (below side) (ioctl_message (asking command s.next_ioctl) body) (ioctl_begun side command s) (ioctl-good (asking command s.next_ioctl) body few) (begun-streams side command s numbered all)

    ioctl-streams : (K : Behaviour) (side : Side) (command : ℕ) (body : List ℕ) (s : State C) → length body ≤ IOCTL_MAX → is_numbered s ≡ true → OpenGood side s → AreStreams (ioctl_called K cells side command body s).state
    ioctl-streams K side command body s few numbered all = at (asks_group side command) refl
      where
        at : (group : Bool) → asks_group side command ≡ group → AreStreams (cond group (group_at side command body s) (ioctl_at K cells side command body s)).state
        at true asks = group-streams side command body s asks numbered all
        at false asks = told-streams side (ioctl_sent K cells side command body s).state (sent-streams K side command body s few numbered all)

    pub call-streams : (K : Behaviour) (caller : Caller) (asked : Request) (s : State C) → IsWithinCall asked → or_else (refused_at_once s caller asked) (unfit K s caller asked) ≡ None → AreStreams s → AreStreams (performed K cells caller asked s).state
    call-streams K caller OpenMaster s low allowed all =
        streams-with Master (record (stream Master s) { opened = Open }) s
        (let t = all.0 Master in record { head = t.head; modules = t.modules; driver = t.driver; shut = λ closed. absurd (false≢true (sym closed)) }) all
    call-streams K caller OpenSlave s low allowed all =
        streams-with Slave (record (stream Slave s) { opened = Open; head = new_head }) s
        (let t = all.0 Slave in record { head = new-head Slave; modules = t.modules; driver = t.driver; shut = λ closed. absurd (false≢true (sym closed)) }) all
    call-streams K caller Shut s low allowed all = close-streams caller.side s (all, (fitting-met K s caller Shut allowed).reached)
    call-streams K caller (Push name) s low allowed all =
        let may = unless-none (may_stand (named_by K name) (stream caller.side s).modules) Einval (or_else-none (refused_at_once s caller (Push name)) _ allowed).1 in
        (push-streams K caller.side name s may (all, goes-open caller.side s (fitting-met K s caller (Push name) allowed).reached)).0
    call-streams K caller Pop s low allowed all =
        (pop-holds caller.side (OpenGood caller.side) GoodModules (survives caller.side) s (all, goes-open caller.side s (fitting-met K s caller Pop allowed).reached)).0
    call-streams K caller (Flush what band) s low allowed all = delivered-streams cells K (below caller.side) (flush_message (flush_bytes (asked_of what band))) s (flush-good (flush_bytes (asked_of what band))) all
    call-streams K caller (Write bytes) s low allowed all =
        let dir = direction_from caller.side in
        let xs = cells_written cells dir (book dir s).written bytes in
        chunks-streams K caller.side (chunks_of (chunk_count (length xs)) xs) s all
    call-streams K caller (Read n) s low allowed all =
        let h = (stream caller.side s).head in
        let good = (all.0 caller.side).head in
        opens caller.side (record h { queue = read_queue h.read_mode h.control_mode (min n READ_MAX) h.queue }) s (fitting-met K s caller (Read n) allowed).reached
        (record { queue = read-good h.read_mode h.control_mode (min n READ_MAX) h.queue good.queue; group = good.group }) all
    call-streams K caller (Put prio control body) s low allowed all =
        put-streams K caller.side prio control body s low (prio-right prio control body (fitting-met K s caller (Put prio control body) allowed).right) all
    call-streams K caller (Get wanted cmax dmax) s low allowed all =
        let h = (stream caller.side s).head in
        let good = (all.0 caller.side).head in
        opens caller.side (record h { queue = get_queue wanted (min cmax READ_MAX) (min dmax READ_MAX) h.queue }) s (fitting-met K s caller (Get wanted cmax dmax) allowed).reached
        (record { queue = get-good wanted (min cmax READ_MAX) (min dmax READ_MAX) h.queue good.queue; group = good.group }) all
    call-streams K caller (Mode mode) s low allowed all = mode-streams caller.side mode s (all, (fitting-met K s caller (Mode mode) allowed).reached)
    call-streams K caller (Ioctl command body) s low allowed all =
        let met = fitting-met K s caller (Ioctl command body) allowed in
        ioctl-streams K caller.side command body s (short-right body met.right) met.numbered (all, goes-open caller.side s met.reached)
    call-streams K caller (IoctlResult number) s low allowed all = told-streams caller.side s all
    call-streams K caller Signals s low allowed all = signals-streams caller.side s all
    call-streams K caller _ s low allowed all = all
