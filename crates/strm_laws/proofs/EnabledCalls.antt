-- Over a call enabled queues exist, and none is enabled twice: those of a module that is taken off go with it (streamio(7I): I_PUSH, I_POP; close(2)).
use Rattle.strm_laws.proofs.Prelude.{ℕ, ◌≡◌, Bool, true, false, cond, List, [], ◌∷◌, map, refl, sym, subst, ap, ◌∙◌, false≢true, ◌&&◌, ◌||◌, not, min}
use Rattle.strm_laws.proofs.Prelude.{slice_index_or, Option, None, Some, once-without}
use Rattle.strm_laws.specs.Prelude.{Caller, OpenMaster, OpenSlave, Shut, Push, Pop, Write, Read, Put, Get, Mode, IoctlResult, Signals, READ_MAX, Prio}
use Rattle.strm_laws.specs.Prelude.{ReadMode, ModuleName, Open, Closed, Place, Driver, QueueName, Side, Master, Slave, Way, Up, Down, Rule}
use Rattle.strm_laws.specs.Prelude.{EndClosed, ModulePopped, Spot, Free, Cells, cells_written, of_all, queue_behind, writer_goes, Request, asked_of}
use Rattle.strm_laws.specs.Prelude.{flush_bytes, flush_message, get_lets_go, get_queue, new_head, asking, ioctl_message, asks_group, group_behind}
use Rattle.strm_laws.specs.Prelude.{Message, has_queues, without_module, direction_from, driver_of, enable_some, have_queues, is_open, place_of}
use Rattle.strm_laws.specs.Prelude.{same_module}
use Rattle.strm_laws.specs.Prelude.{same_place}
use Rattle.strm_laws.specs.Prelude.{same_queue, same_side, same_way, without, mode_message, is_none_left, read_lets_go, read_queue, slot_behind}
use Rattle.std.specs.List.{AllByRecursion, list_any}
use Rattle.strm_types.specs.declared.events.Event.TheVariants.{Flush, Ioctl}
use Rattle.strm_types.specs.declared.modes.Mode as modes
use Rattle.strm_types.specs.declared.modes.Mode.TheVariants as chosen
use Rattle.strm_types.specs.declared.names.Place.TheVariants.{Head}
use Rattle.strm_types.specs.declared.names.Place.TheVariants as places
use Rattle.strm_laws.specs.Behaviours.{Behaviour}
use Rattle.strm_laws.specs.Calls.{group_at, ioctl_at, ioctl_begun, ioctl_called, ioctl_sent, message_put, mode_set, performed, put_at}
use Rattle.strm_laws.specs.Closes.{closed_at, driver_emptied, ended, head_emptied, hung_up_at, stream_emptied}
use Rattle.strm_laws.specs.Earlier.{before_at, before_driver, before_head, driver_place, places_of, queue_named}
use Rattle.strm_laws.specs.Pushes.{all_taken, enable_waiting, head_above, let_come, messages_on, mode_behind, mode_on_push, mode_put, named_by, popped, pushed, pushed_named, top_on, top_taken, with_modules}
use Rattle.strm_laws.specs.Puts.{delivered, earlier_at, noted}
use Rattle.strm_laws.specs.Restorable.{AreEnabled, IsThere, is_there_among}
use Rattle.strm_laws.specs.StackCosts.{Stands, stands_of, stands_on}
use Rattle.strm_laws.specs.Stacked.{Standing, module_name}
use Rattle.strm_laws.specs.State.{State, Stream, book, stream, with_driver_queue, with_head_queue, with_ioctl, with_stream}
use Rattle.strm_types.proofs.EnabledNames.{same_module-self, same_module-sound}
use Rattle.strm_laws.proofs.EnabledExist.{MayBe, any-noted, before-there, if-there, index-there, more-among, noted-there, some-there}
use Rattle.strm_laws.proofs.EnabledPuts.{Enabled, delivered-enabled, head-enabled, stream-enabled}
use Rattle.strm_laws.proofs.GoodCalls.{with-get}
use Rattle.strm_laws.proofs.PushForgets.{clears}
use Rattle.strm_laws.proofs.WriteSteps.{cells_sent-holds}

-- a module more
each-more : (all both : Stands) → ((n : QueueName) → IsThere all n → IsThere both n) → (ns : List QueueName) → AllByRecursion (λ n. IsThere all n) ns → AllByRecursion (λ n. IsThere both n) ns
each-more all both more [] each = tt
each-more all both more (n ∷ ns) each = (more n each.0, each-more all both more ns each.1)

-- names without one of them
all-but : (P Q : QueueName → Type 0) (name : QueueName) → ((n : QueueName) → P n → same_queue n name ≡ false → Q n) → (ns : List QueueName) → AllByRecursion P ns → AllByRecursion Q (without name ns)
all-but P Q name so [] each = tt
all-but P Q name so (n ∷ ns) each = at (same_queue n name) refl (all-but P Q name so ns each.1)
  where
    at : (same : Bool) → same_queue n name ≡ same → AllByRecursion Q (without name ns) → AllByRecursion Q (cond (not same) (n ∷ without name ns) (without name ns))
    at true same more = more
    at false same more = (so n each.0 same, more)

-- a module's queue, by its name
abbrev queue_of : Side → ModuleName → Way → QueueName
queue_of side name way = record { side = side; place = places.Module name; way = way }

-- a name that compares with none of another module's queues
apart : (m name : ModuleName) (way : Way) → (true && same_module m name && same_way way way) ≡ false → same_module name m ≡ false
apart m name way differs = at (same_module name m) refl
  where
    alike : (way : Way) → same_way way way ≡ true
    alike Up = refl
    alike Down = refl

    at : (same : Bool) → same_module name m ≡ same → same_module name m ≡ false
    at false is = is
    at true is =
        let one = subst (λ n. same_module n name ≡ true) (same_module-sound name m is) (same_module-self name) in
        absurd (false≢true (sym differs ∙ (ap (λ b. b && same_way way way) one ∙ alike way)))

-- a queue of another module is there without the one on top
below-top : (m name : ModuleName) (ns : List ModuleName) → same_module name m ≡ false → (have_queues m && list_any (λ n. same_module n m) (name ∷ ns)) ≡ true
    → (have_queues m && list_any (λ n. same_module n m) ns) ≡ true
below-top m name ns differs is = sym (ap (λ b. have_queues m && (b || list_any (λ n. same_module n m) ns)) differs) ∙ is

module _ {C : Type 0} where
  abbrev pub Named : State C → Type 0
  Named s = AreEnabled (stands_of s) s.enabled

  pub named-of : (all : Stands) (s : State C) → Enabled all s → Named s
  named-of all s is = subst (λ a. AreEnabled a s.enabled) (sym is.0) is.1

  grown : (side : Side) (p : Standing C) (s : State C) (n : QueueName) → IsThere (stands_of s) n → IsThere (stands_of (with_modules side (p ∷ (stream side s).modules) s)) n
  grown side p s n is = at side n.side is
    where
      at : (side of : Side) → is_there_among n.place n.way (stands_on of (stands_of s)) ≡ true → is_there_among n.place n.way (stands_on of (stands_of (with_modules side (p ∷ (stream side s).modules) s))) ≡ true
      at Master Master is = more-among n.place n.way (module_name p) (map module_name (stream Master s).modules) is
      at Slave Slave is = more-among n.place n.way (module_name p) (map module_name (stream Slave s).modules) is
      at Master Slave is = is
      at Slave Master is = is

  mode-enabled : (all : Stands) (side : Side) (mode : Option ReadMode) (s : State C) → Enabled all s → Enabled all (mode_put side mode s).state
  mode-enabled all side None s is = is
  mode-enabled all side (Some mode) s is = head-enabled all side (head_above side) (mode_message mode false) s is

  come-enabled : (all : Stands) (reads : Bool) (side : Side) (s : State C) → Enabled all s → Enabled all (let_come reads side s)
  come-enabled all false side s is = is
  come-enabled all true side s is = (is.0, at (before_at side Up 1 s) (before-there all s is.0 side Up 1))
    where
      at : (o : Option QueueName) → MayBe all o → AreEnabled all (enable_waiting o s)
      at None may = is.1
      at (Some name) may = if-there all (not (is_none_left (messages_on name s))) name s.enabled may is.1

  pushed-named : (side : Side) (p : Standing C) (s : State C) → Named s → Named (pushed side p s).state
  pushed-named side p s are =
      let on = with_modules side (p ∷ (stream side s).modules) s in
      let both = stands_of on in
      let first : Enabled both on = (refl, record { once = are.once; there = each-more (stands_of s) both (λ n is. grown side p s n is) s.enabled are.there }) in
      let mode = mode_on_push (module_name p) in
      let told = mode-enabled both side mode on first in
      named-of both (pushed side p s).state (come-enabled both (has_queues p) side (mode_put side mode on).state told)

  push-named : (side : Side) (p : Option (Standing C)) (s : State C) → Named s → Named (pushed_named side p s).state
  push-named side None s are = are
  push-named side (Some p) s are = pushed-named side p s are

  -- what is left where the module on top is taken off
  abbrev left : Side → List (Standing C) → State C → Stands
  left side ps s = stands_of (with_modules side ps s)

  -- a queue that isn't one of that module
  still-there : (side : Side) (p : Standing C) (ps : List (Standing C)) (s : State C) → (stream side s).modules ≡ p ∷ ps → (n : QueueName) → IsThere (stands_of s) n
      → same_queue n (queue_of side (module_name p) Up) ≡ false → same_queue n (queue_of side (module_name p) Down) ≡ false → IsThere (left side ps s) n
  still-there side p ps s top n is up down = at side n.side n.place n.way top is up down
    where
      name : ModuleName
      name = module_name p

      below : (m : ModuleName) (side : Side) → (stream side s).modules ≡ p ∷ ps → same_module name m ≡ false
          → (have_queues m && list_any (λ n. same_module n m) (map module_name (stream side s).modules)) ≡ true → (have_queues m && list_any (λ n. same_module n m) (map module_name ps)) ≡ true
      below m side top differs is =
          below-top m name (map module_name ps) differs (subst (λ qs. (have_queues m && list_any (λ n. same_module n m) (map module_name qs)) ≡ true) top is)

      at : (side of : Side) (place : Place) (way : Way) → (stream side s).modules ≡ p ∷ ps → is_there_among place way (stands_on of (stands_of s)) ≡ true
          → (same_side of side && same_place place (places.Module name) && same_way way Up) ≡ false
          → (same_side of side && same_place place (places.Module name) && same_way way Down) ≡ false → is_there_among place way (stands_on of (left side ps s)) ≡ true
      at Master Slave place way top is up down = is
      at Slave Master place way top is up down = is
      at Master Master Head way top is up down = is
      at Slave Slave Head way top is up down = is
      at Master Master Driver Up top is up down = is
      at Master Master Driver Down top is up down = is
      at Slave Slave Driver Up top is up down = is
      at Slave Slave Driver Down top is up down = is
      at Master Master (places.Module m) Up top is up down = below m Master top (apart m name Up up) is
      at Master Master (places.Module m) Down top is up down = below m Master top (apart m name Down down) is
      at Slave Slave (places.Module m) Up top is up down = below m Slave top (apart m name Up up) is
      at Slave Slave (places.Module m) Down top is up down = below m Slave top (apart m name Down down) is

  left-named : (side : Side) (p : Standing C) (ps : List (Standing C)) (s : State C) → (stream side s).modules ≡ p ∷ ps → (ns : List QueueName) → AreEnabled (stands_of s) ns → AreEnabled (left side ps s) (without_module side (module_name p) ns)
  left-named side p ps s top ns are =
      let up = queue_of side (module_name p) Up in
      let down = queue_of side (module_name p) Down in
      record {
        once = once-without (without up ns) down (once-without ns up are.once);
        there = all-but (λ n. IsThere (stands_of s) n × (same_queue n up ≡ false)) (λ n. IsThere (left side ps s) n) down (λ n is not_down. still-there side p ps s top n is.0 is.1 not_down) (without up ns)
            (all-but (λ n. IsThere (stands_of s) n) (λ n. IsThere (stands_of s) n × (same_queue n up ≡ false)) up (λ n is not_up. (is, not_up)) ns are.there);
      }

  taken-named : (rule : Rule) (side : Side) (ps : List (Standing C)) (s : State C) → (stream side s).modules ≡ ps → Named s → Named (top_taken rule side ps s).state
  taken-named rule side [] s top are = are
  taken-named rule side (p ∷ ps) s top are =
      let all = stands_of s in
      let place = place_of (module_name p) in
      let notes = (clears side rule p).notes in
      let there : (way : Way) → MayBe all (queue_named side way place) = λ way. subst (λ ps. MayBe all (queue_named side way (slice_index_or (places_of ps) 0 None))) top (index-there all s refl side way 0) in
      left-named side p ps s top (noted side place (earlier_at side 1 s) notes s.enabled)
      (noted-there all side place (earlier_at side 1 s) (λ way. before-there all s refl side way 1) notes (any-noted all side place there notes) s.enabled are)

  all-named : (rule : Rule) (side : Side) (ps : List (Standing C)) (s : State C) → (stream side s).modules ≡ ps → Named s → Named (all_taken rule side ps s).state
  all-named rule side [] s top are = are
  all-named rule side (p ∷ ps) s top are = all-named rule side ps (top_taken rule side (p ∷ ps) s).state (with-get side ps [] s) (taken-named rule side (p ∷ ps) s top are)

  -- a stream whose modules stay
  same-named : (side : Side) (t : Stream C) (s : State C) → map module_name t.modules ≡ map module_name (stream side s).modules → Named s → Named (with_stream side t s)
  same-named side t s same are = named-of (stands_of s) (with_stream side t s) (stream-enabled (stands_of s) side t s same (refl, are))

  pop-named : (side : Side) (s : State C) → Named s → Named (popped side s).state
  pop-named side s are =
      let ps = (stream side s).modules in
      let t = (top_taken ModulePopped side ps s).state in
      let mode = mode_behind (top_on side s) in
      let u = (mode_put side mode t).state in
      let told = named-of (stands_of t) u (mode-enabled (stands_of t) side mode t (refl, taken-named ModulePopped side ps s refl are)) in
      same-named side _ u refl told

  -- a stream whose queue lets a writer go
  goes-named : (side : Side) (t : Stream C) (goes : Bool) (o : Option QueueName) (s : State C) → map module_name t.modules ≡ map module_name (stream side s).modules → MayBe (stands_of s) o → Named s
      → Named (record (with_stream side t s) { enabled = enable_some goes o s.enabled })
  goes-named side t goes o s same may are =
      subst (λ a. AreEnabled a (enable_some goes o s.enabled)) (sym (stream-enabled (stands_of s) side t s same (refl, are)).0) (some-there (stands_of s) goes o s.enabled may are)

  emptied-named : (side : Side) (s : State C) → Named s → Named (stream_emptied side s).state
  emptied-named side s are =
      let q = (stream side s).head.queue in
      let t = (head_emptied EndClosed of_all side s).state in
      all-named EndClosed side (stream side t).modules t refl
      (goes-named side (with_head_queue (queue_behind of_all q) (stream side s)) (writer_goes of_all q) (before_head side s) s refl (before-there (stands_of s) s refl side Up 0) are)

  driver-named : (side : Side) (s : State C) → Named s → Named (driver_emptied EndClosed of_all side s).state
  driver-named side s are =
      let q = (stream side s).driver.queue in
      goes-named side (with_driver_queue (queue_behind of_all q) (stream side s)) (writer_goes of_all q) (before_driver side s) s refl (before-there (stands_of s) s refl side Down (driver_place side s)) are

  ended-named : (side : Side) (s : State C) → Named s → Named (ended side s)
  ended-named side s are = same-named side (record (stream side s) { opened = Closed; head = new_head }) s refl are

  hung-named : (side : Side) (s : State C) → Named s → Named (hung_up_at side s)
  hung-named side s are = at (is_open (stream side s).opened)
    where
      at : (is : Bool) → let t = stream side s in Named (cond is (with_stream side (record t { head = record t.head { hung_up = true } }) s) s)
      at true = same-named side (record (stream side s) { head = record (stream side s).head { hung_up = true } }) s refl are
      at false = are

  close-named : (side : Side) (s : State C) → Named s → Named (closed_at side s).state
  close-named Slave s are = ended-named Slave (stream_emptied Slave s).state (emptied-named Slave s are)
  close-named Master s are =
      let heads = (stream_emptied Master s).state in
      let one = (driver_emptied EndClosed of_all Master heads).state in
      let two = (driver_emptied EndClosed of_all Slave one).state in
      hung-named Slave (ended Master two) (ended-named Master two (driver-named Slave one (driver-named Master heads (emptied-named Master s are))))

  mode-named : (side : Side) (mode : modes.Mode) (s : State C) → Named s → Named (mode_set side mode s)
  mode-named side (chosen.Read mode) s are = same-named side _ s refl are
  mode-named side (chosen.Control mode) s are = same-named side _ s refl are

  module _ (cells : Cells C) where
    abbrev below : Side → Spot
    below side = record { side = side; at = 1; way = Down }

    given-named : (K : Behaviour) (to : Spot) (m : Message C) (s : State C) → Named s → Named (delivered K cells to m s).state
    given-named K to m s are = named-of (stands_of s) (delivered K cells to m s).state (delivered-enabled (stands_of s) K cells to m s (refl, are))

    put-named : (K : Behaviour) (side : Side) (prio : Prio) (control body : Option (List ℕ)) (s : State C) → Named s → Named (put_at K cells side prio control body s).state
    put-named K side prio None None s are = are
    put-named K side prio None (Some xs) s are = given-named K (below side) (message_put cells side prio None (Some xs) s) s are
    put-named K side prio (Some ys) body s are = given-named K (below side) (message_put cells side prio (Some ys) body s) s are

    told-named : (side : Side) (s : State C) → Named s → Named (with_ioctl side (slot_behind (stream side s).head.ioctl) s)
    told-named side s are = same-named side _ s refl are

    ioctl-named : (K : Behaviour) (side : Side) (command : ℕ) (body : List ℕ) (s : State C) → Named s
        → Named (ioctl_called K cells side command body s).state
    ioctl-named K side command body s are = at (asks_group side command)
      where
        at : (group : Bool) → Named (cond group (group_at side command body s) (ioctl_at K cells side command body s)).state
        at true =
            let h = (stream side s).head in
            same-named side (record (stream side s) { head = record h { group = group_behind command body h.group; ioctl = Free } }) s refl are
        at false = told-named side (ioctl_sent K cells side command body s).state (given-named K (below side) (ioctl_message (asking command s.next_ioctl) body) (ioctl_begun side command s) (same-named side _ s refl are))

    pub call-named : (K : Behaviour) (caller : Caller) (asked : Request) (s : State C) → Named s → Named (performed K cells caller asked s).state
    call-named K caller OpenMaster s are = same-named Master (record (stream Master s) { opened = Open }) s refl are
    call-named K caller OpenSlave s are =
        if-there (stands_of s) (not (is_none_left (stream Master s).driver.queue.messages)) (driver_of Master) s.enabled refl are
    call-named K caller Shut s are = close-named caller.side s are
    call-named K caller (Push name) s are = push-named caller.side (named_by K name) s are
    call-named K caller Pop s are = pop-named caller.side s are
    call-named K caller (Flush what band) s are = given-named K (below caller.side) (flush_message (flush_bytes (asked_of what band))) s are
    call-named K caller (Write bytes) s are =
        let dir = direction_from caller.side in
        cells_sent-holds K cells Named (given-named K) caller.side (cells_written cells dir (book dir s).written bytes) s are
    call-named K caller (Read n) s are =
        let h = (stream caller.side s).head in
        goes-named caller.side (with_head_queue (read_queue h.read_mode h.control_mode (min n READ_MAX) h.queue) (stream caller.side s)) (read_lets_go h.read_mode h.control_mode (min n READ_MAX) h.queue) (before_head caller.side s) s refl
        (before-there (stands_of s) s refl caller.side Up 0) are
    call-named K caller (Put prio control body) s are = put-named K caller.side prio control body s are
    call-named K caller (Get wanted cmax dmax) s are =
        let q = (stream caller.side s).head.queue in
        goes-named caller.side (with_head_queue (get_queue wanted (min cmax READ_MAX) (min dmax READ_MAX) q) (stream caller.side s)) (get_lets_go wanted (min cmax READ_MAX) (min dmax READ_MAX) q) (before_head caller.side s) s refl
        (before-there (stands_of s) s refl caller.side Up 0) are
    call-named K caller (Mode mode) s are = mode-named caller.side mode s are
    call-named K caller (Ioctl command body) s are = ioctl-named K caller.side command body s are
    call-named K caller (IoctlResult number) s are = told-named caller.side s are
    call-named K caller Signals s are = same-named caller.side _ s refl are
    call-named K caller _ s are = are
