-- What holds of the names of enabled queues, and holds still where one that is there joins them and where one is taken off, holds over a delivery and
-- a turn.
use Rattle.strm_laws.proofs.Prelude.{ℕ, zero, suc, ◌≡◌, ◌+◌, ◌-◌, ◌*◌, Bool, true, false, cond, List, [], ◌∷◌, map, refl, ◌∙◌, ◌==◌, ◌&&◌, ◌||◌, not}
use Rattle.strm_laws.proofs.Prelude.{slice_index_or, Option, None, Some, PutHolds, carried-holds, in_turn-holds}
use Rattle.strm_laws.specs.Prelude.{Turn, Ioc, MsgKind, Data, Proto, Sig, Ctl, Ioctl, Setopts, Iocack, Iocnak, Pcproto, Pcsig, Flush, Hangup, Error}
use Rattle.strm_laws.specs.Prelude.{HOPS, Place, Driver, QueueName, Side, Way, Up, Down, Across, Asks, Enable, Room, Spot, Cells, Acted}
use Rattle.strm_laws.specs.Prelude.{carried, in_turn, answered, bottom_across, crosses, driver_put, flush_down, freed, ioctl_put, own_flushed}
use Rattle.strm_laws.specs.Prelude.{put_across, put_down, reader_flush, taken_in, of_data, writer_goes, asked_by, Head as TheHead, head_flushed}
use Rattle.strm_laws.specs.Prelude.{head_put, passed_by, is_doubled, obeyed, waits_for_readers, read_ioc, Message, band_of, has_parts, size_of}
use Rattle.strm_laws.specs.Prelude.{at_place, place_past, with_waiting, put_among, driver_of, is_master, is_open, other, without, Queue}
use Rattle.strm_laws.specs.Prelude.{is_none_left, left_with, put_enables, relieves, end_relieves, has_more, turn_ended}
use Rattle.strm_types.specs.declared.kinds.MsgKind.TheVariants.{Read, Stop, Start}
use Rattle.strm_types.specs.declared.names.Place.TheVariants.{Head}
use Rattle.strm_types.specs.declared.names.Place.TheVariants as places
use Rattle.strm_types.specs.declared.spots.Asks.TheVariants as asked
use Rattle.strm_laws.specs.Behaviours.{Behaviour}
use Rattle.strm_laws.specs.Earlier.{before_driver, driver_place, places_of}
use Rattle.strm_laws.specs.ModuleTurns.{again_at, asked_turn, bytes_at, call_at, calls, made_below, module_called, moved_on, moved_within}
use Rattle.strm_laws.specs.ModuleTurns.{place_named, queue_ended, turned_named, turned_there, waits_there}
use Rattle.strm_laws.specs.Past.{has_room_past, waits_on, writer_waits}
use Rattle.strm_laws.specs.Puts.{across_of, delivered, earlier_at, made_above, module_acted, put_at_driver, put_at_head, put_at_module, put_in}
use Rattle.strm_laws.specs.Restorable.{IsThere}
use Rattle.strm_laws.specs.StackCosts.{Stands, stands_of}
use Rattle.strm_laws.specs.Stacked.{Standing, module_asks, module_name, module_puts, module_rests}
use Rattle.strm_laws.specs.State.{State, Stream, stream, with_driver_queue, with_stream}
use Rattle.strm_laws.specs.Turns.{driver_serves, held_back, is_stopped_across, moved_across, turned, turned_at, turned_queue, up_across, with_driver}
use Rattle.strm_laws.proofs.EnabledExist.{AreNoted, KeepsNames, any-noted, before-there, if-keeps, index-there, named-is-there, noted-keeps}
use Rattle.strm_laws.proofs.EnabledExist.{some-keeps}
use Rattle.strm_laws.proofs.GoodTurns.{calls-either, outcome-holds}
use Rattle.strm_laws.proofs.PutParts.{booked-holds, either-holds, parts-hold}
use Rattle.strm_laws.proofs.SameNames.{keep-names, queue-names, serve-names}
use Rattle.strm_laws.proofs.StackStays.{same-names}
use Rattle.strm_laws.proofs.TurnHolds.{any-holds}

module _ {C : Type 0} (all : Stands) (P : List QueueName → Type 0) (keeps : KeepsNames all P) where
  -- the modules have these names, and it holds of the enabled queues
  abbrev pub Kept : State C → Type 0
  Kept s = (stands_of s ≡ all) × P s.enabled

  -- a stream whose modules keep their names
  pub stream-kept : (side : Side) (t : Stream C) (s : State C) → map module_name t.modules ≡ map module_name (stream side s).modules → Kept s → Kept (with_stream side t s)
  stream-kept side t s same is = (same-names side t s same ∙ is.0, is.1)

  -- what a head and a driver say of their queues
  head-notes : (side : Side) (here : Spot) (m : Message C) (h : TheHead C) → AreNoted all side (Some Head) (head_put here m h).notes
  head-notes side here m h = at (has_parts m) m.kind
    where
      doubled : (b : Bool) (one another : Acted C (TheHead C)) → AreNoted all side (Some Head) one.notes → AreNoted all side (Some Head) another.notes → AreNoted all side (Some Head) (cond b one another).notes
      doubled true one another first second = first
      doubled false one another first second = second

      goes : (b : Bool) → AreNoted all side (Some Head) (cond b (Room Up ∷ []) [])
      goes true = tt
      goes false = tt

      flushes : (own : Bool) → AreNoted all side (Some Head) (cond own (head_flushed here (asked_by m.plain) h) (passed_by h)).notes
      flushes true = goes (writer_goes (of_data (asked_by m.plain).band) h.queue)
      flushes false = tt

      obeys : (kind : MsgKind) → AreNoted all side (Some Head) (obeyed here kind m.plain h).notes
      obeys Flush = flushes (asked_by m.plain).for_read
      obeys Ioctl = tt
      obeys Setopts = tt
      obeys Hangup = tt
      obeys Sig = tt
      obeys Pcsig = tt
      obeys Iocack = tt
      obeys Iocnak = tt
      obeys Data = tt
      obeys Proto = tt
      obeys Ctl = tt
      obeys Pcproto = tt
      obeys Read = tt
      obeys Stop = tt
      obeys Start = tt
      obeys Error = tt

      at : (parts : Bool) (kind : MsgKind) → AreNoted all side (Some Head) (cond parts (waits_for_readers here m h) (obeyed here kind m.plain h)).notes
      at true kind = doubled (is_doubled m h.queue.messages) _ _ tt tt
      at false kind = obeys kind

  module _ (side : Side) (across : Across) (m : Message C) (q : Queue C) where
    abbrev DriverNotes : Acted C (Queue C) → Type 0
    DriverNotes t = AreNoted all side (Some Driver) t.notes

    either-notes : (b : Bool) (one another : Acted C (Queue C)) → DriverNotes one → DriverNotes another → DriverNotes (cond b one another)
    either-notes true one another first second = first
    either-notes false one another first second = second

    taken-notes : DriverNotes (taken_in side across m q)
    taken-notes = either-notes across.ended _ _ tt (enables (put_enables m q))
      where
        enables : (b : Bool) → AreNoted all side (Some Driver) (cond b (Enable Down ∷ []) [])
        enables true = (refl, tt)
        enables false = tt

    own-notes : (goes : Bool) → AreNoted all side (Some Driver) (cond goes (Room Down ∷ []) [])
    own-notes true = tt
    own-notes false = tt

    down-notes : DriverNotes (flush_down side across (asked_by m.plain) q)
    down-notes = at (asked_by m.plain).for_write
      where
        at : (own : Bool) → DriverNotes (cond own (own_flushed side (asked_by m.plain) q) (freed q))
        at true = own-notes (writer_goes (of_data (asked_by m.plain).band) q)
        at false = tt

    ioctl-notes : (here : Spot) (o : Option Ioc) → DriverNotes (ioctl_put side across here o m q)
    ioctl-notes here None = tt
    ioctl-notes here (Some ioc) = either-notes (ioc.number == 0 || (is_master side && across.is_open)) (taken_in side across m q) (answered here ioc q) taken-notes tt

    put-notes : (here : Spot) (kind : MsgKind) → DriverNotes (put_down side across here kind m q)
    put-notes here Flush = down-notes
    put-notes here Ioctl = ioctl-notes here (read_ioc m.plain)
    put-notes here Data = either-notes (crosses Data) (taken_in side across m q) (freed q) taken-notes tt
    put-notes here Proto = either-notes (crosses Proto) (taken_in side across m q) (freed q) taken-notes tt
    put-notes here Sig = either-notes (crosses Sig) (taken_in side across m q) (freed q) taken-notes tt
    put-notes here Ctl = either-notes (crosses Ctl) (taken_in side across m q) (freed q) taken-notes tt
    put-notes here Setopts = either-notes (crosses Setopts) (taken_in side across m q) (freed q) taken-notes tt
    put-notes here Iocack = either-notes (crosses Iocack) (taken_in side across m q) (freed q) taken-notes tt
    put-notes here Iocnak = either-notes (crosses Iocnak) (taken_in side across m q) (freed q) taken-notes tt
    put-notes here Pcproto = either-notes (crosses Pcproto) (taken_in side across m q) (freed q) taken-notes tt
    put-notes here Pcsig = either-notes (crosses Pcsig) (taken_in side across m q) (freed q) taken-notes tt
    put-notes here Read = either-notes (crosses Read) (taken_in side across m q) (freed q) taken-notes tt
    put-notes here Stop = either-notes (crosses Stop) (taken_in side across m q) (freed q) taken-notes tt
    put-notes here Start = either-notes (crosses Start) (taken_in side across m q) (freed q) taken-notes tt
    put-notes here Hangup = either-notes (crosses Hangup) (taken_in side across m q) (freed q) taken-notes tt
    put-notes here Error = either-notes (crosses Error) (taken_in side across m q) (freed q) taken-notes tt

    over-notes : (kind : MsgKind) → DriverNotes (put_across side across kind m q)
    over-notes Flush = at (asked_by m.plain).for_read
      where
        at : (own : Bool) → DriverNotes (cond own (record (own_flushed side (asked_by m.plain) q) { sent = reader_flush across.is_open (asked_by m.plain) (bottom_across side across) }) (freed q))
        at true = own-notes (writer_goes (of_data (asked_by m.plain).band) q)
        at false = tt
    over-notes _ = tt

    driver-notes : (here : Spot) → DriverNotes (driver_put side across here m q)
    driver-notes here = at (has_parts m) here.way
      where
        by : Way → Acted C (Queue C)
        by Down = put_down side across here m.kind m q
        by Up = put_across side across m.kind m q

        at : (parts : Bool) (way : Way) → DriverNotes (cond parts (taken_in side across m q) (by way))
        at true way = taken-notes
        at false Down = put-notes here m.kind
        at false Up = over-notes m.kind

  -- puts
  pub head-kept : (side : Side) (here : Spot) (m : Message C) (s : State C) → Kept s → Kept (put_at_head side here m s).state
  head-kept side here m s is =
      let above = stream side s in
      let t = head_put here m above.head in
      either-holds Kept (is_open above.opened) _ _
      (same-names side (record above { head = t.state }) s refl ∙ is.0, noted-keeps all P keeps side (Some Head) (earlier_at side 0 s) (λ way. before-there all s is.0 side way 0) t.notes (head-notes side here m above.head) s.enabled is.1) is

  driver-kept : (side : Side) (here : Spot) (m : Message C) (s : State C) → Kept s → Kept (put_at_driver side here m s).state
  driver-kept side here m s is =
      let below = stream side s in
      let at = driver_place side s in
      let t = driver_put side (across_of side s) (record here { at = at }) m below.driver.queue in (
        same-names side (with_driver_queue t.state below) s refl ∙ is.0,
        noted-keeps all P keeps side (Some Driver) (earlier_at side at s) (λ way. before-there all s is.0 side way at) t.notes (driver-notes side (across_of side s) m below.driver.queue (record here { at = at })) s.enabled is.1,
      )

  -- a module that has acted and keeps its name
  acted-kept : (here : Spot) (t : Acted C (List (Standing C))) (s : State C) → map module_name t.state ≡ map module_name (stream here.side s).modules → Kept s → Kept (module_acted here t s).state
  acted-kept here t s same is =
      let on = stream here.side s in
      let place = slice_index_or (places_of on.modules) (here.at - 1) None in
      booked-holds Kept (λ dir n s is. is) t.gone _ (
        same-names here.side (record on { modules = t.state }) s same ∙ is.0,
        noted-keeps all P keeps here.side place (earlier_at here.side here.at s) (λ way. before-there all s is.0 here.side way here.at) t.notes (any-noted all here.side place (λ way. index-there all s is.0 here.side way (here.at - 1)) t.notes) s.enabled is.1,
      )

  module _ (K : Behaviour) (cells : Cells C) where
    stack-kept : (here : Spot) (m : Message C) (s : State C) → Kept s → Kept (put_at_module K cells here m s).state
    stack-kept here m s is =
        let ps = (stream here.side s).modules in
        let made = made_above here.side s in
        acted-kept here (put_among (module_puts K cells made) (here.at - 1) here m ps) s (keep-names K cells made (here.at - 1) here m ps) is

    pub puts-kept : PutHolds Kept (put_in K cells)
    puts-kept = parts-hold Kept K cells (record { head = head-kept; stack = stack-kept; driver = driver-kept })

    pub delivered-kept : (to : Spot) (m : Message C) (s : State C) → Kept s → Kept (delivered K cells to m s).state
    delivered-kept to m s is = carried-holds Kept (put_in K cells) puts-kept HOPS (record { to = to; message = m }) s is

  -- turns: a writer waits, and a turn ends
  waits-names : (side : Side) (way : Way) (band : ℕ) (o : Option ℕ) (t : Stream C) → map module_name (waits_on way band o t).modules ≡ map module_name t.modules
  waits-names side Up band None t = refl
  waits-names side Down band None t = refl
  waits-names side way band (Some place) t = queue-names way (with_waiting band) (place - 1) t.modules

  waits-kept : (side : Side) (way : Way) (at band : ℕ) (s : State C) → Kept s → Kept (writer_waits side way at band s)
  waits-kept side way at band s is =
      let t = stream side s in
      let o = place_past way at t.modules in
      stream-kept side (waits_on way band o t) s (waits-names side way band o t) is

  ended-kept : (here : Spot) (took : Bool) (s : State C) → Kept s → Kept (with_stream here.side (queue_ended here took (stream here.side s)) s)
  ended-kept here took s is =
      let t = stream here.side s in
      stream-kept here.side (queue_ended here took t) s (queue-names here.way (turn_ended took) (here.at - 1) t.modules) is

  module _ (K : Behaviour) (cells : Cells C) (here : Spot) where
    calls-kept : (n : ℕ) (again : Bool) (left : ℕ) (s : State C) → Kept s → Kept (calls K cells here n again left s).state
    calls-kept zero again left s is = is
    calls-kept (suc more) again left s is =
        let ps = (stream here.side s).modules in
        let made = made_below here.side s in
        let t = module_called K cells here again left s in
        let u = in_turn (carried (put_in K cells) HOPS) t.sent t.state in
        let acted = acted-kept here (call_at K cells here made again left ps) s (serve-names K cells here made again (Some left) (here.at - 1) ps) is in
        let sent = in_turn-holds Kept (carried (put_in K cells) HOPS) (carried-holds Kept (put_in K cells) (puts-kept K cells) HOPS) t.sent t.state acted in
        calls-either Kept (again_at K cells here made again left ps) _ _ (calls-kept more true (left - bytes_at K cells here made again left ps) u.state sent) sent

    module _ (name : QueueName) (there : IsThere all name) where
      moved-kept : (bytes : ℕ) (s : State C) → Kept s → Kept (moved_on K cells here name bytes s).state
      moved-kept bytes s is =
          let t = calls K cells here (3 * bytes + 1) false bytes s in
          let behind = calls-kept (3 * bytes + 1) false bytes s is in
          let took = not (t.bytes == 0) in
          let on = stream here.side t.state in
          outcome-holds Kept t.ended _ _ (
            (ended-kept here took t.state behind).0,
            if-keeps all P keeps (at_place (has_more here.way) false here.at on.modules) name _ there
                (some-keeps all P keeps (at_place (end_relieves took here.way) false here.at on.modules) (earlier_at here.side here.at t.state here.way) t.state.enabled (before-there all t.state behind.0 here.side here.way here.at) behind.1),
          )
          is

      asked-kept : (asks : Asks) (turn : Turn) (s : State C) → Kept s → Kept (asked_turn K cells here asks name turn s).state
      asked-kept asked.Empty turn s is = ended-kept here false s is
      asked-kept asked.Held turn s is = ended-kept here false s is
      asked-kept asked.Free turn s is = moved-kept _ s is
      asked-kept (asked.Room band) turn s is =
          let waiting = writer_waits here.side here.way here.at band.0 s in
          outcome-holds Kept (has_room_past here.side here.way here.at band.0 s) (moved_within K cells here name turn s) (waits_there band.0 here s) (moved-kept _ s is)
          (ended-kept here false waiting (waits-kept here.side here.way here.at band.0 s is))

      there-kept : (turn : Turn) (s : State C) → Kept s → Kept (turned_there K cells here name turn s).state
      there-kept turn s is =
          let ps = (stream here.side s).modules in
          outcome-holds Kept (at_place module_rests false here.at ps) _ _ (asked-kept (at_place (module_asks K cells here.way) asked.Empty here.at ps) turn s is) is

  module _ (cells : Cells C) (name : QueueName) where
    named-kept : (K : Behaviour) (turn : Turn) (s : State C) (o : Option ℕ) → place_named name.place (stream name.side s).modules ≡ o → Kept s
        → Kept (turned_named K cells name turn s o).state
    named-kept K turn s None found is = is
    named-kept K turn s (Some at) found is =
        there-kept K cells (record { side = name.side; at = at; way = name.way }) name (named-is-there all s is.0 name at found) turn s is

    driver-with : (side : Side) (q : Queue C) (s : State C) → Kept s → Kept (with_driver side q s)
    driver-with side q s is = stream-kept side (with_driver_queue q (stream side s)) s refl is

    moved-driver : (K : Behaviour) (side : Side) (m : Message C) (rest : List (Message C)) (s : State C) → Kept s → Kept (moved_across K cells side m rest s).state
    moved-driver K side m rest s is =
        let from = with_driver side (left_with rest (stream side s).driver.queue) s in
        let t = (delivered K cells (up_across side from) m from).state in
        let went = delivered-kept K cells (up_across side from) m from (driver-with side (left_with rest (stream side s).driver.queue) s is) in
        let q = turned_queue (stream side t).driver.queue in (
          (driver-with side _ t went).0,
          if-keeps all P keeps (not (is_none_left q.messages)) (driver_of side) _ refl
              (some-keeps all P keeps (not (size_of m == 0) && relieves q) (before_driver side t) t.enabled (before-there all t went.0 side Down (driver_place side t)) went.1),
        )

    serves-driver : (K : Behaviour) (side : Side) (ms : List (Message C)) (s : State C) → Kept s → Kept (driver_serves K cells side ms s).state
    serves-driver K side [] s is = driver-with side (record (stream side s).driver.queue { want_read = true }) s is
    serves-driver K side (m ∷ rest) s is =
        let kept = with_driver side (held_back (stream side s).driver.queue) s in
        let waits = driver-with side (held_back (stream side s).driver.queue) s is in
        any-holds (λ t. Kept t.state) (is_open (stream (other side) s).opened) (is_stopped_across side m s) _ _ _
        waits (waits-kept (other side) Up (driver_place (other side) kept) (band_of m) kept waits) (moved-driver K side m rest s is)

    pub turn-kept : (K : Behaviour) (turn : Turn) (s : State C) → Kept s → Kept (turned K cells name turn s).state
    turn-kept K turn s is = at name.place refl (record s { enabled = without name s.enabled }) (is.0, keeps.leaves name s.enabled is.1)
      where
        at : (place : Place) → name.place ≡ place → (s : State C) → Kept s → Kept (turned_at K cells place name turn s).state
        at Driver is s kept = serves-driver K name.side (stream name.side s).driver.queue.messages s kept
        at Head is s kept = kept
        at (places.Module owner) is s kept = named-kept K turn s (place_named name.place (stream name.side s).modules) refl kept
