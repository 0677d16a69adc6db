-- Modules of a user's own as they stand on a stream, with the queues that it gives those that have any (put(9E), srv(9E); putq(9F), getq(9F),
-- flushq(9F), qenable(9F); STREAMS Programming Guide, "Message Queues", "Service Procedures", "Flush Handling"). What such a module has put on a
-- queue its behaviour says, and when what stands there may go on; the rest is the same for all of them.
use Rattle.std.specs.Prelude.{ℕ, ◌≡◌, Bool, true, false, ◌&&◌, ◌||◌, ◌==◌, not, if◌then◌else◌, List, [], ◌∷◌, ◌++◌, Option, None, Some}
use Rattle.strm_types.specs.declared.kinds.Band.{Band}
use Rattle.strm_types.specs.declared.kinds.MsgKind.{MsgKind}
use Rattle.strm_types.specs.declared.names.Way.{Way}
use Rattle.strm_types.specs.declared.names.Way.TheVariants.{Up, Down}
use Rattle.strm_types.specs.declared.rules.Rule.TheVariants.{Flushed}
use Rattle.strm_types.specs.declared.spots.Asks.{Asks}
use Rattle.strm_types.specs.declared.spots.Asks.TheVariants as asked
use Rattle.strm_types.specs.declared.spots.Note.{Note}
use Rattle.strm_types.specs.declared.spots.Note.TheVariants.{Enable, Room}
use Rattle.strm_types.specs.declared.spots.Spot.{Spot}
use Rattle.strm_types.specs.Commands.{is_ioctl}
use Rattle.strm_types.specs.Deliver.{Acted, Goes, onward}
use Rattle.strm_types.specs.Emptied.{of_data, cells_gone, queue_behind, writer_goes}
use Rattle.strm_types.specs.Flushing.{asked_by, is_flush}
use Rattle.strm_types.specs.Ldterms.{waits_there}
use Rattle.strm_types.specs.Message.{Message, is_high_priority, size_of}
use Rattle.strm_types.specs.Names.{direction_at, same_way}
use Rattle.strm_types.specs.Owns.{Own}
use Rattle.strm_types.specs.Queue.{put_on, put_enables, left_with}
use Rattle.strm_types.specs.Service.{Serving, acts_alone, unserved}
use Rattle.strm_types.specs.Standings.{QueuePair, Standing, messages_at, pair_changed, stood, way_queue}

-- What such modules do: with a message that comes and doesn't wait, which ones wait on the queue of their way, and whether the first of the messages
-- that stand on the queue of a way may go on.
pub record OwnActs (C : Type 0) : Type 0 where
  pub puts : Spot → Message C → Own → Acted C Own
  pub holds : Spot → Message C → Own → Bool
  pub goes : Way → List (Message C) → Own → Bool

-- the kinds of messages that may wait on a module's queue of a way: M_DATA and M_PROTO, and M_IOCTL on its way down, behind what it was sent after
abbrev pub may_wait : Way → MsgKind → Bool
may_wait Up kind = waits_there kind
may_wait Down kind = waits_there kind || is_ioctl kind

-- whether a first message goes on that asks so, where there is room, and what stood first before asked otherwise
abbrev pub goes_anew : Asks → Asks → Bool
goes_anew before asked.Empty = false
goes_anew before asked.Held = false
goes_anew asked.Free asked.Free = false
goes_anew (asked.Room a) (asked.Room b) = not (a.0 == b.0)
goes_anew _ _ = true

-- whether notes enable the queue of a way
abbrev pub is_noted : Way → List Note → Bool
is_noted way [] = false
is_noted way (Enable noted ∷ notes) = same_way noted way || is_noted way notes
is_noted way (Room noted ∷ notes) = is_noted way notes

module _ {C : Type 0} where
  -- the queue of a way without what a flush takes, where it is one of these
  abbrev pub way_flushed : Spot → Option Band → Bool → Way → QueuePair C → Acted C (QueuePair C)
  way_flushed here band false way pair = record { state = pair; notes = []; sent = []; gone = [] }
  way_flushed here band true way pair =
      let q = way_queue way pair in
      record {
        state = pair_changed way (queue_behind (of_data band)) pair;
        notes = if writer_goes (of_data band) q then Room way ∷ [] else [];
        sent = [];
        gone = Goes (direction_at way here.side) Flushed (cells_gone (of_data band) q.messages) ∷ [];
      }

  -- An M_FLUSH is obeyed, the read queue first, and goes on.
  abbrev pub pair_flushed : Spot → Message C → Own → QueuePair C → Acted C (Standing Own C)
  pair_flushed here m o pair =
      let flush = asked_by m.plain in
      let above = way_flushed here flush.band flush.for_read Up pair in
      let below = way_flushed here flush.band flush.for_write Down above.state in
      record {
        state = stood o (Some below.state);
        notes = above.notes ++ below.notes;
        sent = onward here.way here m ∷ [];
        gone = above.gone ++ below.gone;
      }

  -- a message that waits on the queue of a way, which it enables as putq(9F) says
  abbrev pub own_queued : Way → Message C → Own → QueuePair C → Acted C (Standing Own C)
  own_queued way m o pair = record {
    state = stood o (Some (pair_changed way (put_on m) pair));
    notes = if put_enables m (way_queue way pair) then Enable way ∷ [] else [];
    sent = [];
    gone = [];
  }

  module _ (own : OwnActs C) where
    -- whether a message that comes waits
    abbrev pub own_holds : Spot → Message C → Own → Bool
    own_holds here m o = may_wait here.way m.kind && own.holds here m o

    -- What the first of these messages asks, which stand on the queue of a way: room ahead in its band where it may go on. Nothing holds one of high
    -- priority back.
    abbrev pub own_asked : Way → Own → List (Message C) → Asks
    own_asked way o [] = asked.Empty
    own_asked way o (m ∷ rest) =
        if is_high_priority m.kind then asked.Free
        else (if own.goes way (m ∷ rest) o then asked.Room (record { 0 = m.band }) else asked.Held)

    abbrev pub own_asks : Way → Standing Own C → Asks
    own_asks way x = own_asked way x.part (messages_at way x)

    -- Beside what putq(9F) says, the queue of a way is enabled where its first message may go on, and nothing that was asked before lets it: a
    -- service procedure that could do nothing left the queue, or a writer waits for another band (qenable(9F)).
    abbrev pub woken_on : Way → Standing Own C → Standing Own C → List Note
    woken_on way x y = if goes_anew (own_asks way x) (own_asks way y) then Enable way ∷ [] else []

    abbrev pub woken : Standing Own C → Acted C (Standing Own C) → Acted C (Standing Own C)
    woken x t = record { state = t.state; notes = t.notes ++ (woken_on Up x t.state ++ woken_on Down x t.state); sent = t.sent; gone = t.gone }

    -- where what stands first on the queue of a way goes anew, notes enable the queue
    abbrev pub Wakes : Way → Standing Own C → Acted C (Standing Own C) → Type 0
    Wakes way x t = goes_anew (own_asks way x) (own_asks way t.state) ≡ true → is_noted way t.notes ≡ true

    -- a message that comes to one with queues: an M_FLUSH is obeyed, what waits is put on its queue, and with all else it does what it does without
    -- queues
    abbrev pub own_acts : Spot → Message C → Own → QueuePair C → Acted C (Standing Own C)
    own_acts here m o pair =
        if is_flush m.kind then pair_flushed here m o pair
        else (if own_holds here m o then own_queued here.way m o pair
        else acts_alone (own.puts here m) (stood o (Some pair)))

    abbrev pub own_puts : Spot → Message C → Standing Own C → Acted C (Standing Own C)
    own_puts here m x = by x.queues
      where
        by : Option (QueuePair C) → Acted C (Standing Own C)
        by None = acts_alone (own.puts here m) x
        by (Some pair) = woken x (own_acts here m x.part pair)

    -- A call of its service procedure: the first message is taken off its queue, and it does with it what it does with one that doesn't wait. It
    -- treats a message whole, and one in each turn.
    abbrev pub own_served : Spot → Standing Own C → QueuePair C → List (Message C) → Serving C (Standing Own C)
    own_served here x pair [] = unserved x
    own_served here x pair (m ∷ rest) = record {
      acted = woken x (acts_alone (own.puts here m) (stood x.part (Some (pair_changed here.way (left_with rest) pair))));
      bytes = size_of m;
      again = false;
    }

    abbrev pub own_serves : Spot → Standing Own C → Serving C (Standing Own C)
    own_serves here x = by x.queues
      where
        by : Option (QueuePair C) → Serving C (Standing Own C)
        by None = unserved x
        by (Some pair) = own_served here x pair (way_queue here.way pair).messages
