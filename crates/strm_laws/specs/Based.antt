-- The state at which a journal begins, its base, with an origin for each booked byte that stands there: those of M_DATA, M_PROTO and
-- M_PCPROTO, and those of unfinished lines. In each direction they are numbered from 0 up in the order of an image (docs/IMAGES.md).
use Rattle.std.specs.Prelude.{ℕ, suc, ◌+◌, true, List, [], ◌∷◌, length, option_map, sum_by, None}
use Rattle.strm_laws.specs.Prelude.{Dir, Side, Master, Slave, Way, Up, Down, Base, Tagged, Head, Between, Message, part, weight_of, direction_at}
use Rattle.strm_laws.specs.Prelude.{Queue, weight, QueuePair, messages_at}
use Rattle.strm_types.specs.Ldterms.{Ldterm}
use Rattle.strm_laws.specs.Stacked.{Module, OfLdterm, OfOwn, OfPtem, OfPckt, Standing, module_line}
use Rattle.strm_laws.specs.State.{State, Stream}

module _ {C : Type 0} where
  -- how many booked bytes messages have
  abbrev pub cells_in : List (Message C) → ℕ
  cells_in ms = weight (λ c. true) ms

  -- how many a module has that go a way: those of an unfinished line go up
  abbrev pub held_by : Way → Standing C → ℕ
  held_by Up x = length (module_line x) + cells_in (messages_at Up x)
  held_by Down x = cells_in (messages_at Down x)

  -- and how many a stream has
  abbrev pub held_in : Way → Stream C → ℕ
  held_in Up t = sum_by (held_by Up) t.modules + cells_in t.head.queue.messages
  held_in Down t = sum_by (held_by Down) t.modules + cells_in t.driver.queue.messages

-- Bytes of a direction, the first of them as the nth that stood there when the journal began; and messages of such bytes, the control part
-- before the data part.
module _ (dir : Dir) where
  abbrev pub number : ℕ → List ℕ → List Tagged
  number n [] = []
  number n (b ∷ bytes) = record { byte = b; origin = Base dir n } ∷ number (suc n) bytes

  abbrev pub number_message : ℕ → Message ℕ → Message Tagged
  number_message n m = record {
    kind = m.kind;
    band = m.band;
    control = option_map (number n) m.control;
    body = option_map (number (n + length (part m.control))) m.body;
    plain = m.plain;
  }

  abbrev pub number_messages : ℕ → List (Message ℕ) → List (Message Tagged)
  number_messages n [] = []
  number_messages n (m ∷ ms) = number_message n m ∷ number_messages (n + weight_of (λ c. true) m) ms

  abbrev pub number_queue : ℕ → Queue ℕ → Queue Tagged
  number_queue n q = record { messages = number_messages n q.messages; flows = q.flows; want_read = q.want_read; no_enable = q.no_enable }

-- What a side's stream has is numbered from one number on for what goes up, and from another one on for what goes down.
module _ (side : Side) where
  -- Of a module first the line, then the read queue and the write queue. Between turns it has nothing else.
  abbrev pub number_ldterm : ℕ → Ldterm ℕ → Ldterm Tagged
  number_ldterm up l = record {
    termios = l.termios;
    stopped = l.stopped;
    after_lnext = l.after_lnext;
    column = l.column;
    line = number (direction_at Up side) up l.line;
    in_work = None;
    gathered = [];
    echoing = l.echoing;
    stage = Between;
  }

  abbrev pub number_kind : ℕ → Module ℕ → Module Tagged
  number_kind up (OfLdterm l) = OfLdterm (number_ldterm up l)
  number_kind up (OfPtem p) = OfPtem p
  number_kind up (OfPckt p) = OfPckt p
  number_kind up (OfOwn o) = OfOwn o

  abbrev pub number_pair : ℕ → ℕ → QueuePair ℕ → QueuePair Tagged
  number_pair up down pair = record {
    read = number_queue (direction_at Up side) up pair.read;
    write = number_queue (direction_at Down side) down pair.write;
  }

  abbrev pub number_module : ℕ → ℕ → Standing ℕ → Standing Tagged
  number_module up down x = record {
    part = number_kind up x.part;
    queues = option_map (number_pair (up + length (module_line x)) down) x.queues;
  }

  abbrev pub number_modules : ℕ → ℕ → List (Standing ℕ) → List (Standing Tagged)
  number_modules up down [] = []
  number_modules up down (p ∷ ps) = number_module up down p ∷ number_modules (up + held_by Up p) (down + held_by Down p) ps

  abbrev pub number_head : ℕ → Head ℕ → Head Tagged
  number_head n h = record {
    queue = number_queue (direction_at Up side) n h.queue;
    read_mode = h.read_mode;
    control_mode = h.control_mode;
    tostop = h.tostop;
    group = h.group;
    hung_up = h.hung_up;
    signals = h.signals;
    ioctl = h.ioctl;
  }

  -- the modules from the top, then the head's queue, then the driver's
  abbrev pub number_stream : ℕ → ℕ → Stream ℕ → Stream Tagged
  number_stream up down t = record {
    opened = t.opened;
    head = number_head (up + sum_by (held_by Up) t.modules) t.head;
    modules = number_modules up down t.modules;
    driver = record { queue = number_queue (direction_at Down side) (down + sum_by (held_by Down) t.modules) t.driver.queue };
  }

-- The master's stream comes first, and the numbers go on in the slave's: what goes up there is of the direction of what goes down on the
-- master's, and what goes down of that of what goes up.
abbrev pub based : State ℕ → State Tagged
based s = record {
  ends = record {
    master = number_stream Master 0 0 s.ends.master;
    slave = number_stream Slave (held_in Down s.ends.master) (held_in Up s.ends.master) s.ends.slave;
  };
  locked = s.locked;
  enabled = s.enabled;
  next_ioctl = s.next_ioctl;
  books = s.books;
}
