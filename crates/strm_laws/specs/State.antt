-- The plain state of a pair: what every call acts on.
use Rattle.std.specs.Prelude.{ℕ, Bool, true, List, [], ◌∷◌, ◌++◌, length, map, sum_by}
use Rattle.std.specs.List.{AllByRecursion}
use Rattle.strm_laws.specs.Prelude.{Side, Master, Slave, QueueName, Dir, Openness, Book, Both, get, set, map_both, side_from, Head, new_head}
use Rattle.strm_laws.specs.Prelude.{map_head, PlainSlot, Queue, IsOrdered, new_queue, map_queue}
use Rattle.strm_types.specs.declared.names.Openness.TheVariants.{Never}
use Rattle.strm_types.specs.Books.{new_book}
use Rattle.strm_laws.specs.Stacked.{Standing, map_module, queues_of_modules}

-- a driver: what it has for the other side
pub record Driver (C : Type 0) : Type 0 where
  pub queue : Queue C

-- the stream of one side; its modules, the one on top first
pub record Stream (C : Type 0) : Type 0 where
  pub opened : Openness
  pub head : Head C
  pub modules : List (Standing C)
  pub driver : Driver C

-- A pair: the stream of each side, whether the slave is locked, the enabled queues in order of enabling, the number that the next
-- ioctl gets, and the book of what each side writes.
pub record State (C : Type 0) : Type 0 where
  pub ends : Both (Stream C)
  pub locked : Bool
  pub enabled : List QueueName
  pub next_ioctl : ℕ
  pub books : Both Book

module _ {C : Type 0} where
  -- a driver as it is made: marks 512 and 128
  abbrev pub new_driver : Driver C
  new_driver = record { queue = new_queue 512 128 }

  -- a stream that nobody opened yet
  abbrev pub new_stream : Stream C
  new_stream = record { opened = Never; head = new_head; modules = []; driver = new_driver }

  -- a pair as it is made
  abbrev pub opening : State C
  opening = record {
    ends = record { master = new_stream; slave = new_stream };
    locked = true;
    enabled = [];
    next_ioctl = 1;
    books = record { master = new_book; slave = new_book };
  }

  -- the stream of a side
  abbrev pub stream : Side → State C → Stream C
  stream side s = get side s.ends

  -- the state with another stream on a side
  abbrev pub with_stream : Side → Stream C → State C → State C
  with_stream side new s = record s { ends = set side new s.ends }

  -- the book of a direction
  abbrev pub book : Dir → State C → Book
  book dir s = get (side_from dir) s.books

  -- the state with another book of a direction
  abbrev pub with_book : Dir → Book → State C → State C
  with_book dir new s = record s { books = set (side_from dir) new s.books }

  -- a side's stream with another ioctl under way, and with other signals that wait
  abbrev pub with_ioctl : Side → PlainSlot → State C → State C
  with_ioctl side slot s = let above = stream side s in with_stream side (record above { head = record above.head { ioctl = slot } }) s

  abbrev pub with_signals : Side → List ℕ → State C → State C
  with_signals side signals s = let above = stream side s in with_stream side (record above { head = record above.head { signals = signals } }) s

  abbrev pub with_head_queue : Queue C → Stream C → Stream C
  with_head_queue q t = record t { head = record t.head { queue = q } }

  abbrev pub with_driver_queue : Queue C → Stream C → Stream C
  with_driver_queue q t = record t { driver = record { queue = q } }

-- all queues of a stream, and all of a pair
abbrev pub stream_queues : {C : Type 0} → Stream C → List (Queue C)
stream_queues t = t.head.queue ∷ queues_of_modules t.modules ++ t.driver.queue ∷ []

abbrev pub queues_of : {C : Type 0} → State C → List (Queue C)
queues_of s = stream_queues (stream Master s) ++ stream_queues (stream Slave s)

-- each queue has its messages in order of rank
abbrev pub AreOrdered : {C : Type 0} → State C → Type 0
AreOrdered s = AllByRecursion (λ q. IsOrdered q.messages) (queues_of s)

-- how many messages stand on the queues
abbrev pub messages_in : {C : Type 0} → State C → ℕ
messages_in s = sum_by (λ q. length q.messages) (queues_of s)

abbrev pub map_stream : {C D : Type 0} → (C → D) → Stream C → Stream D
map_stream f t = record {
  opened = t.opened;
  head = map_head f t.head;
  modules = map (map_module f) t.modules;
  driver = record { queue = map_queue f t.driver.queue };
}

abbrev pub map_state : {C D : Type 0} → (C → D) → State C → State D
map_state f s = record {
  ends = map_both (map_stream f) s.ends;
  locked = s.locked;
  enabled = s.enabled;
  next_ioctl = s.next_ioctl;
  books = s.books;
}
