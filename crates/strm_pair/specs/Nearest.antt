-- The nearest earlier queues of a place, and streams behind what a put says of them.
use Rattle.std.specs.Prelude.{ℕ, List, Option}
use Rattle.strm_pair.specs.Prelude.{QueueName, Place, Side, Way, Up, Down, Note, earlier_at, noted, StoreValue}
use Rattle.strm_types.specs.declared.spots.Note.TheVariants.{Enable, Room}
use Rattle.strm_laws.specs.Earlier.{queue_named}
use Rattle.strm_pair.specs.declared.earlier.Earlier.{Earlier}
use Rattle.strm_pair.specs.declared.streams.Streams.{Streams}
use Rattle.strm_pair.specs.Pairs.{state_in}

-- that of a way
abbrev pub earlier_of : Earlier → Way → Option QueueName
earlier_of earlier Up = earlier.up
earlier_of earlier Down = earlier.down

-- the queue that a note enables, of a place with these nearest earlier queues
abbrev pub queue_noted : Side → Option Place → (Way → Option QueueName) → Note → Option QueueName
queue_noted side place earlier (Enable way) = queue_named side way place
queue_noted side place earlier (Room way) = earlier way

-- the streams behind what a put says of the queues of a place of a side's stream, one note after the other
abbrev pub noted_on : StoreValue → Side → Option Place → ℕ → List Note → Streams → Streams
noted_on s side place at notes p = record p { enabled = noted side place (earlier_at side at (state_in s p)) notes p.enabled }
