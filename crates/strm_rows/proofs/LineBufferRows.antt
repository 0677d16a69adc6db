-- What a line buffer does on the slave's stream, as worked out by hand: what stands on its write queue, what has gone on to the driver, and which
-- queues are enabled (putq(9F), getq(9F), flushq(9F), qenable(9F), srv(9E)).
use Rattle.strm_rows.proofs.Prelude.{ℕ, ◌≡◌, List, [], ◌∷◌, map, refl, replicate, None, Blocked, Moved, Open, QueueName, Master, Slave, Up, Down}
use Rattle.strm_rows.proofs.Prelude.{SlaveToMaster, Flushed, Fate, Goes, plain, carried, crosses, is_data_kind, Message, band_of, cells_of}
use Rattle.strm_rows.proofs.Prelude.{data_message}
use Rattle.strm_rows.proofs.Prelude.{is_held, is_high_priority, map_message, rank_of, size_of, caller_of, called, chunk_count, driver_of}
use Rattle.strm_rows.proofs.Prelude.{module_named}
use Rattle.strm_rows.proofs.Prelude.{new_stream, opening, ordinary, proto, State, TurnOutcome, turned, whole_turn, Write, with_stream}
use Rattle.strm_types.specs.declared.events.Event.TheVariants.{Flush}
use Rattle.strm_types.specs.declared.events.FlushQueues.TheVariants as flushes
use Rattle.strm_types.specs.declared.names.ModuleName.TheVariants as names
use Rattle.strm_types.specs.declared.names.Place.TheVariants as places
use Rattle.strm_types.specs.declared.spots.Asks.{Asks}
use Rattle.strm_types.specs.declared.spots.Asks.TheVariants as asked
use Rattle.strm_types.specs.OwnStands.{own_asked}
use Rattle.strm_laws.specs.Behaviours.{fresh_own, own_by}
use Rattle.strm_laws.specs.Pushes.{messages_on}
use Rattle.strm_rows.proofs.LineBuffer.{line_buffer}

-- a pair that is open, with a line buffer on the slave's stream
abbrev fresh : State ℕ
fresh =
    let buffer = module_named line_buffer (names.Own 128) in
    with_stream Master (record new_stream { opened = Open }) (with_stream Slave (record new_stream { opened = Open; modules = buffer ∷ [] }) opening)

abbrev waiting : QueueName
waiting = record { side = Slave; place = places.Module (names.Own 128); way = Down }

abbrev written : List ℕ → State ℕ → State ℕ
written bytes s = (called line_buffer plain (caller_of Slave) (Write bytes) s).state

-- what stands there, what has gone on, and which queues are enabled
pub record Seen : Type 0 where
  pub held : List (List ℕ)
  pub sent : List (List ℕ)
  pub enabled : List QueueName

abbrev seen : State ℕ → Seen
seen s = record { held = map cells_of (messages_on waiting s); sent = map cells_of s.ends.slave.driver.queue.messages; enabled = s.enabled }

abbrev turn : State ℕ → TurnOutcome ℕ
turn s = turned line_buffer plain waiting (whole_turn waiting s) s

-- "abc" waits, and enables the queue, which wanted to be read; a turn of it can do nothing
abbrev first : State ℕ
first = written (97 ∷ 98 ∷ 99 ∷ []) fresh

pub first-waits : seen first ≡ record { held = (97 ∷ 98 ∷ 99 ∷ []) ∷ []; sent = []; enabled = waiting ∷ [] }
unfolding carried chunk_count data_message rank_of band_of size_of cells_of is_high_priority map_message
first-waits = refl

abbrev idle : TurnOutcome ℕ
idle = turned line_buffer plain waiting Blocked first

pub no-line-no-turn : idle.turn ≡ Blocked
unfolding carried chunk_count data_message rank_of band_of size_of cells_of is_high_priority map_message
no-line-no-turn = refl

pub blocked-queue-waits : seen idle.state ≡ record { held = (97 ∷ 98 ∷ 99 ∷ []) ∷ []; sent = []; enabled = [] }
unfolding carried chunk_count data_message rank_of band_of size_of cells_of is_high_priority map_message
blocked-queue-waits = refl

-- more that is no line enables nothing
pub more-waits : (written (100 ∷ []) idle.state).enabled ≡ []
unfolding carried chunk_count data_message rank_of band_of size_of cells_of is_high_priority map_message
more-waits = refl

-- "def" and NL make a line whole: the queue is enabled again, and two turns let both messages go
abbrev line : State ℕ
line = written (100 ∷ 101 ∷ 102 ∷ 10 ∷ []) idle.state

pub line-is-whole : seen line
    ≡ record { held = (97 ∷ 98 ∷ 99 ∷ []) ∷ (100 ∷ 101 ∷ 102 ∷ 10 ∷ []) ∷ []; sent = []; enabled = waiting ∷ [] }
unfolding carried chunk_count data_message rank_of band_of size_of cells_of is_high_priority map_message
line-is-whole = refl

pub first-goes : (turn line).turn ≡ Moved 3
unfolding carried chunk_count data_message rank_of band_of size_of cells_of is_high_priority map_message is_held crosses
first-goes = refl

pub rest-waits-its-turn : seen (turn line).state
    ≡ record { held = (100 ∷ 101 ∷ 102 ∷ 10 ∷ []) ∷ []; sent = (97 ∷ 98 ∷ 99 ∷ []) ∷ []; enabled = driver_of Slave ∷ waiting ∷ [] }
unfolding carried chunk_count data_message rank_of band_of size_of cells_of is_high_priority map_message is_held crosses
rest-waits-its-turn = refl

pub all-goes : seen (turn (turn line).state).state
    ≡ record { held = []; sent = (97 ∷ 98 ∷ 99 ∷ []) ∷ (100 ∷ 101 ∷ 102 ∷ 10 ∷ []) ∷ []; enabled = driver_of Slave ∷ [] }
unfolding carried chunk_count data_message rank_of band_of size_of cells_of is_high_priority map_message is_held crosses
all-goes = refl

-- a flush of what was written takes what waits, and then what the driver and the master's head have, which is nothing
abbrev flushed : State ℕ
flushed = (called line_buffer plain (caller_of Slave) (Flush flushes.Write None) line).state

pub flush-takes-it : map cells_of (messages_on waiting flushed) ≡ []
unfolding carried chunk_count data_message rank_of band_of size_of cells_of is_high_priority map_message is_held crosses is_data_kind
flush-takes-it = refl

pub flushed-is-told : (called line_buffer plain (caller_of Slave) (Flush flushes.Write None) line).gone
    ≡ Goes SlaveToMaster Flushed (97 ∷ 98 ∷ 99 ∷ 100 ∷ 101 ∷ 102 ∷ 10 ∷ []) ∷ Goes SlaveToMaster Flushed [] ∷ Goes SlaveToMaster Flushed [] ∷ []
unfolding carried chunk_count data_message rank_of band_of size_of cells_of is_high_priority map_message is_held crosses is_data_kind
flushed-is-told = refl

-- 128 bytes need no NL, and 127 wait
abbrev asks : List (Message ℕ) → Asks
asks ms = own_asked (own_by line_buffer plain) Down (fresh_own line_buffer 128) ms

pub many-go : map (λ n. asks (ordinary (replicate n 97) ∷ [])) (0 ∷ 127 ∷ 128 ∷ []) ≡ asked.Held ∷ asked.Held ∷ asked.Room (record { 0 = 0 }) ∷ []
unfolding data_message rank_of band_of size_of cells_of is_high_priority map_message
many-go = refl
