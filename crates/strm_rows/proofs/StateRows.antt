-- What calls and turns compute, case by case, as worked out by hand from the manual pages.
use Rattle.strm_rows.proofs.Prelude.{ℕ, ◌≡◌, Bool, true, false, List, [], ◌∷◌, length, map, refl, replicate, Done, Bytes, Turn, Moved, Blocked, Idle}
use Rattle.strm_rows.proofs.Prelude.{Caller, OpenMaster, Unlock, OpenSlave, Write, Dir, MasterToSlave, SlaveToMaster, Openness, Never, Open, Closed}
use Rattle.strm_rows.proofs.Prelude.{QueueName, Side, Master, Slave, Down, Tagged, Written, plain, tagged, cells_written, caller_of, Message, no_own}
use Rattle.strm_rows.proofs.Prelude.{data_message, is_held, rank_of, band_of, size_of, cells_of, is_high_priority, driver_of, head_of, Queue, Flow}
use Rattle.strm_rows.proofs.Prelude.{new_book, State, Stream, opening, new_stream, messages_in, chunk_count, TurnOutcome, driver_serves, turned}
use Rattle.strm_rows.proofs.Prelude.{whole_turn, Fate, Goes, carried, content_of, called, head_with, flow, queue, ordinary, proto, urgent}
use Rattle.strm_types.specs.declared.names.ModuleName.TheVariants as names
use Rattle.strm_types.specs.declared.names.Place.TheVariants as places
use Rattle.strm_types.specs.declared.events.Event.TheVariants.{Read}
use Rattle.strm_types.specs.declared.rules.Rule.TheVariants as rules

abbrev caller : Side → Caller
caller side = caller_of side

-- a queue that nobody wants to read, as one is whose last turn left messages there
abbrev busy : List (Message ℕ) → List Flow → Queue ℕ
busy messages flows = record { messages = messages; flows = flows; want_read = false; no_enable = false }

abbrev end : Openness → Queue ℕ → Queue ℕ → Stream ℕ
end opened head driver = record { opened = opened; head = head_with head false; modules = []; driver = record { queue = driver } }

-- a pair of these two streams, of which these queues are enabled
abbrev pair : Stream ℕ → Stream ℕ → List QueueName → State ℕ
pair master slave enabled = record {
  ends = record { master = master; slave = slave };
  locked = true;
  enabled = enabled;
  next_ioctl = 1;
  books = record { master = new_book; slave = new_book };
}

abbrev idle_end : Stream ℕ
idle_end = end Open (queue [] []) (queue [] [])

-- a pair as it is made

pub made-locked : opening {C = ℕ} ≡ pair new_stream new_stream []
made-locked = refl

pub streams-are-made-so : new_stream {C = ℕ} ≡ end Never (queue [] (replicate 256 (flow 5120 1024 false))) (queue [] (replicate 256 (flow 512 128 false)))
streams-are-made-so = refl

pub messages-are-counted : messages_in (pair (end Open (queue (proto ∷ []) []) (queue (proto ∷ proto ∷ []) [])) (end Open (queue (proto ∷ proto ∷ proto ∷ proto ∷ []) []) (queue (replicate 8 proto) [])) []) ≡ 15
messages-are-counted = refl

-- opening and unlocking

pub master-opens : called no_own plain (caller Master) OpenMaster opening ≡ record { answer = Done; state = pair (record new_stream { opened = Open }) new_stream []; came = []; gone = [] }
master-opens = refl

pub unlocked : (called no_own plain (caller Master) Unlock opening).state.locked ∷ (called no_own plain (caller Master) OpenSlave opening).state.locked ∷ [] ≡ false ∷ true ∷ []
unlocked = refl

-- the slave's head is as new, and its driver is as it was; the master's driver is enabled where messages wait for it
abbrev waiting : List (Message ℕ) → Stream ℕ
waiting messages = end Open (queue [] []) (busy messages [])

pub slave-opens-anew : called no_own plain (caller Slave) OpenSlave (pair (waiting (proto ∷ [])) (end Closed (queue (proto ∷ []) []) (busy (proto ∷ []) [])) []) ≡ record { answer = Done; state = pair (waiting (proto ∷ [])) (end Open (queue [] (replicate 256 (flow 5120 1024 false))) (busy (proto ∷ []) [])) (driver_of Master ∷ []); came = []; gone = [] }
slave-opens-anew = refl

pub slave-opens-on-nothing : (called no_own plain (caller Slave) OpenSlave (pair (waiting []) (waiting (proto ∷ [])) [])).state.enabled ≡ []
slave-opens-on-nothing = refl

-- writes: the bytes are booked by the writer's direction, as those behind what was written before

pub written-bytes-have-their-places : cells_written tagged SlaveToMaster 5 (97 ∷ 98 ∷ []) ≡ record { byte = 97; origin = Written SlaveToMaster 5 } ∷ record { byte = 98; origin = Written SlaveToMaster 6 } ∷ []
written-bytes-have-their-places = refl

abbrev written_twice : State Tagged
written_twice =
    (called no_own tagged (caller Slave) (Write (98 ∷ 99 ∷ [])) (called no_own tagged (caller Slave) (Write (97 ∷ [])) opening).state).state

pub second-write-is-booked-behind-the-first : map cells_of written_twice.ends.slave.driver.queue.messages ≡ cells_written tagged SlaveToMaster 0 (97 ∷ []) ∷ cells_written tagged SlaveToMaster 1 (98 ∷ 99 ∷ []) ∷ []
unfolding carried chunk_count data_message rank_of band_of size_of cells_of is_high_priority
second-write-is-booked-behind-the-first = refl

pub books-after-two-writes : written_twice.books.slave.written ∷ written_twice.books.slave.made ∷ written_twice.books.master.written ∷ [] ≡ 3 ∷ 0 ∷ 0 ∷ []
unfolding carried chunk_count data_message rank_of band_of size_of cells_of is_high_priority
books-after-two-writes = refl

-- only what was taken is booked
pub refused-bytes-are-not-booked : (called no_own plain (caller Master) (Write (replicate 600 97)) opening).state.books.master ≡ record { written = 512; made = 0 }
unfolding carried chunk_count data_message rank_of band_of size_of cells_of is_high_priority
refused-bytes-are-not-booked = refl

-- a write enables the writer's driver once
pub write-enables-its-driver : written_twice.enabled ≡ driver_of Slave ∷ []
unfolding carried chunk_count data_message rank_of band_of size_of cells_of is_high_priority
write-enables-its-driver = refl

-- where the master is closed, what the slave writes goes at once
pub write-to-nobody-goes : (called no_own plain (caller Slave) (Write (97 ∷ 98 ∷ [])) (pair (end Closed (queue [] []) (queue [] [])) (end Open (queue [] []) (queue [] (flow 9 2 false ∷ []))) [])).gone
    ≡ Goes SlaveToMaster rules.EndClosed (97 ∷ 98 ∷ []) ∷ []
unfolding carried chunk_count data_message rank_of band_of size_of cells_of is_high_priority
write-to-nobody-goes = refl

-- a write of band 0 enables no driver that is busy, but one that had an idle turn

abbrev idle : TurnOutcome ℕ
idle = turned no_own plain (driver_of Master) Idle (pair (end Open (queue [] []) (busy [] (flow 9 2 false ∷ []))) idle_end (driver_of Master ∷ []))

pub idle-turn-wants-to-be-read : idle ≡ record { turn = Idle; state = pair (end Open (queue [] []) (queue [] (flow 9 2 false ∷ []))) idle_end []; gone = [] }
idle-turn-wants-to-be-read = refl

pub write-after-an-idle-turn-enables : (called no_own plain (caller Master) (Write (97 ∷ [])) idle.state).state.enabled ≡ driver_of Master ∷ []
unfolding carried chunk_count data_message rank_of band_of size_of cells_of is_high_priority
write-after-an-idle-turn-enables = refl

pub write-on-a-busy-driver-enables-nothing : (called no_own plain (caller Master) (Write (97 ∷ [])) (pair (end Open (queue [] []) (busy [] (flow 9 2 false ∷ []))) idle_end [])).state.enabled ≡ []
unfolding carried chunk_count data_message rank_of band_of size_of cells_of is_high_priority
write-on-a-busy-driver-enables-nothing = refl

-- two writers: their drivers are enabled in the order of their writes, and a turn that leaves more puts its queue last

abbrev two_enabled : State ℕ
two_enabled = (called no_own plain (caller Master) (Write (98 ∷ [])) (called no_own plain (caller Slave) (Write (97 ∷ [])) opening).state).state

pub enabled-in-order-of-writing : two_enabled.enabled ≡ driver_of Slave ∷ driver_of Master ∷ []
unfolding carried chunk_count data_message rank_of band_of size_of cells_of is_high_priority
enabled-in-order-of-writing = refl

abbrev three : List (Message ℕ)
three = ordinary (97 ∷ []) ∷ ordinary (98 ∷ 99 ∷ []) ∷ []

abbrev roomy : List Flow
roomy = flow 9 2 false ∷ []

pub turn-that-leaves-more-goes-last : turned no_own plain (driver_of Slave) Idle (pair (end Open (queue [] roomy) (queue [] [])) (end Open (queue [] []) (queue three roomy)) (driver_of Slave ∷ driver_of Master ∷ [])) ≡ record { turn = Moved 1; state = pair (end Open (queue (ordinary (97 ∷ []) ∷ []) roomy) (queue [] [])) (end Open (queue [] []) (busy (ordinary (98 ∷ 99 ∷ []) ∷ []) roomy)) (driver_of Master ∷ driver_of Slave ∷ []); gone = [] }
unfolding carried rank_of band_of size_of cells_of is_high_priority is_held
turn-that-leaves-more-goes-last = refl

-- the last message: the queue wants to be read again, and isn't enabled
pub turn-of-the-last-message : turned no_own plain (driver_of Master) Idle (pair (end Open (queue [] []) (busy (ordinary (97 ∷ []) ∷ []) roomy)) (end Open (queue [] roomy) (queue [] [])) (driver_of Master ∷ [])) ≡ record { turn = Moved 1; state = pair (end Open (queue [] []) (queue [] roomy)) (end Open (queue (ordinary (97 ∷ []) ∷ []) roomy) (queue [] [])) []; gone = [] }
unfolding carried rank_of band_of size_of cells_of is_high_priority is_held
turn-of-the-last-message = refl

-- What a turn of a driver with these messages and flows does, towards a head with one message of two bytes.

abbrev serves : Openness → List (Message ℕ) → List Flow → List Flow → TurnOutcome ℕ
serves opened messages below above = driver_serves no_own plain Master messages (pair (end Open (queue [] []) (queue messages below)) (end opened (queue (ordinary (7 ∷ 8 ∷ []) ∷ []) above) (queue [] [])) [])

abbrev served : Turn → Openness → List (Message ℕ) → List Flow → List (Message ℕ) → List Flow → Bool → List QueueName → TurnOutcome ℕ
served turn opened messages below heads above want_read enabled = record {
  turn = turn;
  state = pair (end Open (queue [] []) (record { messages = messages; flows = below; want_read = want_read; no_enable = false })) (end opened (queue heads above) (queue [] [])) enabled;
  gone = [];
}

pub no-turn-towards-a-side-that-is-closed : map (λ opened. serves opened three roomy roomy) (Never ∷ Closed ∷ []) ≡ served Blocked Never three roomy (ordinary (7 ∷ 8 ∷ []) ∷ []) roomy false [] ∷ served Blocked Closed three roomy (ordinary (7 ∷ 8 ∷ []) ∷ []) roomy false [] ∷ []
no-turn-towards-a-side-that-is-closed = refl

-- two bytes at the mark of two: the head is full, and a writer waits there
pub full-head-blocks : serves Open three roomy (flow 2 1 false ∷ []) ≡ served Blocked Open three roomy (ordinary (7 ∷ 8 ∷ []) ∷ []) (flow 2 1 true ∷ []) false []
unfolding carried band_of size_of cells_of is_high_priority is_held
full-head-blocks = refl

-- a band of its own isn't full, and its own mark holds an M_PROTO back
pub other-band-goes-on : (serves Open (proto ∷ []) [] (flow 2 1 false ∷ flow 2 1 false ∷ flow 1 0 false ∷ [])).turn ≡ Moved 5
unfolding carried rank_of band_of size_of cells_of is_high_priority is_held
other-band-goes-on = refl

pub full-band-blocks : (serves Open (proto ∷ []) [] (flow 2 1 false ∷ flow 2 1 false ∷ flow 0 0 false ∷ [])).state.ends.slave.head.queue.flows ≡ flow 2 1 false ∷ flow 2 1 false ∷ flow 0 0 true ∷ []
unfolding carried band_of size_of cells_of is_high_priority is_held
full-band-blocks = refl

-- no flow control holds a message of high priority back; it goes before what stands there
pub urgent-goes-on : serves Open (urgent ∷ three) roomy (flow 2 1 false ∷ []) ≡ served (Moved 1) Open three roomy (urgent ∷ ordinary (7 ∷ 8 ∷ []) ∷ []) (flow 2 1 false ∷ []) false (driver_of Master ∷ [])
unfolding carried rank_of band_of size_of cells_of is_high_priority is_held
urgent-goes-on = refl

-- a turn lets writers of its own queue go at the low mark: two bytes are left, at the mark two and at one
pub turn-relieves-its-queue : map (λ low. (serves Open three (flow 9 low true ∷ []) roomy).state.ends.master.driver.queue.flows) (2 ∷ 1 ∷ []) ≡ (flow 9 2 false ∷ []) ∷ (flow 9 1 true ∷ []) ∷ []
unfolding carried rank_of band_of size_of cells_of is_high_priority is_held
turn-relieves-its-queue = refl

-- a zero-length message that goes on lets nobody go
pub empty-turn-relieves-nobody : serves Open (ordinary [] ∷ []) (flow 9 2 true ∷ []) roomy ≡ served (Moved 0) Open [] (flow 9 2 true ∷ []) (ordinary (7 ∷ 8 ∷ []) ∷ ordinary [] ∷ []) roomy true []
unfolding carried rank_of band_of size_of cells_of is_high_priority is_held
empty-turn-relieves-nobody = refl

-- queues with no service: nothing but that they aren't enabled any more
pub other-turns-are-idle : map (λ name. turned no_own plain name Idle (pair idle_end idle_end (head_of Slave ∷ record { side = Slave; place = places.Module names.Ldterm; way = Down } ∷ []))) (head_of Slave ∷ record { side = Slave; place = places.Module names.Ldterm; way = Down } ∷ []) ≡ record { turn = Idle; state = pair idle_end idle_end (record { side = Slave; place = places.Module names.Ldterm; way = Down } ∷ []); gone = [] } ∷ record { turn = Idle; state = pair idle_end idle_end (head_of Slave ∷ []); gone = [] } ∷ []
other-turns-are-idle = refl

pub whole-turns : map (λ name. whole_turn name (pair (waiting three) (waiting []) [])) (driver_of Master ∷ driver_of Slave ∷ head_of Master ∷ record { side = Slave; place = places.Module names.Ldterm; way = Down } ∷ []) ≡ Moved 1 ∷ Moved 0 ∷ Idle ∷ Idle ∷ []
unfolding size_of cells_of
whole-turns = refl

-- Reads: the slave's head has "abc", its low mark is as given, and a writer waits.

abbrev above : ℕ → Bool → State ℕ
above low want_write = pair (waiting []) (end Open (queue (ordinary (97 ∷ 98 ∷ 99 ∷ []) ∷ []) (flow 9 low want_write ∷ [])) (queue [] [])) []

-- what goes by a read that gives these bytes
abbrev given : Dir → List ℕ → List (Fate ℕ)
given dir bytes = Goes dir rules.Read bytes ∷ Goes dir rules.RestDiscarded [] ∷ Goes dir rules.ControlDropped [] ∷ []

-- a read of one byte leaves two: at the low mark the other side's driver is enabled
pub read-down-to-the-low-mark : called no_own plain (caller Slave) (Read 1) (above 2 true) ≡ record { answer = Bytes (97 ∷ []); state = pair (waiting []) (end Open (busy (ordinary (98 ∷ 99 ∷ []) ∷ []) (flow 9 2 false ∷ [])) (queue [] [])) (driver_of Master ∷ []); came = []; gone = given MasterToSlave (97 ∷ []) }
unfolding rank_of band_of size_of cells_of is_high_priority
read-down-to-the-low-mark = refl

-- and one above it nothing is
pub read-to-one-above-the-low-mark : called no_own plain (caller Slave) (Read 1) (above 1 true) ≡ record { answer = Bytes (97 ∷ []); state = pair (waiting []) (end Open (busy (ordinary (98 ∷ 99 ∷ []) ∷ []) (flow 9 1 true ∷ [])) (queue [] [])) []; came = []; gone = given MasterToSlave (97 ∷ []) }
unfolding rank_of band_of size_of cells_of is_high_priority
read-to-one-above-the-low-mark = refl

pub read-where-nobody-waits : (called no_own plain (caller Slave) (Read 3) (above 2 false)).state.enabled ≡ []
unfolding rank_of band_of size_of cells_of is_high_priority
read-where-nobody-waits = refl

pub read-of-nothing-changes-nothing : called no_own plain (caller Slave) (Read 0) (above 9 true) ≡ record { answer = Bytes []; state = above 9 true; came = []; gone = [] }
read-of-nothing-changes-nothing = refl

-- a read that removes a zero-length message gives no bytes, and lets nobody go
pub empty-read-relieves-nobody : called no_own plain (caller Master) (Read 4) (pair (end Open (queue (ordinary [] ∷ []) (flow 9 2 true ∷ [])) (queue [] [])) (waiting []) []) ≡ record { answer = Bytes []; state = pair (end Open (busy [] (flow 9 2 true ∷ [])) (queue [] [])) (waiting []) []; came = []; gone = given SlaveToMaster [] }
unfolding size_of cells_of
empty-read-relieves-nobody = refl

pub read-gives-4096-at-most : map (λ n. length (content_of (called no_own plain (caller Slave) (Read n) (pair (waiting []) (end Open (queue (ordinary (replicate 4098 97) ∷ []) []) (queue [] [])) [])).answer)) (4095 ∷ 4097 ∷ []) ≡ 4095 ∷ 4096 ∷ []
unfolding rank_of band_of size_of cells_of is_high_priority
read-gives-4096-at-most = refl
