-- Pushes, pops and closes of streams with modules, worked out by hand (streamio(7I): I_PUSH, I_POP, I_LOOK; ldterm(7M); close(2)).
use Rattle.strm_rows.proofs.Prelude.{ℕ, ◌≡◌, true, false, List, [], ◌∷◌, map, refl, replicate, None, Some, Option, Done, Name, ByteStream, no_own}
use Rattle.strm_rows.proofs.Prelude.{MessageDiscard, MessageKeep, Open, Closed, QueueName, Master, Slave, Up, Down, MasterToSlave}
use Rattle.strm_rows.proofs.Prelude.{SlaveToMaster, EndClosed, ModulePopped, new_book, closed_at, Carried, Goes, carried, Message, cells_of, size_of}
use Rattle.strm_rows.proofs.Prelude.{is_held, band_of, is_high_priority, driver_of, module_named, Flow, at_end, Standing, module_line, module_name}
use Rattle.strm_rows.proofs.Prelude.{ldterm_stands, State, Stream, with_stream, flow, head_with, ordinary, proto, queue, header, without_parts, fresh}
use Rattle.strm_rows.proofs.Prelude.{PlainSlot, TCSETSW, Ioctl, Iocack, Free, Waiting, Answered}
use Rattle.strm_types.specs.declared.names.Place.TheVariants as places
use Rattle.strm_types.specs.declared.names.ModuleName.TheVariants as names
use Rattle.strm_laws.specs.Calls.{name_told}
use Rattle.strm_types.specs.Heads as heads
use Rattle.strm_types.specs.Options.{mode_number}
use Rattle.strm_laws.specs.Pushes.{may_stand, named_by, popped, pushed, pushed_named, top_on}
use Rattle.strm_laws.specs.Refusals.{none_waits_up}
use Rattle.strm_laws.specs.Past.{has_room_past, writer_waits}
use Rattle.strm_types.specs.Standings.{QueuePair}

-- a module with these messages on its read queue, whose bands are so, and on its write queue, and this unfinished line
abbrev holding : List (Message ℕ) → List Flow → List (Message ℕ) → List ℕ → Standing ℕ
holding above flows below line = ldterm_stands (record fresh { read_queue = queue above flows; write_queue = queue below []; line = line })

abbrev flows_of : Standing ℕ → List Flow
flows_of x = by x.queues
  where
    by : Option (QueuePair ℕ) → List Flow
    by None = []
    by (Some pair) = pair.read.flows

abbrev one : ℕ → List (Message ℕ)
one b = ordinary (b ∷ []) ∷ []

-- an open stream with these messages at its head, these modules, and these messages on its driver's queue
abbrev end : List (Message ℕ) → List (Standing ℕ) → List (Message ℕ) → Stream ℕ
end above ps below = record { opened = Open; head = head_with (queue above []) false; modules = ps; driver = record { queue = queue below [] } }

-- a pair of which the slave's stream has these modules, and these messages wait on the master's driver
abbrev pair : List (Message ℕ) → List (Standing ℕ) → List QueueName → State ℕ
pair waits ps enabled = record {
  ends = record { master = end [] [] waits; slave = end (one 1) ps (one 2) };
  locked = false;
  enabled = enabled;
  next_ioctl = 1;
  books = record { master = new_book; slave = new_book };
}

abbrev reads : QueueName
reads = record { side = Slave; place = places.Module names.Ldterm; way = Up }

abbrev writes : QueueName
writes = record { side = Slave; place = places.Module names.Ldterm; way = Down }

-- the module that is pushed stands on top, and the head reads messages from now on
pub push-stands-on-top : map module_line (pushed Slave (module_named no_own names.Ldterm) (pair [] (holding [] [] [] (9 ∷ []) ∷ []) [])).state.ends.slave.modules ≡ [] ∷ (9 ∷ []) ∷ []
unfolding carried cells_of size_of
push-stands-on-top = refl

pub push-sets-the-mode : (pushed Slave (module_named no_own names.Ldterm) (pair [] [] [])).state.ends.slave.head.read_mode ≡ MessageKeep
unfolding carried cells_of size_of
push-sets-the-mode = refl

pub push-lets-nothing-go : (pushed Slave (module_named no_own names.Ldterm) (pair (one 7) [] [])).gone ≡ []
unfolding carried cells_of size_of
push-lets-nothing-go = refl

-- what waits on the other side's driver may come, where anything waits there; and nothing where it is the master's stream that grows
pub push-lets-come : map (λ waits. (pushed Slave (module_named no_own names.Ldterm) (pair waits [] [])).state.enabled) ([] ∷ one 7 ∷ []) ≡ [] ∷ (driver_of Master ∷ []) ∷ []
unfolding carried cells_of size_of
push-lets-come = refl

pub push-on-the-other-side : (pushed Master (module_named no_own names.Ldterm) (pair (one 7) [] [])).state.enabled ≡ driver_of Slave ∷ []
unfolding carried cells_of size_of
push-on-the-other-side = refl

-- a module below with messages is let come before the driver
pub push-above-a-module : (pushed Slave (module_named no_own names.Ldterm) (pair (one 7) (holding (one 3) [] [] [] ∷ []) [])).state.enabled
    ≡ reads ∷ []
unfolding carried cells_of size_of
push-above-a-module = refl

pub push-by-name : map (λ name. map module_line (pushed_named Slave (named_by no_own name) (pair [] [] [])).state.ends.slave.modules)
    (None ∷ Some names.Ldterm ∷ Some names.Ptem ∷ Some names.Pckt ∷ []) ≡ [] ∷ ([] ∷ []) ∷ ([] ∷ []) ∷ ([] ∷ []) ∷ []
unfolding carried cells_of size_of
push-by-name = refl

-- one of a name stands once, beside others
pub stands-once : map (λ ps. may_stand {C = ℕ} (named_by no_own (Some names.Ldterm)) ps) ([] ∷ (module_named no_own names.Ldterm ∷ []) ∷ [])
    ≡ true ∷ false ∷ []
stands-once = refl

pub others-may-stand : map (λ name. map (λ ps. may_stand {C = ℕ} (named_by no_own (Some name)) ps) ((module_named no_own names.Ldterm ∷ []) ∷ (module_named no_own names.Ptem ∷ []) ∷ (module_named no_own names.Pckt ∷ []) ∷ []))
    (names.Ldterm ∷ names.Ptem ∷ names.Pckt ∷ []) ≡ (false ∷ true ∷ true ∷ []) ∷ (true ∷ false ∷ true ∷ []) ∷ (true ∷ true ∷ false ∷ []) ∷ []
others-may-stand = refl

-- a ptem is pushed as it is made, tells the head nothing and lets nothing come; its pop takes nothing with it
abbrev with_ptem : Carried ℕ (State ℕ)
with_ptem = pushed_named Slave (named_by no_own (Some names.Ptem)) (pair (one 7) (holding (one 3) [] (one 4) (5 ∷ []) ∷ []) [])

pub ptem-stands-on-top : map module_name with_ptem.state.ends.slave.modules ≡ names.Ptem ∷ names.Ldterm ∷ []
ptem-stands-on-top = refl

pub ptem-changes-no-more : (with_stream Slave (record with_ptem.state.ends.slave { modules = [] }) with_ptem.state) ≡ pair (one 7) [] []
ptem-changes-no-more = refl

pub ptem-is-popped : popped Slave with_ptem.state ≡ record { state = pair (one 7) (holding (one 3) [] (one 4) (5 ∷ []) ∷ []) []; gone = [] }
unfolding carried cells_of size_of
ptem-is-popped = refl

pub modes-by-number : map mode_number (ByteStream ∷ MessageDiscard ∷ MessageKeep ∷ []) ≡ 0 ∷ 1 ∷ 2 ∷ []
modes-by-number = refl

-- a pop takes the one on top: what stood on its read queue goes, then its line, then what stood on its write queue
abbrev taken_off : Carried ℕ (State ℕ)
taken_off = popped Slave (pair [] (holding (one 3) [] (one 4) (5 ∷ 6 ∷ []) ∷ holding [] [] [] (9 ∷ []) ∷ []) (writes ∷ driver_of Master ∷ reads ∷ []))

pub pop-takes-the-top : map module_line taken_off.state.ends.slave.modules ≡ (9 ∷ []) ∷ []
unfolding carried cells_of size_of
pop-takes-the-top = refl

pub pop-tells-what-goes : taken_off.gone
    ≡ Goes MasterToSlave ModulePopped (3 ∷ []) ∷ Goes MasterToSlave ModulePopped (5 ∷ 6 ∷ []) ∷ Goes SlaveToMaster ModulePopped (4 ∷ []) ∷ []
unfolding carried cells_of size_of
pop-tells-what-goes = refl

-- its queues have no turn any more
pub popped-queues-have-no-turn : taken_off.state.enabled ≡ driver_of Master ∷ []
unfolding carried cells_of size_of
popped-queues-have-no-turn = refl

abbrev head_popped : heads.Head ℕ
head_popped = (popped Slave (with_stream Slave (record (end [] (module_named no_own names.Ldterm ∷ []) []) { head = record (head_with (queue [] []) false) { read_mode = MessageKeep; tostop = true } }) (pair [] (module_named no_own names.Ldterm ∷ []) []))).state.ends.slave.head

pub pop-sets-the-mode : head_popped ≡ head_with (queue [] []) false
unfolding carried cells_of size_of
pop-sets-the-mode = refl

pub pop-of-nothing : popped Slave (pair (one 7) [] []) ≡ record { state = pair (one 7) [] []; gone = [] }
pop-of-nothing = refl

-- a writer that waited for its read queue is let go, though nothing stands on that writer's queue; one for its write queue is the head's
pub pop-lets-writers-go : (popped Slave (pair [] (holding (one 3) (flow 1 0 true ∷ []) (one 4) [] ∷ []) [])).state.enabled ≡ driver_of Master ∷ []
unfolding carried cells_of size_of
pop-lets-writers-go = refl

-- The ioctl under way ends with its M_IOCTL, where that stands on the write queue of the module that is popped; not with one of another number,
-- nor where it was answered, nor where none waits.
abbrev asked : ℕ → Message ℕ
asked number = without_parts Ioctl (header TCSETSW number 0)

-- a pair whose slave waits in this slot, and whose ldterm has these messages on its write queue
abbrev waiting : PlainSlot → List (Message ℕ) → State ℕ
waiting slot ms =
    let s = pair [] (holding [] [] ms [] ∷ []) [] in
    (with_stream Slave (record s.ends.slave { head = record s.ends.slave.head { ioctl = slot } }) s)

abbrev slot_of : Carried ℕ (State ℕ) → PlainSlot
slot_of t = t.state.ends.slave.head.ioctl

pub ioctl-goes-with-its-message : map (λ ms. slot_of (popped Slave (waiting (Waiting 7 TCSETSW) ms))) ((asked 7 ∷ []) ∷ (ordinary (1 ∷ []) ∷ asked 7 ∷ []) ∷ (asked 0 ∷ asked 7 ∷ asked 8 ∷ []) ∷ [])
    ≡ replicate 3 (Answered 7 TCSETSW false 1 [])
unfolding carried cells_of size_of
ioctl-goes-with-its-message = refl

pub ioctl-stays-without-it : map (λ ms. slot_of (popped Slave (waiting (Waiting 7 TCSETSW) ms))) ([] ∷ (asked 0 ∷ asked 8 ∷ []) ∷ (without_parts Iocack (header TCSETSW 7 0) ∷ []) ∷ (without_parts Ioctl [] ∷ []) ∷ (record (asked 7) { body = Some [] } ∷ []) ∷ [])
    ≡ Waiting 7 TCSETSW ∷ Waiting 7 TCSETSW ∷ Waiting 7 TCSETSW ∷ Waiting 7 TCSETSW ∷ Waiting 7 TCSETSW ∷ []
unfolding carried cells_of size_of
ioctl-stays-without-it = refl

pub other-slots-stay : map (λ slot. slot_of (popped Slave (waiting slot (asked 7 ∷ [])))) (Free ∷ Answered 7 TCSETSW true 0 (1 ∷ []) ∷ Answered 7 TCSETSW false 2 [] ∷ []) ≡ Free ∷ Answered 7 TCSETSW true 0 (1 ∷ []) ∷ Answered 7 TCSETSW false 2 [] ∷ []
unfolding carried cells_of size_of
other-slots-stay = refl

-- what stands on the read queue, on a module below or on the other side is another matter
pub only-below-the-top : map (λ ps. slot_of (popped Slave (let s = waiting (Waiting 7 TCSETSW) [] in (with_stream Slave (record s.ends.slave { modules = ps }) s)))) ((holding (asked 7 ∷ []) [] [] [] ∷ []) ∷ (module_named no_own names.Ptem ∷ holding [] [] (asked 7 ∷ []) [] ∷ []) ∷ [] ∷ []) ≡ Waiting 7 TCSETSW ∷ Waiting 7 TCSETSW ∷ Waiting 7 TCSETSW ∷ []
unfolding carried cells_of size_of
only-below-the-top = refl

pub only-on-its-side : slot_of (popped Master (waiting (Waiting 7 TCSETSW) (asked 7 ∷ []))) ≡ Waiting 7 TCSETSW
unfolding carried cells_of size_of
only-on-its-side = refl

pub look-names-the-top : map (λ ps. name_told (top_on Slave (pair [] ps []))) ([] ∷ (module_named no_own names.Ldterm ∷ []) ∷ (module_named no_own names.Ptem ∷ module_named no_own names.Ldterm ∷ []) ∷ []) ≡ Done ∷ Name names.Ldterm ∷ Name names.Ptem ∷ []
look-names-the-top = refl

-- A close takes the head's messages, then each module's from the top; the slave's driver keeps what it has.
abbrev shut : Carried ℕ (State ℕ)
shut = closed_at Slave (pair [] (holding (one 3) [] (one 4) (5 ∷ []) ∷ holding (one 6) [] [] [] ∷ []) (reads ∷ driver_of Slave ∷ []))

pub close-takes-modules : shut.gone
    ≡ Goes MasterToSlave EndClosed (1 ∷ [])
    ∷ Goes MasterToSlave EndClosed (3 ∷ []) ∷ Goes MasterToSlave EndClosed (5 ∷ []) ∷ Goes SlaveToMaster EndClosed (4 ∷ [])
    ∷ Goes MasterToSlave EndClosed (6 ∷ []) ∷ Goes SlaveToMaster EndClosed [] ∷ []
unfolding cells_of size_of
close-takes-modules = refl

pub close-leaves-none : shut.state.ends.slave.modules ≡ []
close-leaves-none = refl

pub close-ends-the-stream : shut.state.ends.slave.opened ≡ Closed
close-ends-the-stream = refl

pub closed-queues-have-no-turn : shut.state.enabled ≡ driver_of Slave ∷ []
unfolding cells_of size_of
closed-queues-have-no-turn = refl

-- The next queue past the master's driver is the module's read queue; below the slave's head, its write queue. One of another way
-- isn't asked.
abbrev crowded : State ℕ
crowded = with_stream Slave (record {
  opened = Open;
  head = head_with (queue (one 1) (flow 2 1 false ∷ [])) false;
  modules = ldterm_stands (record fresh { read_queue = queue (one 3) (flow 1 0 false ∷ []); write_queue = queue [] (flow 1 0 false ∷ []) }) ∷ [];
  driver = record { queue = queue (one 2) (flow 2 1 false ∷ []) };
}) (pair [] [] [])

pub modules-queue-is-asked : map (λ way. map (λ at. has_room_past Slave way at 0 crowded) (0 ∷ 1 ∷ 2 ∷ [])) (Up ∷ Down ∷ []) ≡ (true ∷ true ∷ false ∷ []) ∷ (true ∷ true ∷ true ∷ []) ∷ []
unfolding cells_of size_of band_of is_high_priority
modules-queue-is-asked = refl

pub writer-waits-at-the-module : map flows_of (writer_waits Slave Up 2 0 crowded).ends.slave.modules ≡ (flow 1 0 true ∷ []) ∷ []
writer-waits-at-the-module = refl

pub writer-waits-at-the-end : (writer_waits Slave Up 1 0 (with_stream Slave (record crowded.ends.slave { head = head_with (queue [] (flow 5 1 false ∷ [])) false }) crowded)).ends.slave.head.queue.flows ≡ flow 5 1 true ∷ []
writer-waits-at-the-end = refl

-- data that waits to go up at a module holds off the end of input; an unfinished line, and what waits to go down, don't
pub what-waits-up : map (λ p. none_waits_up (p ∷ [])) (holding (one 3) [] [] [] ∷ holding (proto ∷ []) [] [] [] ∷ holding [] [] (one 4) (5 ∷ []) ∷ []) ≡ false ∷ false ∷ true ∷ []
unfolding is_held
what-waits-up = refl

abbrev ending : List (Standing ℕ) → State ℕ
ending ps = with_stream Slave (record (end [] [] []) { opened = Closed }) (with_stream Master (end [] ps []) (pair [] [] []))

pub data-at-a-module-holds-off-the-end : map (λ ps. at_end Master (ending ps)) ([] ∷ (holding (one 3) [] [] [] ∷ []) ∷ (holding [] [] (one 4) (5 ∷ []) ∷ []) ∷ []) ≡ true ∷ false ∷ true ∷ []
unfolding is_held
data-at-a-module-holds-off-the-end = refl
