-- What the definitions of flushes and closes compute, case by case, as worked out by hand from the manual pages.
use Rattle.strm_rows.proofs.Prelude.{ℕ, ◌≡◌, Bool, true, false, List, [], ◌∷◌, map, refl, replicate, Option, None, Some, Done, Bytes, Caller, Both}
use Rattle.strm_rows.proofs.Prelude.{Band, Dir, MasterToSlave, SlaveToMaster, Openness, Never, Open, Closed, QueueName, Side, Master, Slave, Rule}
use Rattle.strm_rows.proofs.Prelude.{new_book, called, plain, Fate, Goes, Carried, carried, closed_at, is_data_kind, caller_of, Message, no_own}
use Rattle.strm_rows.proofs.Prelude.{is_high_priority, band_of, size_of, cells_of, driver_of, Queue, Flow, new_queue, State, Stream, head_with, flow}
use Rattle.strm_rows.proofs.Prelude.{queue, ordinary, proto, urgent, options}
use Rattle.strm_types.specs.declared.events.Event.TheVariants as events
use Rattle.strm_types.specs.declared.events.FlushQueues.TheVariants.{Read, Write}
use Rattle.strm_types.specs.declared.rules.Rule.TheVariants as rules
use Rattle.strm_laws.specs.Closes.{head_emptied, driver_emptied, hung_up_at, ended}
use Rattle.strm_types.specs.Emptied.{of_data, of_all, stayed, cells_gone, emptied, queue_behind, writer_goes}
use Rattle.strm_laws.specs.Puts.{flushed_on}

abbrev band : ℕ → Option Band
band n = Some (record { 0 = n })

-- which messages go: of band 2, of band 0 with those of high priority, of all bands, and not of data alone

abbrev several : List (Message ℕ)
several = urgent ∷ proto ∷ options ∷ ordinary (7 ∷ 8 ∷ []) ∷ []

pub flush-of-a-band-leaves-the-others : stayed (of_data (band 2)) several ≡ urgent ∷ options ∷ ordinary (7 ∷ 8 ∷ []) ∷ []
unfolding is_data_kind is_high_priority
flush-of-a-band-leaves-the-others = refl

pub flush-of-band-zero-leaves-the-others : stayed (of_data (band 0)) several ≡ proto ∷ options ∷ []
unfolding is_data_kind is_high_priority
flush-of-band-zero-leaves-the-others = refl

-- the band of an M_SETOPTS, which isn't data, and the one that the M_PCPROTO names
pub flush-of-a-band-without-data : map (λ n. stayed (of_data (band n)) several) (1 ∷ 3 ∷ []) ≡ several ∷ several ∷ []
unfolding is_data_kind is_high_priority
flush-of-a-band-without-data = refl

pub flush-of-all-bands-leaves-what-is-no-data : stayed (of_data None) several ≡ options ∷ []
unfolding is_data_kind
flush-of-all-bands-leaves-what-is-no-data = refl

pub close-leaves-nothing : stayed of_all several ≡ []
close-leaves-nothing = refl

pub cells-go-in-their-order : map (λ chosen. cells_gone chosen several) (of_data (band 0) ∷ of_data (band 2) ∷ of_data (band 1) ∷ of_all ∷ []) ≡ (9 ∷ 7 ∷ 8 ∷ []) ∷ (1 ∷ 2 ∷ 3 ∷ 4 ∷ 5 ∷ []) ∷ [] ∷ (9 ∷ 1 ∷ 2 ∷ 3 ∷ 4 ∷ 5 ∷ 7 ∷ 8 ∷ []) ∷ []
unfolding is_data_kind is_high_priority cells_of
cells-go-in-their-order = refl

-- a queue that has been emptied

abbrev rested : Bool → List (Message ℕ) → List Flow → Queue ℕ
rested want_read messages flows = record { messages = messages; flows = flows; want_read = want_read; no_enable = true }

-- it wants to be read where nothing is left, or where it did before
pub empty-queue-wants-to-be-read : map (emptied (of_data None)) (rested false (proto ∷ []) [] ∷ rested false (proto ∷ options ∷ []) [] ∷ rested true (options ∷ []) [] ∷ rested false [] [] ∷ []) ≡ rested true [] [] ∷ rested false (options ∷ []) [] ∷ rested true (options ∷ []) [] ∷ rested true [] [] ∷ []
unfolding is_data_kind
empty-queue-wants-to-be-read = refl

-- Writers wait in each band. Where bytes went, those go whose band is down to its low mark: band 2 is, band 0 isn't.
abbrev waited : List (Message ℕ) → Queue ℕ
waited messages = rested false messages (flow 9 1 true ∷ flow 9 0 false ∷ flow 9 0 true ∷ [])

pub writers-go-at-the-low-mark : queue_behind (of_data (band 2)) (waited (proto ∷ ordinary (7 ∷ 8 ∷ []) ∷ [])) ≡ rested false (ordinary (7 ∷ 8 ∷ []) ∷ []) (flow 9 1 true ∷ flow 9 0 false ∷ flow 9 0 false ∷ [])
unfolding is_data_kind is_high_priority band_of size_of cells_of
writers-go-at-the-low-mark = refl

-- no byte went: with no message, and with one of no bytes
pub no-writer-goes-where-no-byte-does : map (queue_behind (of_data None)) (waited (options ∷ []) ∷ waited (ordinary [] ∷ []) ∷ []) ≡ waited (options ∷ []) ∷ rested true [] (flow 9 1 true ∷ flow 9 0 false ∷ flow 9 0 true ∷ []) ∷ []
unfolding is_data_kind is_high_priority band_of size_of cells_of
no-writer-goes-where-no-byte-does = refl

-- a byte of an M_SETOPTS, which is no cell, goes too
pub writers-go : map (writer_goes (of_data (band 2))) (waited (proto ∷ ordinary (7 ∷ 8 ∷ []) ∷ []) ∷ waited (ordinary [] ∷ []) ∷ waited (options ∷ []) ∷ rested true (proto ∷ []) (flow 9 9 false ∷ []) ∷ []) ≡ true ∷ false ∷ false ∷ false ∷ []
unfolding is_data_kind is_high_priority band_of size_of cells_of
writers-go = refl

pub writers-go-with-bytes-that-are-no-cells : writer_goes of_all (waited (options ∷ [])) ∷ writer_goes (of_data None) (waited (options ∷ [])) ∷ [] ≡ true ∷ false ∷ []
unfolding is_data_kind is_high_priority band_of size_of cells_of
writers-go-with-bytes-that-are-no-cells = refl

-- a pair, on each queue of which one byte stands

abbrev caller : Side → Caller
caller side = caller_of side

abbrev end : Openness → Queue ℕ → Queue ℕ → Stream ℕ
end opened head driver = record { opened = opened; head = head_with head false; modules = []; driver = record { queue = driver } }

abbrev pair : Stream ℕ → Stream ℕ → State ℕ
pair master slave = record {
  ends = record { master = master; slave = slave };
  locked = false;
  enabled = [];
  next_ioctl = 1;
  books = record { master = new_book; slave = new_book };
}

abbrev one : ℕ → Queue ℕ
one byte = queue (ordinary (byte ∷ []) ∷ []) []

abbrev none : Queue ℕ
none = queue [] []

abbrev ones : Openness → Openness → State ℕ
ones master slave = pair (end master (one 1) (one 2)) (end slave (one 3) (one 4))

abbrev fate : Rule → Dir → List ℕ → Fate ℕ
fate rule dir cells = Goes dir rule cells

abbrev down : ℕ → Fate ℕ
down byte = fate rules.Flushed MasterToSlave (byte ∷ [])

abbrev up : ℕ → Fate ℕ
up byte = fate rules.Flushed SlaveToMaster (byte ∷ [])

abbrev leads : State ℕ → List (Fate ℕ) → Carried ℕ (State ℕ)
leads s gone = record { state = s; gone = gone }

-- FLUSHW: the side's own driver, and then the head across
pub flush-of-the-masters-writes : flushed_on no_own plain None Master Write (ones Open Open) ≡ leads (pair (end Open (one 1) none) (end Open none (one 4))) (down 2 ∷ down 3 ∷ [])
unfolding carried is_data_kind size_of cells_of
flush-of-the-masters-writes = refl

pub flush-of-the-slaves-writes : flushed_on no_own plain None Slave Write (ones Open Open) ≡ leads (pair (end Open none (one 2)) (end Open (one 3) none)) (up 4 ∷ up 1 ∷ [])
unfolding carried is_data_kind size_of cells_of
flush-of-the-slaves-writes = refl

-- FLUSHR: the driver across, and then the side's own head
pub flush-of-the-masters-reads : flushed_on no_own plain None Master Read (ones Open Open) ≡ leads (pair (end Open none (one 2)) (end Open (one 3) none)) (up 4 ∷ up 1 ∷ [])
unfolding carried is_data_kind size_of cells_of
flush-of-the-masters-reads = refl

pub flush-of-the-slaves-reads : flushed_on no_own plain None Slave Read (ones Open Open) ≡ leads (pair (end Open (one 1) none) (end Open none (one 4))) (down 2 ∷ down 3 ∷ [])
unfolding carried is_data_kind size_of cells_of
flush-of-the-slaves-reads = refl

-- FLUSHRW: first what was written, then what is to be read
pub flush-of-both : map (λ side. flushed_on no_own plain None side Both (ones Open Open)) (Master ∷ Slave ∷ []) ≡ leads (pair (end Open none none) (end Open none none)) (down 2 ∷ down 3 ∷ up 4 ∷ up 1 ∷ []) ∷ leads (pair (end Open none none) (end Open none none)) (up 4 ∷ up 1 ∷ down 2 ∷ down 3 ∷ []) ∷ []
unfolding carried is_data_kind size_of cells_of
flush-of-both = refl

-- what a driver sends up reaches no head of a side that isn't open
pub flush-towards-a-side-that-is-closed : map (λ slave. flushed_on no_own plain None Master Write (ones Open slave)) (Never ∷ Closed ∷ []) ≡ leads (pair (end Open (one 1) none) (end Never (one 3) (one 4))) (down 2 ∷ []) ∷ leads (pair (end Open (one 1) none) (end Closed (one 3) (one 4))) (down 2 ∷ []) ∷ []
unfolding carried is_data_kind size_of cells_of
flush-towards-a-side-that-is-closed = refl

pub flush-on-a-side-that-is-closed : flushed_on no_own plain None Slave Both (ones Open Closed) ≡ leads (pair (end Open none none) (end Closed (one 3) none)) (up 4 ∷ up 1 ∷ down 2 ∷ [])
unfolding carried is_data_kind size_of cells_of
flush-on-a-side-that-is-closed = refl

-- a flush of a band, as a call: nothing else goes, and nothing is told
abbrev banded : Stream ℕ
banded = end Open none (queue several [])

pub flush-call : map (λ asked. called no_own plain (caller Master) asked (pair banded (end Open none none))) (events.Flush Write (band 2) ∷ events.Flush Write None ∷ events.Flush Read (band 2) ∷ []) ≡
    record { answer = Done; state = pair (end Open none (queue (urgent ∷ options ∷ ordinary (7 ∷ 8 ∷ []) ∷ []) [])) (end Open none none); came = []; gone = fate rules.Flushed MasterToSlave (1 ∷ 2 ∷ 3 ∷ 4 ∷ 5 ∷ []) ∷ fate rules.Flushed MasterToSlave [] ∷ [] }
    ∷ record { answer = Done; state = pair (end Open none (queue (options ∷ []) [])) (end Open none none); came = []; gone = fate rules.Flushed MasterToSlave (9 ∷ 1 ∷ 2 ∷ 3 ∷ 4 ∷ 5 ∷ 7 ∷ 8 ∷ []) ∷ fate rules.Flushed MasterToSlave [] ∷ [] }
    ∷ record { answer = Done; state = pair banded (end Open none none); came = []; gone = fate rules.Flushed SlaveToMaster [] ∷ fate rules.Flushed SlaveToMaster [] ∷ [] }
    ∷ []
unfolding carried is_data_kind is_high_priority size_of cells_of
flush-call = refl

-- pops and looks where no module stands change nothing
pub other-calls-change-nothing : map (λ asked. called no_own plain (caller Slave) asked (ones Open Open)) (events.Pop ∷ events.Look ∷ []) ≡ replicate 2 (record { answer = Done; state = ones Open Open; came = []; gone = [] })
other-calls-change-nothing = refl

-- writers that are let go

abbrev full : Queue ℕ
full = queue (ordinary (7 ∷ 8 ∷ []) ∷ []) (flow 2 0 true ∷ [])

abbrev freed : Queue ℕ
freed = queue [] (flow 2 0 false ∷ [])

abbrev enabling : List QueueName → State ℕ → State ℕ
enabling names s = record s { enabled = names }

-- each head's writer is the driver across: its queue is enabled
pub flush-of-a-head-enables-the-driver-across : head_emptied rules.Flushed (of_data None) Slave (pair (end Open none none) (end Open full none)) ∷ head_emptied rules.Flushed (of_data None) Master (pair (end Open full none) (end Open none none)) ∷ [] ≡ leads (enabling (driver_of Master ∷ []) (pair (end Open none none) (end Open freed none))) (fate rules.Flushed MasterToSlave (7 ∷ 8 ∷ []) ∷ []) ∷ leads (enabling (driver_of Slave ∷ []) (pair (end Open freed none) (end Open none none))) (fate rules.Flushed SlaveToMaster (7 ∷ 8 ∷ []) ∷ []) ∷ []
unfolding is_data_kind is_high_priority band_of size_of cells_of
flush-of-a-head-enables-the-driver-across = refl

-- no queue stands before a driver's
pub flush-of-a-driver-enables-nothing : driver_emptied rules.EndClosed of_all Master (pair (end Open none full) (end Open none none)) ≡ leads (pair (end Open none freed) (end Open none none)) (fate rules.EndClosed MasterToSlave (7 ∷ 8 ∷ []) ∷ [])
unfolding is_high_priority band_of size_of cells_of
flush-of-a-driver-enables-nothing = refl

-- a writer in a band that is flushed, and one in a band that isn't
pub flush-of-a-full-band : map (λ n. (flushed_on no_own plain (band n) Master Write (pair (end Open none none) (end Open full none))).state.enabled) (0 ∷ 1 ∷ []) ≡ (driver_of Master ∷ []) ∷ [] ∷ []
unfolding carried is_data_kind is_high_priority band_of size_of cells_of
flush-of-a-full-band = refl

-- closes

abbrev ends_with : List (Message ℕ) → Queue ℕ
ends_with messages = queue (ordinary (7 ∷ []) ∷ messages) []

-- Of the slave its head goes, whatever the kinds on it, and is as new. Both drivers stay as they are.
pub close-of-the-slave : closed_at Slave (pair (end Open (one 1) (one 2)) (end Open (queue several (flow 9 9 true ∷ [])) (one 4))) ≡ leads (enabling (driver_of Master ∷ []) (pair (end Open (one 1) (one 2)) (end Closed (new_queue 5120 1024) (one 4)))) (fate rules.EndClosed MasterToSlave (9 ∷ 1 ∷ 2 ∷ 3 ∷ 4 ∷ 5 ∷ 7 ∷ 8 ∷ []) ∷ [])
unfolding is_high_priority band_of size_of cells_of
close-of-the-slave = refl

-- Of the master its head goes, and what both drivers have, whatever the kinds. An open slave is hung up, and keeps what
-- stands on its head.
abbrev hung : Stream ℕ → Stream ℕ
hung t = record t { head = record t.head { hung_up = true } }

pub close-of-the-master : closed_at Master (pair (end Open (one 1) (ends_with (options ∷ []))) (end Open (one 3) (ends_with (options ∷ proto ∷ [])))) ≡ leads (pair (end Closed (new_queue 5120 1024) none) (hung (end Open (one 3) none))) (fate rules.EndClosed SlaveToMaster (1 ∷ []) ∷ fate rules.EndClosed MasterToSlave (7 ∷ []) ∷ fate rules.EndClosed SlaveToMaster (7 ∷ 1 ∷ 2 ∷ 3 ∷ 4 ∷ 5 ∷ []) ∷ [])
unfolding is_high_priority band_of size_of cells_of
close-of-the-master = refl

-- no M_HANGUP reaches a slave that isn't open
pub close-of-the-master-alone : map (λ slave. (closed_at Master (ones Open slave)).state) (Never ∷ Closed ∷ []) ≡ pair (end Closed (new_queue 5120 1024) none) (end Never (one 3) none) ∷ pair (end Closed (new_queue 5120 1024) none) (end Closed (one 3) none) ∷ []
unfolding size_of cells_of
close-of-the-master-alone = refl

-- a master that is hung up is so no more once it is closed
pub close-forgets-a-hangup : (ended Master (hung_up_at Master (ones Open Open))).ends.master.head.hung_up ∷ (hung_up_at Master (ones Open Open)).ends.master.head.hung_up ∷ [] ≡ false ∷ true ∷ []
close-forgets-a-hangup = refl

pub close-call : called no_own plain (caller Slave) events.Shut (ones Open Open) ≡ record { answer = Done; state = pair (end Open (one 1) (one 2)) (end Closed (new_queue 5120 1024) (one 4)); came = []; gone = fate rules.EndClosed MasterToSlave (3 ∷ []) ∷ [] }
unfolding size_of cells_of
close-call = refl

-- a read of an empty head changes nothing, whether or not it wants to be read
pub read-of-an-empty-head-changes-nothing : called no_own plain (caller Slave) (events.Read 5) (pair (end Open none none) (end Open (rested false [] []) none)) ≡ record { answer = Bytes []; state = pair (end Open none none) (end Open (rested false [] []) none); came = []; gone = [] }
read-of-an-empty-head-changes-nothing = refl
