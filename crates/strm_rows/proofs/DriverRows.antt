-- What an M_FLUSH asks for, the headers of ioctls, and what a driver does with a message that is put at it, case by case.
use Rattle.strm_rows.proofs.Prelude.{ℕ, ◌≡◌, Bool, true, false, List, [], ◌∷◌, ◌++◌, map, take, refl, replicate, Option, None, Some, FlushAsked, Band}
use Rattle.strm_rows.proofs.Prelude.{Data, Proto, Pcproto, Sig, Ctl, Ioctl, Setopts, Iocack, Iocnak, Pcsig, Stop, Start, Hangup, Flush, MasterToSlave}
use Rattle.strm_rows.proofs.Prelude.{SlaveToMaster, Side, Master, Slave, Way, Up, Down, Flushed, EndClosed, Enable, Room, Spot, Acted, Parcel, Goes}
use Rattle.strm_rows.proofs.Prelude.{crosses, is_data_kind, flush_message, Message, rank_of, band_of, size_of, cells_of, is_high_priority, Queue}
use Rattle.strm_rows.proofs.Prelude.{new_queue, flow, header, ordinary, proto, queue}
use Rattle.std.specs.Prelude.{not}
use Rattle.strm_types.specs.declared.ioctls.Ioc.{Ioc}
use Rattle.strm_types.specs.declared.spots.Across.{Across}
use Rattle.strm_types.specs.Drivers.{driver_put}
use Rattle.strm_types.specs.Flushing.{asked_by, read_flush}
use Rattle.strm_types.specs.Ioctls.{ioc_bytes, read_ioc}

abbrev asked : Bool → Bool → Option Band → FlushAsked
asked for_read for_write band = record { for_read = for_read; for_write = for_write; band = band }

abbrev band : ℕ → Option Band
band n = Some (record { 0 = n })

pub flags-are-read : map asked_by ((1 ∷ []) ∷ (2 ∷ []) ∷ (3 ∷ []) ∷ (0 ∷ []) ∷ (8 ∷ []) ∷ []) ≡ asked true false None ∷ asked false true None ∷ asked true true None ∷ asked false false None ∷ asked false false None ∷ []
flags-are-read = refl

pub bands-are-read : map asked_by ((5 ∷ 3 ∷ []) ∷ (6 ∷ 7 ∷ 1 ∷ []) ∷ (7 ∷ 0 ∷ []) ∷ (7 ∷ 255 ∷ []) ∷ (1 ∷ 3 ∷ []) ∷ []) ≡ asked true false (band 3) ∷ asked false true (band 7) ∷ asked true true (band 0) ∷ asked true true (band 255) ∷ asked true false None ∷ []
bands-are-read = refl

pub nothing-is-asked : map asked_by ([] ∷ (7 ∷ []) ∷ []) ≡ asked false false None ∷ asked false false None ∷ []
nothing-is-asked = refl

pub flush-for-readers : map read_flush (None ∷ band 2 ∷ []) ≡ (1 ∷ []) ∷ (5 ∷ 2 ∷ []) ∷ []
flush-for-readers = refl

pub kinds-that-cross : map crosses (Data ∷ Proto ∷ Pcproto ∷ Stop ∷ Start ∷ Iocack ∷ Iocnak ∷ Sig ∷ Ctl ∷ Ioctl ∷ Setopts ∷ Pcsig ∷ Hangup ∷ Flush ∷ [])
    ≡ true ∷ true ∷ true ∷ true ∷ true ∷ true ∷ true ∷ false ∷ false ∷ false ∷ false ∷ false ∷ false ∷ false ∷ []
unfolding crosses
kinds-that-cross = refl

-- the other side with two modules; open or not, with a master that is closed or not
abbrev across : Bool → Bool → Across
across is_open ended = record { is_open = is_open; bottom = 2; ended = ended }

abbrev here : Side → Way → Spot
here side way = record { side = side; at = 1; way = way }

abbrev resting : Queue ℕ
resting = new_queue 512 128

-- a queue whose writer waits, with two bytes in band 0 and three control and data bytes in band 2
abbrev waiting : Queue ℕ
waiting = queue (proto ∷ ordinary (8 ∷ 9 ∷ []) ∷ []) (flow 512 1 true ∷ replicate 255 (flow 512 128 false))

abbrev flush : List ℕ → Message ℕ
flush = flush_message

-- data goes on the queue, which is enabled; once the master is closed its bytes go
pub data-is-queued : driver_put Master (across true false) (here Master Down) (ordinary (7 ∷ [])) resting
    ≡ record { state = record resting { messages = ordinary (7 ∷ []) ∷ [] }; notes = Enable Down ∷ []; sent = []; gone = [] }
unfolding crosses rank_of band_of is_high_priority
data-is-queued = refl

pub data-goes-once-the-master-is-closed : driver_put Slave (across false true) (here Slave Down) (ordinary (7 ∷ [])) resting
    ≡ record { state = resting; notes = []; sent = []; gone = Goes SlaveToMaster EndClosed (7 ∷ []) ∷ [] }
unfolding crosses cells_of
data-goes-once-the-master-is-closed = refl

abbrev signal : Message ℕ
signal = record { kind = Sig; band = 0; control = None; body = None; plain = 2 ∷ [] }

abbrev nothing : Acted ℕ (Queue ℕ)
nothing = record { state = resting; notes = []; sent = []; gone = [] }

pub signals-are-freed : driver_put Slave (across true false) (here Slave Down) signal resting ≡ nothing
unfolding crosses
signals-are-freed = refl

-- FLUSHW: the own queue, whose writer is let go, and then the readers across, where that side is open
abbrev emptied_own : List (Parcel ℕ) → Acted ℕ (Queue ℕ)
emptied_own sent = record {
  state = record waiting { messages = []; flows = flow 512 1 false ∷ replicate 255 (flow 512 128 false) };
  notes = Room Down ∷ [];
  sent = sent;
  gone = Goes MasterToSlave Flushed (1 ∷ 2 ∷ 3 ∷ 4 ∷ 5 ∷ 8 ∷ 9 ∷ []) ∷ [];
}

abbrev to_readers : Parcel ℕ
to_readers = record { to = record { side = Slave; at = 2; way = Up }; message = flush (1 ∷ []) }

abbrev to_driver : List ℕ → Parcel ℕ
to_driver bytes = record { to = record { side = Slave; at = 4; way = Up }; message = flush bytes }

pub flush-of-writers : map (λ is_open. driver_put Master (across is_open false) (here Master Down) (flush (2 ∷ [])) waiting) (true ∷ false ∷ []) ≡ emptied_own (to_readers ∷ []) ∷ emptied_own [] ∷ []
unfolding is_data_kind cells_of size_of band_of is_high_priority
flush-of-writers = refl

pub flush-of-both : driver_put Master (across true false) (here Master Down) (flush (3 ∷ [])) waiting ≡ emptied_own (to_readers ∷ to_driver (1 ∷ []) ∷ [])
unfolding is_data_kind cells_of size_of band_of is_high_priority
flush-of-both = refl

-- FLUSHR: the driver across, and nothing here, also where that side isn't open
pub flush-of-readers : map (λ is_open. driver_put Master (across is_open false) (here Master Down) (flush (5 ∷ 2 ∷ [])) waiting) (true ∷ false ∷ [])
    ≡ record { state = waiting; notes = []; sent = to_driver (5 ∷ 2 ∷ []) ∷ []; gone = [] } ∷ record { state = waiting; notes = []; sent = to_driver (5 ∷ 2 ∷ []) ∷ []; gone = [] } ∷ []
flush-of-readers = refl

-- what comes across flushes the own queue of that band, and goes on to the readers there
pub flush-that-comes-across : driver_put Master (across true false) (here Master Up) (flush (5 ∷ 2 ∷ [])) waiting
    ≡ record {
      state = record waiting { messages = ordinary (8 ∷ 9 ∷ []) ∷ [] };
      notes = [];
      sent = record { to = record { side = Slave; at = 2; way = Up }; message = flush (5 ∷ 2 ∷ []) } ∷ [];
      gone = Goes MasterToSlave Flushed (1 ∷ 2 ∷ 3 ∷ 4 ∷ 5 ∷ []) ∷ [];
    }
unfolding is_data_kind cells_of size_of band_of is_high_priority
flush-that-comes-across = refl

-- an M_FLUSH for writers doesn't come across, nor does a signal; data is taken in, whichever way it comes
pub others-that-come-across : map (λ m. driver_put Slave (across true false) (here Slave Up) m resting) (flush (2 ∷ []) ∷ signal ∷ ordinary (7 ∷ []) ∷ [])
    ≡ nothing ∷ nothing ∷ record { state = record resting { messages = ordinary (7 ∷ []) ∷ [] }; notes = Enable Down ∷ []; sent = []; gone = [] } ∷ []
unfolding rank_of band_of is_high_priority
others-that-come-across = refl

-- headers of ioctls, and payloads behind them

abbrev ioc : ℕ → ℕ → Ioc
ioc command number = record { command = command; number = number; error = 0; result = 0 }

pub headers-are-written : map ioc_bytes (ioc 5 7 ∷ record { command = 0x01020304; number = 0x05060708; error = 0x090a0b0c; result = 0x0d0e0f10 } ∷ [])
    ≡ header 5 7 0 ∷ (1 ∷ 2 ∷ 3 ∷ 4 ∷ 5 ∷ 6 ∷ 7 ∷ 8 ∷ 9 ∷ 10 ∷ 11 ∷ 12 ∷ 13 ∷ 14 ∷ 15 ∷ 16 ∷ []) ∷ []
headers-are-written = refl

pub headers-are-read : map read_ioc (header 5 7 0 ∷ (header 5 7 0 ++ 200 ∷ 201 ∷ []) ∷ take 15 (header 5 7 0) ∷ [] ∷ []) ≡ Some (ioc 5 7) ∷ Some (ioc 5 7) ∷ None ∷ None ∷ []
headers-are-read = refl

-- an M_IOCTL of command 5, with a payload of two bytes
abbrev ioctl : ℕ → Message ℕ
ioctl number = record { kind = Ioctl; band = 0; control = None; body = None; plain = header 5 number 0 ++ 200 ∷ 201 ∷ [] }

abbrev queued_ioctl : ℕ → Acted ℕ (Queue ℕ)
queued_ioctl number = record { state = record resting { messages = ioctl number ∷ [] }; notes = Enable Down ∷ []; sent = []; gone = [] }

-- EINVAL, of the same command and number, up the same stream, and without the payload
abbrev refused_ioctl : Side → ℕ → Acted ℕ (Queue ℕ)
refused_ioctl side number = record {
  state = resting;
  notes = [];
  sent = record { to = record { side = side; at = 0; way = Up }; message = record { kind = Iocnak; band = 0; control = None; body = None; plain = header 5 number 1 } } ∷ [];
  gone = [];
}

-- what the slave's driver isn't told of goes no further, also once the master is closed; the master's goes to an open slave
pub ioctls-of-the-slave : map (λ ended. driver_put Slave (across (not ended) ended) (here Slave Down) (ioctl 7) resting) (false ∷ true ∷ []) ≡ refused_ioctl Slave 7 ∷ refused_ioctl Slave 7 ∷ []
ioctls-of-the-slave = refl

pub ioctls-of-the-master : map (λ is_open. driver_put Master (across is_open false) (here Master Down) (ioctl 7) resting) (true ∷ false ∷ []) ≡ queued_ioctl 7 ∷ refused_ioctl Master 7 ∷ []
unfolding rank_of band_of is_high_priority
ioctls-of-the-master = refl

-- one of number 0 goes across, and is freed once the master is closed; so is one that is too short
pub ioctls-of-number-0 : map (λ ended. driver_put Slave (across (not ended) ended) (here Slave Down) (ioctl 0) resting) (false ∷ true ∷ [])
    ≡ queued_ioctl 0 ∷ record nothing { gone = Goes SlaveToMaster EndClosed [] ∷ [] } ∷ []
unfolding cells_of rank_of band_of is_high_priority
ioctls-of-number-0 = refl

pub short-ioctls-are-freed : driver_put Slave (across true false) (here Slave Down) (record (ioctl 7) { plain = take 15 (header 5 7 0) }) resting ≡ nothing
short-ioctls-are-freed = refl
