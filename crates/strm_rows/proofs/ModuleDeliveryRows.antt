-- What deliveries over the modules of a pair's streams compute, as worked out by hand.
use Rattle.strm_rows.proofs.Prelude.{ℕ, ◌≡◌, false, ◌∷◌, [], refl, MasterToSlave, SlaveToMaster, Master, Slave, Up, Down, Flushed, Waiting, Answered}
use Rattle.strm_rows.proofs.Prelude.{plain, Goes, carried, crosses, is_data_kind, flush_message, Message, band_of, cells_of, is_held, no_own}
use Rattle.strm_rows.proofs.Prelude.{is_high_priority, rank_of, size_of, driver_of, delivered, PlainSlot, State, Stream, driver_serves, header}
use Rattle.strm_rows.proofs.Prelude.{ordinary, without_parts}
use Rattle.strm_types.specs.declared.kinds.MsgKind.TheVariants as kinds
use Rattle.strm_rows.proofs.PutAmongRows.{bare, end, ldterm, one, pair, spot, with_these}

-- M_DATA that goes down from the head waits at the first module, whose write queue is enabled
pub data-waits-at-the-first : delivered no_own plain (spot Master 1 Down) (ordinary (7 ∷ [])) (pair (end [] (bare ∷ bare ∷ []) []) (end [] [] []) [])
    ≡ record { state = pair (end [] (with_these [] (one 7) ∷ bare ∷ []) []) (end [] [] []) (ldterm Master Down ∷ []); gone = [] }
unfolding carried rank_of is_high_priority band_of
data-waits-at-the-first = refl

-- what a driver moves across waits at the lowest module of the other side, and goes to the head where there is none
pub data-moves-to-the-lowest : (driver_serves no_own plain Master (one 7) (pair (end [] [] (one 7)) (end [] (bare ∷ bare ∷ []) []) [])).state
    ≡ pair (end [] [] []) (end [] (bare ∷ with_these (one 7) [] ∷ []) []) (ldterm Slave Up ∷ [])
unfolding carried is_held band_of size_of is_high_priority rank_of cells_of
data-moves-to-the-lowest = refl

pub data-moves-to-the-head : (driver_serves no_own plain Slave (one 7) (pair (end [] [] []) (end [] (bare ∷ []) (one 7)) [])).state
    ≡ pair (end (one 7) [] []) (end [] (bare ∷ []) []) []
unfolding carried is_held band_of size_of is_high_priority rank_of cells_of
data-moves-to-the-head = refl

-- An M_FLUSH for both that goes down the master's stream with one module, where the slave's has two, and a byte stands on each queue. FLUSHR
-- and FLUSHW at the module; FLUSHW at the driver; up the slave's stream: its lower module, its upper one, and its head; then the
-- driver across, and up the master's stream its module, where nothing stands any more, and its head.
abbrev filled : State ℕ
filled = pair (end (one 1) (with_these (one 2) (one 3) ∷ []) (one 4)) (end (one 5) (with_these (one 6) (one 7) ∷ with_these (one 8) (one 9) ∷ []) (one 10)) []

pub flush-goes-over-modules : delivered no_own plain (spot Master 1 Down) (flush_message (3 ∷ [])) filled ≡ record {
  state = pair (end [] (bare ∷ []) []) (end [] (with_these [] (one 7) ∷ with_these [] (one 9) ∷ []) []) [];
  gone = Goes SlaveToMaster Flushed (2 ∷ []) ∷ Goes MasterToSlave Flushed (3 ∷ []) ∷ Goes MasterToSlave Flushed (4 ∷ [])
      ∷ Goes MasterToSlave Flushed (8 ∷ []) ∷ Goes MasterToSlave Flushed (6 ∷ []) ∷ Goes MasterToSlave Flushed (5 ∷ [])
      ∷ Goes SlaveToMaster Flushed (10 ∷ []) ∷ Goes SlaveToMaster Flushed [] ∷ Goes SlaveToMaster Flushed (1 ∷ []) ∷ [];
}
unfolding carried is_data_kind cells_of size_of
flush-goes-over-modules = refl

-- An M_FLUSH for writers that comes up from the driver: both modules obey it, from the lower one; the head turns it round, and both find
-- nothing any more; then the driver, and across the module and the head for their readers.
pub flush-comes-up-and-round : delivered no_own plain (spot Slave 2 Up) (flush_message (2 ∷ [])) filled ≡ record {
  state = pair (end [] (with_these [] (one 3) ∷ []) (one 4)) (end (one 5) (with_these (one 6) [] ∷ with_these (one 8) [] ∷ []) []) [];
  gone = Goes SlaveToMaster Flushed (9 ∷ []) ∷ Goes SlaveToMaster Flushed (7 ∷ []) ∷ Goes SlaveToMaster Flushed [] ∷ Goes SlaveToMaster Flushed []
      ∷ Goes SlaveToMaster Flushed (10 ∷ []) ∷ Goes SlaveToMaster Flushed (2 ∷ []) ∷ Goes SlaveToMaster Flushed (1 ∷ []) ∷ [];
}
unfolding carried is_data_kind cells_of size_of
flush-comes-up-and-round = refl

-- An M_IOCTL that goes down the slave's stream passes both modules; the driver's answer comes up past them to the head, where its caller waits.
abbrev asks : Message ℕ
asks = without_parts kinds.Ioctl (header 5 7 0)

abbrev waits : PlainSlot → State ℕ
waits slot = let slave : Stream ℕ = end [] (bare ∷ bare ∷ []) [] in pair (end [] [] []) (record slave { head = record slave.head { ioctl = slot } }) []

pub ioctl-goes-round : delivered no_own plain (spot Slave 1 Down) asks (waits (Waiting 7 5))
    ≡ record { state = waits (Answered 7 5 false 1 []); gone = [] }
unfolding carried
ioctl-goes-round = refl

-- One that comes up passes them to the head, whose answer goes down to the driver's queue.
pub ioctl-comes-up : delivered no_own plain (spot Slave 2 Up) asks (pair (end [] [] []) (end [] (bare ∷ bare ∷ []) []) [])
    ≡ record { state = pair (end [] [] []) (end [] (bare ∷ bare ∷ []) (without_parts kinds.Iocnak (header 5 7 1) ∷ [])) (driver_of Slave ∷ []); gone = [] }
unfolding carried crosses rank_of is_high_priority band_of
ioctl-comes-up = refl
