-- What the definitions compute, for a few scripts whose answers were worked out by hand from the manual pages.
use Rattle.strm_rows.proofs.Prelude.{ℕ, ◌≡◌, [], ◌∷◌, refl, replicate, None, Some, Data, Pcproto, Master, Slave, Moved, Idle, Eagain, Enxio, Einval}
use Rattle.strm_rows.proofs.Prelude.{Message, data_message, rank_of, band_of, size_of, cells_of, is_high_priority, is_held, driver_of, State, opening}
use Rattle.strm_rows.proofs.Prelude.{chunk_count, carried, turned, OpenMaster, Unlock, OpenSlave, Write, Count, Bytes, plain, caller_of, called}
use Rattle.strm_rows.proofs.Prelude.{refused_by_state, refused_at_once, no_own}
use Rattle.strm_types.specs.Queue.{put, put_back}
use Rattle.strm_types.specs.declared.events.Event.TheVariants.{Read}

-- the state after the master was opened, the slave unlocked and opened
abbrev opened : State ℕ
opened = (called no_own plain (caller_of Master) OpenSlave (called no_own plain (caller_of Master) Unlock (called no_own plain (caller_of Master) OpenMaster opening).state).state).state

-- a write, a turn and a read: `write m "abc"` takes 3, the turn moves 3, `read s 10` gives "abc"
abbrev after-write : State ℕ
after-write = (called no_own plain (caller_of Master) (Write (97 ∷ 98 ∷ 99 ∷ [])) opened).state

pub write-takes : (called no_own plain (caller_of Master) (Write (97 ∷ 98 ∷ 99 ∷ [])) opened).answer ≡ Count 3
unfolding chunk_count data_message rank_of band_of size_of cells_of is_high_priority
write-takes = refl

pub write-enables : after-write.enabled ≡ driver_of Master ∷ []
unfolding carried chunk_count data_message rank_of band_of size_of cells_of is_high_priority
write-enables = refl

pub turn-moves : (turned no_own plain (driver_of Master) Idle after-write).turn ≡ Moved 3
unfolding carried chunk_count data_message rank_of band_of size_of cells_of is_high_priority is_held
turn-moves = refl

pub read-gives : (called no_own plain (caller_of Slave) (Read 10) (turned no_own plain (driver_of Master) Idle after-write).state).answer ≡ Bytes (97 ∷ 98 ∷ 99 ∷ [])
unfolding carried chunk_count data_message rank_of band_of size_of cells_of is_high_priority is_held
read-gives = refl

pub second-turn-is-refused : (turned no_own plain (driver_of Master) Idle after-write).state.enabled ≡ []
unfolding carried chunk_count data_message rank_of band_of size_of cells_of is_high_priority is_held
second-turn-is-refused = refl

-- 600 bytes: two chunks of 256 go, the third finds the band full; after a turn one more chunk may go
abbrev after-long : State ℕ
after-long = (called no_own plain (caller_of Master) (Write (replicate 600 122)) opened).state

pub long-write-stops : (called no_own plain (caller_of Master) (Write (replicate 600 122)) opened).answer ≡ Count 512
unfolding carried chunk_count data_message rank_of band_of size_of cells_of is_high_priority
long-write-stops = refl

pub full-is-refused : refused_by_state no_own after-long (caller_of Master) (Write (122 ∷ [])) ≡ Some Eagain
unfolding carried chunk_count data_message rank_of band_of size_of cells_of is_high_priority
full-is-refused = refl

pub turn-makes-room : (turned no_own plain (driver_of Master) Idle after-long).turn ≡ Moved 256
unfolding carried chunk_count data_message rank_of band_of size_of cells_of is_high_priority is_held
turn-makes-room = refl

pub write-goes-on : (called no_own plain (caller_of Master) (Write (122 ∷ [])) (turned no_own plain (driver_of Master) Idle after-long).state).answer
    ≡ Count 1
unfolding carried chunk_count data_message rank_of band_of size_of cells_of is_high_priority is_held
write-goes-on = refl

-- messages of four ranks, as they are put: "a" of band 0, "b" of band 1, "c" of high priority, "d" of band 1
abbrev of_band : ℕ → ℕ → Message ℕ
of_band band byte = record { kind = Data; band = band; control = None; body = Some (byte ∷ []); plain = [] }

abbrev of_high_priority : ℕ → Message ℕ
of_high_priority byte = record { kind = Pcproto; band = 0; control = Some (byte ∷ []); body = None; plain = [] }

pub ranks-in-order : put (of_band 1 100) (put (of_high_priority 99) (put (of_band 1 98) (put (of_band 0 97) []))) ≡ of_high_priority 99 ∷ of_band 1 98 ∷ of_band 1 100 ∷ of_band 0 97 ∷ []
unfolding rank_of is_high_priority
ranks-in-order = refl

-- two put and a third put back: the third comes first
pub put-back-is-first : put_back (of_band 0 99) (put (of_band 0 98) (put (of_band 0 97) [])) ≡ of_band 0 99 ∷ of_band 0 97 ∷ of_band 0 98 ∷ []
unfolding rank_of is_high_priority
put-back-is-first = refl

-- the slave is refused before it is unlocked, and the master's second opening
pub locked-slave-waits : refused_by_state {C = ℕ} no_own (called no_own plain (caller_of Master) OpenMaster opening).state (caller_of Master) OpenSlave ≡ Some Eagain
locked-slave-waits = refl

pub master-opens-once : refused_by_state {C = ℕ} no_own opened (caller_of Master) OpenMaster ≡ Some Einval
master-opens-once = refl

pub unlock-is-the-masters : refused_at_once {C = ℕ} opened (caller_of Slave) Unlock ≡ Some Einval
unlock-is-the-masters = refl

pub nothing-before-open : refused_at_once {C = ℕ} opening (caller_of Master) (Read 1) ≡ Some Enxio
nothing-before-open = refl
