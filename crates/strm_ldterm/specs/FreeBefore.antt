-- How many blocks are free before a byte of a call begins (srv(9E); STREAMS Programming Guide, "Message Structure").
use Rattle.std.specs.Prelude.{ℕ, ◌≡◌, ◌+◌, ◌-◌, ◌/◌, if◌then◌else◌, List, [], ◌∷◌, length}
use Rattle.strm_ldterm.specs.Prelude.{STOP_BLOCKS, Fates, Note, Acted, Message, cells_of, StoreValue, free_m, free_d, HasRoom}
use Rattle.strm_types.specs.declared.limits.TheConstants.{BLOCK_SIZE}
use Rattle.strm_types.specs.Ldterms as ldterms
use Rattle.strm_ldterm.specs.Does.{Proceeds}
use Rattle.strm_ldterm.specs.Stands.{ldterm_in, Paired}

-- all blocks of a store that are free
abbrev pub all_free : StoreValue → ℕ
all_free s = free_m s + free_d s

-- how many blocks so many bytes fill that stand one after the other, the last one begun
abbrev pub blocks_for : ℕ → ℕ
blocks_for bytes = (bytes + (BLOCK_SIZE - 1)) / BLOCK_SIZE

-- how many bytes the last message has
abbrev pub last_size : List (Message ℕ) → ℕ
last_size [] = 0
last_size (m ∷ []) = length (cells_of m)
last_size (m ∷ n ∷ ms) = last_size (n ∷ ms)

-- how many bytes of echo stand last on the write queue
abbrev pub echo_size : ldterms.Discipline ℕ → ℕ
echo_size p = if p.echoing then last_size p.write_queue.messages else 0

-- How many blocks more what is gathered and the turn's echo fill than they did: each takes a block at its first byte, and a further one where
-- the last one is full.
abbrev pub blocks_grown : ldterms.Discipline ℕ → ldterms.Discipline ℕ → ℕ
blocks_grown p q = blocks_for (length q.gathered) - blocks_for (length p.gathered) + (blocks_for (echo_size q) - blocks_for (echo_size p))

module _ (old : StoreValue) (x : Paired) (t : Fates) (next : ℕ → ldterms.Discipline ℕ → Acted ℕ (ldterms.Discipline ℕ)) (start : ldterms.Discipline ℕ) where
  -- Before a byte of a call begins 32 blocks of each kind are free. Some of the bytes before it lead from the beginning of the call to a store, and those
  -- from there on to the byte fill no more blocks than are free there beside the 32. That is what is certain: a block that these empty isn't counted, as its
  -- bytes may be another message's too; and of what the module itself keeps the store is known by the messages, and not by how many blocks they have.
  pub record IsFreeBefore (byte : ℕ) : Type 0 where
    pub before : ℕ
    pub more : ℕ
    pub is : byte ≡ before + more
    pub store : StoreValue
    pub there : Paired
    pub notes : List Note
    pub told : Fates
    pub reached : Proceeds old store x there (all_free old) notes [] t told (next before start)
    pub free : HasRoom store (STOP_BLOCKS + blocks_grown (ldterm_in store there) (next more (ldterm_in store there)).state)
