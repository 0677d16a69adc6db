-- The first message of a driver's queue, taken off it, and a turn that moves it.
use Rattle.std.specs.Prelude.{ℕ, ◌≡◌, Bool, not, ◌&&◌, ◌==◌, if◌then◌else◌, List, ◌∷◌}
use Rattle.strm_pair.specs.Prelude.{Turn, Side, Fates, plain, Message, Queue, left_with, stream, with_driver, moved_across, StoreValue, in_hand}
use Rattle.strm_pair.specs.Prelude.{message_of, IsChain, FreesBlocks, Behaviour}
use Rattle.strm_types.specs.Queue.{relieved, relieves}
use Rattle.strm_laws.specs.Turns.{turned_queue}
use Rattle.strm_pair.specs.declared.streams.Streams.{Streams}
use Rattle.strm_pair.specs.Effects.{Delivers}
use Rattle.strm_pair.specs.Pairs.{state_in, AreBeside}

-- a queue behind a turn that took a message of this size, and whether that lets a writer go
abbrev pub settled : ℕ → Queue ℕ → Queue ℕ
settled size q = if not (size == 0) then relieved (turned_queue q) else turned_queue q

abbrev pub settling_relieves : ℕ → Queue ℕ → Bool
settling_relieves size q = not (size == 0) && relieves (turned_queue q)

-- It is in hand, and as many blocks are free as before.
pub record TookFirst (side : Side) (old new : StoreValue) (p q : Streams) (i : ℕ) : Type 0 where
  pub rest : List (Message ℕ)
  pub first : (stream side (state_in old p)).driver.queue.messages ≡ message_of (in_hand new i) ∷ rest
  pub state : state_in new q ≡ with_driver side (left_with rest (stream side (state_in old p)).driver.queue) (state_in old p)
  pub beside : AreBeside new q
  pub hand : new.hand ≡ record { name = i; chain = in_hand new i } ∷ old.hand
  pub chain : IsChain (in_hand new i)
  pub mblks : new.mblks ≡ old.mblks
  pub dblks : new.dblks ≡ old.dblks
  pub frees : FreesBlocks old new

-- A turn moved the first message, with all that this gave rise to.
pub record MovesAcross (K : Behaviour) (side : Side) (old new : StoreValue) (p q : Streams) (turn : Turn) (told told' : Fates) : Type 0
  where
    pub message : Message ℕ
    pub rest : List (Message ℕ)
    pub first : (stream side (state_in old p)).driver.queue.messages ≡ message ∷ rest
    pub answer : turn ≡ (moved_across K plain side message rest (state_in old p)).turn
    pub delivers : let is = moved_across K plain side message rest (state_in old p) in Delivers old new p q told told' is.state is.gone 8
