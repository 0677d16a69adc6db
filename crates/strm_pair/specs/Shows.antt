-- What a pair shows of its queues.
use Rattle.std.specs.Prelude.{ℕ, ◌≡◌, ◌+◌, ◌*◌, ◌≤◌, ◌<◌, Bool, false, List, [], ◌∷◌, sum_by, Option, None, Some}
use Rattle.strm_pair.specs.Prelude.{Message, Standing, Place, Driver, Way, Up, Down, QueueName, AllSides, count_of, first_size, State, Stream, stream}
use Rattle.strm_pair.specs.Prelude.{StoreValue, messages_on}
use Rattle.strm_types.specs.declared.names.Place.TheVariants.{Head}
use Rattle.strm_types.specs.declared.names.Place.TheVariants as places
use Rattle.strm_types.specs.ModuleQueues as modules
use Rattle.strm_types.specs.Queue.{is_full}
use Rattle.strm_types.specs.Standings.{QueuePair}
use Rattle.strm_pair.specs.Lists.{first_list}
use Rattle.strm_pair.specs.Named.{at_named, messages_named}

-- how many of these modules have queues
abbrev pub one_pair : {A : Type 0} → Option A → ℕ
one_pair None = 0
one_pair (Some pair) = 1

abbrev pub pairs_of : List (Standing ℕ) → ℕ
pairs_of ps = sum_by (λ (p : Standing ℕ). one_pair p.queues) ps

-- Two lists of the store from a number on are the queues of a module, the read queue and then the write queue, where it has any.
abbrev pub ShowsPair : StoreValue → ℕ → Option (QueuePair ℕ) → Type 0
ShowsPair s k None = Unit {0}
ShowsPair s k (Some pair) = (messages_on s k ≡ pair.read.messages) × (messages_on s (k + 1) ≡ pair.write.messages)

-- The lists from a number on are the queues of these modules, those of the lowest one first: each module's come behind those of the modules below it.
abbrev pub ShowsModules : StoreValue → ℕ → List (Standing ℕ) → Type 0
ShowsModules s first [] = Unit {0}
ShowsModules s first (p ∷ ps) = ShowsPair s (first + 2 * pairs_of ps) p.queues × ShowsModules s first ps

-- Eight lists of the store from a number on, read along their chains, are a stream's queues: the head's and the driver's, and then those of its
-- modules. The others are empty.
pub record ShowsStream (s : StoreValue) (first : ℕ) (t : Stream ℕ) : Type 0 where
  pub head : messages_on s first ≡ t.head.queue.messages
  pub driver : messages_on s (first + 1) ≡ t.driver.queue.messages
  pub modules : ShowsModules s (first + 2) t.modules
  pub others : (k : ℕ) → first + 2 + 2 * pairs_of t.modules ≤ k → k < first + 8 → messages_on s k ≡ []

-- The store shows the stream of each side: the master's from list 0 on, the slave's from 8. Nothing is in hand.
pub record Shows (s : StoreValue) (state : State ℕ) : Type 0 where
  pub hand : s.hand ≡ []
  pub streams : AllSides (λ side t. ShowsStream s (first_list side) t) state.ends

-- the messages of a stream's queue: the head's read queue, the driver's write queue, or one of a module that stands there
abbrev pub messages_in : Place → Way → Stream ℕ → List (Message ℕ)
messages_in Head Up t = t.head.queue.messages
messages_in Driver Down t = t.driver.queue.messages
messages_in (places.Module owner) way t = messages_named (places.Module owner) way t.modules
messages_in _ _ t = []

-- how many bytes count in a band of it
abbrev pub count_in : Place → Way → ℕ → Stream ℕ → ℕ
count_in place way band t = count_of band (messages_in place way t)

-- whether a band of it is full
abbrev pub full_in : Place → Way → ℕ → Stream ℕ → Bool
full_in Head Up band t = is_full band t.head.queue
full_in Driver Down band t = is_full band t.driver.queue
full_in (places.Module owner) way band t = at_named (places.Module owner) (modules.full_at way band) false t.modules
full_in _ _ band t = false

-- how many bytes count in a band of a queue: none in one that doesn't exist
abbrev pub count_at : QueueName → ℕ → State ℕ → ℕ
count_at name band s = count_in name.place name.way band (stream name.side s)

-- whether a band of a queue is full: none of one that doesn't exist is
abbrev pub full_at : QueueName → ℕ → State ℕ → Bool
full_at name band s = full_in name.place name.way band (stream name.side s)

-- the messages of a queue: none of one that doesn't exist
abbrev pub messages_at : QueueName → State ℕ → List (Message ℕ)
messages_at name s = messages_in name.place name.way (stream name.side s)

-- how many bytes the first message of a queue has
abbrev pub first_at : QueueName → State ℕ → ℕ
first_at name s = first_size (messages_at name s)
