-- Modules where they stand on a stream, each with the pair of queues that the stream gives it, beside a store.
use Rattle.std.specs.Prelude.{ℕ, ◌<◌, ◌+◌, List, [], ◌∷◌, Option, None, Some, IfSome, option_map}
use Rattle.strm_frame.specs.Prelude.{Way, Up, Down, StoreValue, Queue, IsReady, queue_in}
use Rattle.strm_types.specs.Standings as plain
use Rattle.strm_frame.specs.declared.queue_pair.QueuePair.{QueuePair}
use Rattle.strm_frame.specs.declared.standing.Standing.{Standing}
use Rattle.strm_frame.specs.Hands.{once}

-- its queue of a way
abbrev pub the_queue : Way → QueuePair → Queue
the_queue Up pair = pair.read
the_queue Down pair = pair.write

-- what a pair of queues stands for
abbrev pub pair_in : StoreValue → QueuePair → plain.QueuePair ℕ
pair_in s pair = record { read = queue_in s pair.read; write = queue_in s pair.write }

abbrev pub queues_in : StoreValue → Option QueuePair → Option (plain.QueuePair ℕ)
queues_in s queues = option_map (pair_in s) queues

-- the lists of the store on which its queues stand, and 1 for each of them
abbrev pub lists_of : Option QueuePair → List ℕ
lists_of None = []
lists_of (Some pair) = pair.read.list ∷ pair.write.list ∷ []

abbrev pub queues_own : Option QueuePair → ℕ → ℕ
queues_own None k = 0
queues_own (Some pair) k = once pair.read.list k + once pair.write.list k

-- Both queues are ready, each on a list of its own, the read queue's first.
pub record IsPairReady (s : StoreValue) (pair : QueuePair) : Type 0 where
  pub read : IsReady s pair.read
  pub write : IsReady s pair.write
  pub apart : pair.read.list < pair.write.list

module _ {M : Type 0} where
  -- a module and its queues, as they stand
  abbrev pub standing : M → Option QueuePair → Standing M
  standing x queues = record { «module» = x; queues = queues }

  -- what both stand for, which lists of the store are its own, and how often the module keeps a message of a name in hand
  abbrev pub standing_in : {P : Type 0} → (StoreValue → M → P) → StoreValue → Standing M → plain.Standing P ℕ
  standing_in in_itself s x = record { part = in_itself s x.module; queues = queues_in s x.queues }

  abbrev pub owns : Standing M → ℕ → ℕ
  owns x k = queues_own x.queues k

  abbrev pub keeps_of : (M → ℕ → ℕ) → Standing M → ℕ → ℕ
  keeps_of keeps x i = keeps x.module i

  -- Its queues are ready, and what the module has in hand fits them and the store.
  pub record Fits (IsHeld : StoreValue → M → Option QueuePair → Type 0) (s : StoreValue) (x : Standing M) : Type 0 where
    pub queues : IfSome x.queues (IsPairReady s)
    pub itself : IsHeld s x.module x.queues
