-- What the two streams stand for, beside their store.
use Rattle.std.specs.Prelude.{ℕ, ◌≡◌, ◌+◌, ◌*◌, ◌≤◌, ◌<◌, List, [], map}
use Rattle.std.specs.List.{AllByRecursion}
use Rattle.strm_pair.specs.Prelude.{Both, AllSides, IsOrdered, EachOnce, Stream, StoreValue, list_at, head_in, queue_in}
use Rattle.strm_pair.specs.Prelude.{IsReady, IsHeadQueue}
use Rattle.strm_laws.specs.Stacked as plain
use Rattle.strm_pair.specs.declared.ends.StreamEnd.{StreamEnd}
use Rattle.strm_pair.specs.Lists.{first_list}
use Rattle.strm_pair.specs.Shows.{ShowsModules, pairs_of}
use Rattle.strm_pair.specs.Stacks.{modules_in, IsStackHeld, stack_owns}

-- Six lists of a store, from a number on, are for a stack: no other one is its own, those that are come first, and what isn't its own is empty.
pub record AreFor (s : StoreValue) (first : ℕ) (owns : ℕ → ℕ) : Type 0 where
  pub owned : (k : ℕ) → 0 < owns k → (first ≤ k) × (k < first + 6)
  pub closed : (j k : ℕ) → first ≤ j → j ≤ k → 0 < owns k → 0 < owns j
  pub spare : (k : ℕ) → first ≤ k → k < first + 6 → owns k ≡ 0 → list_at s k ≡ []

-- What the six lists show of modules, of which three at most have queues: two are the queues of each, and the others are empty. Each queue is in
-- order.
pub record AreShown (s : StoreValue) (first : ℕ) (ps : List (plain.Standing ℕ)) : Type 0 where
  pub modules : ShowsModules s first ps
  pub few : pairs_of ps ≤ 3
  pub others : (k : ℕ) → first + 2 * pairs_of ps ≤ k → k < first + 6 → list_at s k ≡ []
  pub ordered : AllByRecursion (λ q. IsOrdered q.messages) (plain.queues_of_modules ps)

-- the plain stream of a side
abbrev pub stream_in : StoreValue → StreamEnd → Stream ℕ
stream_in s e = record {
  opened = e.opened;
  head = head_in s e.head;
  modules = modules_in s e.stack;
  driver = record { queue = queue_in s e.driver };
}

-- the eight lists from a number on are empty
pub record IsBlank (s : StoreValue) (first : ℕ) : Type 0 where
  pub head : list_at s first ≡ []
  pub driver : list_at s (first + 1) ≡ []
  pub modules : (k : ℕ) → first + 2 ≤ k → k < first + 8 → list_at s k ≡ []

-- no two of the modules of a stream have the same name
abbrev pub AreApart : List (plain.Standing ℕ) → Type 0
AreApart ps = EachOnce (map plain.module_name ps)

-- A side's queues stand on lists of their own, from a number on: the head's, which has what readers may read alone, and the
-- driver's, with their kept numbers right; six more are for the queues of modules, the lowest one's first, and empty where none has them. Each module
-- stands there once.
pub record IsSide (s : StoreValue) (first : ℕ) (e : StreamEnd) : Type 0 where
  pub head_list : e.head.queue.list ≡ first
  pub driver_list : e.driver.list ≡ first + 1
  pub head : IsHeadQueue s e.head.queue
  pub driver : IsReady s e.driver
  pub stack : IsStackHeld s e.stack
  pub once : AreApart (modules_in s e.stack)
  pub lists : AreFor s (first + 2) (stack_owns e.stack)

-- Both sides beside their store, whatever is in hand, each on lists of its own.
abbrev pub AreSides : StoreValue → Both StreamEnd → Type 0
AreSides s ends = AllSides (λ side e. IsSide s (first_list side) e) ends
