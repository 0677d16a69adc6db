-- The queues that a module is given when it is pushed (streamio(7I): I_PUSH).
use Rattle.std.specs.Prelude.{ℕ, ◌≡◌, ◌+◌, true, [], Option, is_some, IfSome}
use Rattle.strm_pair.specs.Prelude.{ModuleName, have_queues, queues_named, StoreValue, list_at, QueuePair, once, IsPairReady, queues_in, queues_own}

-- Modules of this name have them: then they are new and ready while nothing stands on their lists, which are two from a number on. Else there are none.
pub record GivenFor (name : ModuleName) (first : ℕ) (queues : Option QueuePair) : Type 0 where
  pub has : is_some queues ≡ have_queues name
  pub state : (s : StoreValue) → list_at s first ≡ [] → list_at s (first + 1) ≡ [] → queues_in s queues ≡ queues_named name
  pub ready : (s : StoreValue) → list_at s first ≡ [] → list_at s (first + 1) ≡ [] → IfSome queues (IsPairReady s)
  pub own : is_some queues ≡ true → (k : ℕ) → queues_own queues k ≡ once first k + once (first + 1) k
