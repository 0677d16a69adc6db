-- What puts, calls and turns ask of the streams and their store, and what calls and turns lead to.
use Rattle.std.specs.Prelude.{ℕ, ◌≡◌, ◌≤◌, ◌+◌, true, List}
use Rattle.strm_pair.specs.Prelude.{Fates, Fate, tallied, AreIdle, in_range, spare, State, StoreValue, in_hand, IsChain, CanPut, HasRoom}
use Rattle.strm_pair.specs.declared.streams.Streams.{Streams}
use Rattle.strm_pair.specs.Enabling.{AreFewEnabled}
use Rattle.strm_pair.specs.Pairs.{state_in, AreBeside, AreHeld, SamePool, kept_by}

-- The streams are at rest: they fit the store, nothing is in hand, nothing of a turn is under way at any module, and enabled queues are there.
pub record AreAtRest (s : StoreValue) (p : Streams) : Type 0 where
  pub held : AreHeld s p
  pub idle : AreIdle (state_in s p)
  pub enabled : AreFewEnabled (state_in s p)

-- A message may be put at a spot: it is in hand, beside what the stacks keep, and the streams fit the store.
pub record MayPut (s : StoreValue) (p : Streams) (message : ℕ) : Type 0 where
  pub beside : AreBeside s p
  pub can_put : CanPut s message (kept_by p)
  pub chain : IsChain (in_hand s message)

-- A message may be delivered: the streams are at rest, so many blocks of each kind are free, and the books have room for what modules make
-- of it.
pub record MayDeliver (s : StoreValue) (p : Streams) (blocks : ℕ) : Type 0 where
  pub rests : AreAtRest s p
  pub room : HasRoom s blocks
  pub range : in_range (state_in s p) ≡ true

-- The streams stand for this state now and fit the store, with nothing in hand. What has gone is told by its rules, and the store has as
-- many blocks as before.
pub record Leads (old new : StoreValue) (q : Streams) (told told' : Fates) (led : State ℕ) (gone : List (Fate ℕ)) : Type 0 where
  pub state : state_in new q ≡ led
  pub tells : told' ≡ tallied gone told
  pub held : AreHeld new q
  pub pool : SamePool old new

-- The same where messages were delivered: as many packets as before may be made until a book is full, but for so many.
pub record Delivers (old new : StoreValue) (p q : Streams) (told told' : Fates) (led : State ℕ) (gone : List (Fate ℕ)) (packets : ℕ) : Type 0 where
  pub leads : Leads old new q told told' led gone
  pub left : spare (state_in old p) ≤ spare (state_in new q) + packets

-- Whatever stands in the store, the streams stand for what becomes of their state, and fit where they did.
pub record Becomes (p q : Streams) (becomes : State ℕ → State ℕ) : Type 0 where
  pub state : (s : StoreValue) → state_in s q ≡ becomes (state_in s p)
  pub held : (s : StoreValue) → AreHeld s p → AreHeld s q
