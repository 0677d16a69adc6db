-- A message that is to be delivered, with nothing else in hand.
use Rattle.std.specs.Prelude.{ℕ, ◌≡◌, [], ◌∷◌}
use Rattle.strm_pair.specs.Prelude.{AreIdle, StoreValue, in_hand, IsChain}
use Rattle.strm_pair.specs.declared.streams.Streams.{Streams}
use Rattle.strm_pair.specs.Enabling.{AreFewEnabled}
use Rattle.strm_pair.specs.Pairs.{state_in, AreBeside}

-- It alone is in hand, the streams fit the store, nothing of a turn is under way at any module, and enabled queues are there.
pub record IsAlone (s : StoreValue) (p : Streams) (name : ℕ) : Type 0 where
  pub hand : s.hand ≡ record { name = name; chain = in_hand s name } ∷ []
  pub chain : IsChain (in_hand s name)
  pub beside : AreBeside s p
  pub idle : AreIdle (state_in s p)
  pub enabled : AreFewEnabled (state_in s p)
