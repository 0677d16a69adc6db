-- What a flush takes from a list of a raw store (flushq(9F), flushband(9F)).
use Rattle.std.specs.Prelude.{ℕ, ◌≡◌, List}
use Rattle.strm_blocks.specs.Blocks.{Block, StoreValue, held, IsFreshName}

-- what was taken is one message in hand, and the rest of the store is what is left
pub record Gathers (old left new : StoreValue) (name : ℕ) : Type 0 where
  pub fresh_name : IsFreshName old name
  pub chain : List Block
  pub after : new ≡ held left name chain
