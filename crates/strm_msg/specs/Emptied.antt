-- A message whose blocks that show no bytes were freed (unlinkb(9F), freeb(9F)).
use Rattle.std.specs.Prelude.{ℕ, ◌≡◌, nat_lt, List, [], filter, length}
use Rattle.strm_blocks.specs.Blocks.{Block, StoreValue, IsInHand, banded, block_at, dropped, in_hand}

-- the blocks that show bytes
abbrev pub filled_blocks : List Block → List Block
filled_blocks chain = filter (λ b. nat_lt 0 (length b.bytes)) chain

-- a chain without the others; the band of the message stays
abbrev pub without_emptied : List Block → List Block
without_emptied chain = banded (block_at 0 chain).band (filled_blocks chain)

-- One message is in hand, with this chain, beside all that a store has, and nothing else is.
pub record Beside (store new : StoreValue) (name : ℕ) (chain : List Block) : Type 0 where
  pub here : IsInHand new name
  pub chain_is : in_hand new name ≡ chain
  pub others : dropped new name ≡ store

-- No block of a message in hand showed bytes, and it was freed.
pub record FreedWhole (old new : StoreValue) (name : ℕ) : Type 0 where
  pub none : filled_blocks (in_hand old name) ≡ []
  pub after : new ≡ dropped old name
