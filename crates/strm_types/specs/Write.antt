-- The chunks of a write (write(2), streamio(7I)).
use Rattle.std.specs.Prelude.{ℕ, zero, suc, ◌+◌, ◌-◌, ◌/◌, max, List, [], ◌∷◌, take, drop}
use Rattle.strm_types.specs.declared.limits.TheConstants.{BLOCK_SIZE}

-- how many messages a write of so many bytes makes: one for each begun 256 bytes, at least one
unfoldable pub chunk_count : ℕ → ℕ
chunk_count bytes = max ((bytes + (BLOCK_SIZE - 1)) / BLOCK_SIZE) 1

module _ {C : Type 0} where
  -- so many pieces of the bytes, of at most 256 each
  abbrev pub chunks_of : ℕ → List C → List (List C)
  chunks_of zero cells = []
  chunks_of (suc count) cells = take BLOCK_SIZE cells ∷ chunks_of count (drop BLOCK_SIZE cells)
