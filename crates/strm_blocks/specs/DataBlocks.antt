-- What the data blocks of a store stand for, and what holds of their fields.
use Rattle.std.specs.Prelude.{ℕ, ◌≡◌, ◌≤◌, ◌<◌, [], length, slice_index_or, vec_capacity}
use Rattle.strm_blocks.specs.Pool.{Pool, IsFreeList}
use Rattle.strm_blocks.specs.declared.data.DataBlocks.TheInside.{Inside}

abbrev pub pool_of : Inside → Pool
pool_of d = record { bytes = d.bytes.items; references = d.references.items }

-- the free ones are listed, and the list has room for all
pub record IsPool (d : Inside) : Type 0 where
  pub few : length d.references.items ≤ 65536
  pub same_count : length d.bytes.items ≡ length d.references.items
  pub sized : (n : ℕ) → n < length d.references.items → length (slice_index_or d.bytes.items n []) ≡ 256
  pub bounded : (n : ℕ) → slice_index_or d.references.items n 0 ≤ 255
  pub free : IsFreeList d.free.items d.references.items
  pub room : length d.references.items ≤ vec_capacity d.free
