-- Which node a pointer leads to: nodes of s bytes lie side by side from the pointer `at` on.
use Rattle.std.specs.Prelude.{◌≡◌, ℕ, ◌+◌, ◌-◌, ◌*◌, ◌/◌, ◌<◌}
use denote.RawPtr.{Ptr, block_ptr, null_ptr, count_of}

-- where node i lies
unfoldable pub place : ℕ → Ptr → ℕ → Ptr
place s (block_ptr b o) i = block_ptr b (i * s + o)
place s null_ptr i = null_ptr

-- which node lies at p
unfoldable pub index_of : ℕ → Ptr → Ptr → ℕ
index_of s at p = (count_of p - count_of at) / s

-- one of n nodes lies at p
abbrev pub IsPlace : ℕ → Ptr → Ptr → ℕ → Type 0
IsPlace s at p n = (index_of s at p < n) × (p ≡ place s at (index_of s at p))
