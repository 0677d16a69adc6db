-- What is left of a message whose bytes were trimmed at one end (adjmsg(9F)).
use Rattle.std.specs.Prelude.{ℕ, suc, ℤ, pos, negsuc, ◌-◌, min, Bool, nat_le, if◌then◌else◌, List, [], ◌∷◌, ◌++◌, length, take, drop, reverse}
use Rattle.strm_blocks.specs.Blocks.{Block, trimmed_head, trimmed_tail}
use Rattle.strm_msg.specs.declared.adjust.End.{End}
use Rattle.strm_msg.specs.declared.adjust.End.TheVariants.{Head, Tail}
use Rattle.strm_msg.specs.Bytes.{bytes_of}
use Rattle.strm_msg.specs.Runs.{front_run, tail_run}

-- blocks from each of which, the first one first, as many of so many bytes are trimmed as it has and are left to trim
abbrev pub trimmed_by : (ℕ → Block → Block) → ℕ → List Block → List Block
trimmed_by trim n [] = []
trimmed_by trim n (b ∷ blocks) = trim (min n (length b.bytes)) b ∷ trimmed_by trim (n - length b.bytes) blocks

-- a chain whose first so many blocks lose bytes; the others are as they were
abbrev pub trimmed_front : (ℕ → Block → Block) → ℕ → ℕ → List Block → List Block
trimmed_front trim n blocks chain = trimmed_by trim n (take blocks chain) ++ drop blocks chain

-- A chain without the first so many bytes of the run at its front. The blocks stay, some of them with no bytes.
abbrev pub without_head : ℕ → List Block → List Block
without_head n chain = trimmed_front trimmed_head n (length (front_run chain)) chain

-- A chain without the last so many bytes of the run at its end: the same, seen from the last block on.
abbrev pub without_tail : ℕ → List Block → List Block
without_tail n chain = reverse (trimmed_front trimmed_tail n (length (tail_run chain)) (reverse chain))

-- whether the run at the front has so many bytes, or for a number below 0 that at the end
abbrev pub has_bytes : ℤ → List Block → Bool
has_bytes (pos n) chain = nat_le n (length (bytes_of (front_run chain)))
has_bytes (negsuc n) chain = nat_le (suc n) (length (bytes_of (tail_run chain)))

-- a chain without so many bytes of the run at its front, or for a number below 0 of that at its end
abbrev pub trimmed : ℤ → List Block → List Block
trimmed (pos n) chain = without_head n chain
trimmed (negsuc n) chain = without_tail (suc n) chain

-- what is left of a chain, which is all of it where that run has fewer bytes
abbrev pub adjusted : ℤ → List Block → List Block
adjusted n chain = if has_bytes n chain then trimmed n chain else chain

-- bytes without so many at the front, or for a number below 0 at the end
abbrev pub left_of : ℤ → List ℕ → List ℕ
left_of (pos n) bytes = drop n bytes
left_of (negsuc n) bytes = take (length bytes - suc n) bytes

-- a block but for the bytes that it shows and the room behind them: its kind, its band and its data block
abbrev pub without_bytes : Block → Block
without_bytes b = record b { bytes = []; room = 0 }

-- a chain as it is seen from an end, the nearest block first
abbrev pub seen_from : End → List Block → List Block
seen_from Head chain = chain
seen_from Tail chain = reverse chain

-- the place of the block that stands so many blocks from an end of a chain
abbrev pub place_from : End → ℕ → ℕ → ℕ
place_from Head count steps = steps
place_from Tail count steps = count - 1 - steps

-- how a block loses bytes at an end
abbrev pub trim_at : End → ℕ → Block → Block
trim_at Head = trimmed_head
trim_at Tail = trimmed_tail

-- the end that a number speaks of
abbrev pub end_of : ℤ → End
end_of (pos n) = Head
end_of (negsuc n) = Tail
