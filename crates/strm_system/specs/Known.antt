-- What a pair tells of its numbers, from which they are seen to grow as calls say.
use Rattle.std.specs.Prelude.{◌≡◌, ◌+◌, ◌<◌, ◌^◌, length, sum_by}
use Rattle.strm_types.specs.declared.entries.Entry.TheVariants.{Called, Turned}
use Rattle.strm_types.specs.declared.names.Dir.{Dir}
use Rattle.strm_types.specs.declared.rules.Fates.{Fates}
use Rattle.strm_types.specs.Journal.{PlainEntry}
use Rattle.strm_types.specs.Names.{direction_of, head_of}
use Rattle.strm_types.specs.Rules.{fates_of}
use Rattle.strm_laws.specs.Ledgers.{ledger_of}
use Rattle.strm_laws.specs.Pair.{PairState}
use Rattle.strm_locks.specs.Tallies.{bytes_read}

-- a direction has a count of bytes by each rule, each of 64 bits
abbrev pub AreCounts : Fates → Type 0
AreCounts fates = (dir : Dir) → (0 < length (fates_of dir fates)) × (bytes_read dir fates < 2 ^ 64)

-- what was written and made in a direction is what stands there and what has gone
abbrev pub Agrees : Dir → PairState → Type 0
Agrees dir p = let l = ledger_of dir p.state p.fates in l.written + l.made ≡ l.queued + (l.inline + sum_by (λ n. n) l.fates)

-- The counts of a pair, and for a call its ledger of the direction that the caller reads.
abbrev pub IsKnown : PlainEntry → PairState → Type 0
IsKnown (Called caller asked answer) p = AreCounts p.fates × Agrees (direction_of (head_of caller.side)) p
IsKnown (Turned name turn) p = AreCounts p.fates
