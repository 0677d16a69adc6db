-- What an event loop is told: what a side is ready for, and what is left of a pair.
use Rattle.std.specs.Prelude.{ℕ, ◌≡◌, ◌+◌, ◌&&◌, min, not, Bool, if◌then◌else◌, length, Option, Some}
use Rattle.strm_types.specs.declared.names.Side.{Side}
use Rattle.strm_types.specs.Journal.{room_used}
use Rattle.strm_laws.proofs.NoOwn.{none as no_own}
use Rattle.strm_laws.specs.Pair.{PairState}
use Rattle.strm_laws.specs.Refusals.{enough}
use Rattle.strm_pair.specs.declared.readiness.Ready.{Ready}
use Rattle.strm_pair.specs.Readiness.{readiness}
use Rattle.strm_handle.specs.declared.replies.Left.{Left}
use Rattle.strm_handle.specs.Kept.{KeptPair, is_held_back}

abbrev pub bit : ℕ → Bool → ℕ
bit n is = if is then n else 0

-- The bits of an open side: a read, a get, a write isn't EAGAIN, signals wait, an ioctl was answered, the other end is gone. A write asks for the
-- other end, and for blocks, too, and the reserve doesn't hold it back.
abbrev pub bits_of : Ready → Bool → ℕ
bits_of r has_blocks =
    if r.opened then bit 1 r.reads + (bit 2 r.gets + (bit 4 (r.writes && (not r.hung_up && has_blocks)) + (bit 8 r.signals + (bit 16 r.answered + bit 32 r.hung_up))))
    else 0

-- a write of 1024 bytes asks for 36 blocks
abbrev pub ready_at : Option Side → Option KeptPair → ℕ
ready_at (Some side) (Some k) = bits_of (readiness no_own side k.pair.state) (enough 36 k.pair.free && not (is_held_back side 36 k))
ready_at _ _ = 0

-- how many blocks are free of the kind of which fewer are, and how many entries and bytes the journal takes yet
pub record IsLeft (told : Left) (p : PairState) : Type 0 where
  pub blocks : told.blocks ≡ min p.free.mblks p.free.dblks
  pub entries : told.entries + length p.journal ≡ p.limits.journal_events
  pub bytes : told.bytes + room_used p.journal ≡ p.limits.journal_bytes

abbrev pub TellsLeft : Left → KeptPair → KeptPair → Type 0
TellsLeft told old new = (new ≡ old) × IsLeft told old.pair
