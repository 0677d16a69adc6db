-- What holds of every pair while its lock is free, whatever any threads called.
use Rattle.std.specs.Prelude.{◌≡◌, ◌+◌, ◌≤◌, if◌then◌else◌}
use Rattle.strm_types.specs.declared.names.Dir.{Dir}
use Rattle.strm_types.specs.Cells.{Origin, plain, tagged}
use Rattle.strm_laws.proofs.NoOwn.{none as no_own}
use Rattle.strm_laws.specs.Based.{based}
use Rattle.strm_laws.specs.Kept.{told_by}
use Rattle.strm_laws.specs.Ledgers.{Balanced, is_booked, own_places_of, places_of}
use Rattle.strm_laws.specs.Pair.{PairState}
use Rattle.strm_laws.specs.State.{AreOrdered, messages_in}
use Rattle.strm_laws.specs.Step.{IsLegal, replay}
use Rattle.strm_locks.specs.Books.{LockId}

-- each message has a message block at least, and where none stands all blocks of both kinds are free
abbrev pub HasBlocks : PairState → Type 0
HasBlocks p = (messages_in p.state + p.free.mblks ≤ p.limits.mblks) × (messages_in p.state ≡ 0 → p.free ≡ record { mblks = p.limits.mblks; dblks = p.limits.dblks })

-- a byte that stood there at the base or was booked since is in one place, and that in its own direction; another is in none
abbrev pub IsPlacedOnce : Origin → PairState → Type 0
IsPlacedOnce o p = let n = if is_booked o p.base (replay no_own tagged (based p.base) p.journal) then 1 else 0 in (places_of no_own o p.base p.journal ≡ n) × (own_places_of no_own o p.base p.journal ≡ n)

-- The journal is legal from its base, and the queues for which the blocks stand are those to which replaying it leads; what has gone by each rule is what its entries let go. Each queue is
-- ordered by priority, and first come within each. Each message has a message block at least, and where none stands all blocks are free. In each direction what was written and made is what
-- stands on queues and in lines and what has gone by each rule; each byte that stood there at the base or was booked since is in one place, in its own direction, and no other byte is in any.
pub record IsSound (p : PairState) : Type 0 where
  pub legal : IsLegal no_own plain p.base p.journal
  pub replayed : p.state ≡ replay no_own plain p.base p.journal
  pub gone : p.fates ≡ told_by no_own plain p.base p.journal p.base_fates
  pub ordered : AreOrdered p.state
  pub blocks : HasBlocks p
  pub balanced : (dir : Dir) → Balanced dir p.state p.fates
  pub once : (o : Origin) → IsPlacedOnce o p

-- the same, of a pair that has the sizes of the one that its lock was made with
abbrev pub IsSoundAt : LockId → PairState → Type 0
IsSoundAt lock p = IsSound p × (p.limits ≡ lock.sizes)
