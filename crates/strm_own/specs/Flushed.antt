-- What a flush took from a queue of a pair (flushq(9F); STREAMS Programming Guide, "Flush Handling").
use Rattle.std.specs.Prelude.{ℕ, ◌≡◌, Bool, if◌then◌else◌, [], ◌∷◌, Some}
use Rattle.strm_own.specs.Prelude.{StoreValue, QueuePair, Fates, Acted, tallied}
use Rattle.strm_types.specs.declared.names.Way.{Way}
use Rattle.strm_types.specs.declared.spots.Note.TheVariants.{Room}
use Rattle.strm_types.specs.Standings as plain
use Rattle.strm_queue.specs.Stored.{FreesBlocks}
use Rattle.strm_frame.specs.Hands.{OnlyOwn}
use Rattle.strm_frame.specs.Serves.{SameHand}
use Rattle.strm_frame.specs.Standings.{IsPairReady, lists_of, pair_in, queues_own}

-- The queue of a way was flushed, or not, as a definition says, and whether that has room again was told. Only that queue changed, and no block was
-- taken.
pub record Flushes (old new : StoreValue) (pair pair' : QueuePair) (way : Way) (room : Bool) (t t' : Fates) (is : Acted ℕ (plain.QueuePair ℕ)) : Type 0 where
  pub state : pair_in new pair' ≡ is.state
  pub notes : (if room then Room way ∷ [] else []) ≡ is.notes
  pub told : t' ≡ tallied is.gone t
  pub ready : IsPairReady new pair'
  pub lists : lists_of (Some pair') ≡ lists_of (Some pair)
  pub own : OnlyOwn old new (queues_own (Some pair)) (queues_own (Some pair'))
  pub hand : SameHand old new
  pub frees : FreesBlocks old new
