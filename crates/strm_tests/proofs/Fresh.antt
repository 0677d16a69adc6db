-- A queue on an empty list, and a block that was made.
use Rattle.std.proofs.Common.{ℕ, ◌≡◌, [], sym, ap, subst, ◌∙◌}
use Rattle.strm_blocks.specs.Blocks.{StoreValue, list_at}
use Rattle.strm_frame.proofs.Pairs.{empty-ready}
use Rattle.strm_queue.specs.declared.queue.Queue.{Queue}
use Rattle.strm_queue.specs.Kept.{AreCounted}
use Rattle.strm_queue.specs.Stored.{HoldsReadable, IsHeadQueue}

pub empty-head : (s : StoreValue) (q : Queue) (list : ℕ) → q.list ≡ list → AreCounted q.flows [] → list_at s list ≡ [] → IsHeadQueue s q
empty-head s q list same counted none = record {
  ready = empty-ready s q list same counted none;
  readable = subst HoldsReadable (sym (ap (list_at s) same ∙ none)) (record { each = tt });
}
