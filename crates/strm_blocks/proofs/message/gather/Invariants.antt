use Rattle.std.proofs.Common.{ℕ, ◌≡◌, ◌<◌, ◌+◌, [], length, get_or, sum_by}
use Rattle.strm_types.specs.declared.limits.TheConstants.{LISTS}
use Rattle.strm_blocks.specs.Message.{weigh}
use Rattle.strm_blocks.specs.declared.message.Message.{Message}
use Rattle.strm_blocks.proofs.message.gather.Given as goal

abbrev pub invariant-loop-list : goal.invariant-loop-list
invariant-loop-list l = record {
  empty : l.hand ≡ [];
  eight : length l.lists ≡ LISTS;
  below : (k : ℕ) → k < l.list → get_or l.lists k [] ≡ [];
  sums : (g : Message → ℕ) → sum_by g l.taken + sum_by (λ q. sum_by g q) l.lists ≡ weigh g l.fn.lists l.fn.hand;
}
