use Rattle.strm_pair.proofs.Prelude.{◌≡◌}
use Rattle.strm_pair.specs.Prelude.{place_named, StoreValue}
use Rattle.strm_pair.proofs.Tried.{named_at}
use Rattle.strm_pair.proofs.named_queues.place_named.Given as goal
use Rattle.strm_pair.specs.Stacks.{modules_in}

abbrev pub invariant-loop-index : goal.invariant-loop-index
invariant-loop-index l = record {
  same : (s : StoreValue) → named_at l.place l.index (modules_in s l.stack) ≡ place_named l.place (modules_in s l.stack);
}
