use Rattle.std.proofs.Common.{◌≡◌, ℕ, ◌+◌, ◌*◌, ◌≤◌, length}
use Rattle.std.specs.Prelude.{All, IfSome}
use Rattle.strm_storm.specs.Storms.{AreHands, all_counted}
use Rattle.strm_storm.proofs.storms.crew.joined.Given as goal

abbrev pub invariant-loop-thread : goal.invariant-loop-thread
invariant-loop-thread g l = record {
  hands : IfSome l.hands (λ v. AreHands l.system v.items);
  kept : All (λ t. (t.promise.system.now ≡ l.system) × (t.promise.calls ≤ 65536)) l.thread-iterator.rest.items;
  all : (calls : ℕ) → All (λ t. t.promise.calls ≡ calls) l.fn.threads.items → All (λ t. t.promise.calls ≡ calls) l.thread-iterator.rest.items × (all_counted l.counts + length l.thread-iterator.rest.items * calls ≡ length l.fn.threads.items * calls);
  few : all_counted l.counts + length l.thread-iterator.rest.items * 65536 ≤ 1048576;
}
