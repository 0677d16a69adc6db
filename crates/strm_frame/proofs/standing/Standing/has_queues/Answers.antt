-- Whether it has a pair.
use Rattle.std.proofs.Common.{◌≡◌, refl, ◌∙◌}
use Rattle.std.specs.Prelude.{Option, None, Some, is_some}
use Rattle.strm_blocks.specs.Blocks.{StoreValue}
use Rattle.strm_frame.specs.declared.queue_pair.QueuePair.{QueuePair}
use Rattle.strm_frame.specs.Standings.{queues_in}
use Rattle.strm_frame.proofs.standing.Standing.has_queues.Goals as goal

some-shown : (s : StoreValue) (queues : Option QueuePair) → is_some queues ≡ is_some (queues_in s queues)
some-shown s None = refl
some-shown s (Some pair) = refl

pub returns : goal.returns
returns g c = λ s. c.is_some.ensures ∙ some-shown s c.args.self.now.queues
