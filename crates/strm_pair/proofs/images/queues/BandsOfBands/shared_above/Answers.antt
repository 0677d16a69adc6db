-- What the kept flow control says the plain one says.
use Rattle.std.proofs.Common.{List, Option, None, Some, ◌∙◌}
use Rattle.std.specs.Prelude.{IfSome, MatchOption}
use Rattle.std.proofs.Math.ListN.{get_or-map}
use Rattle.strm_types.specs.declared.options.Marks.{Marks}
use Rattle.strm_queue.specs.declared.flow.Flow as kept
use Rattle.strm_queue.specs.Flows.{plain_flow, plain_flows}
use Rattle.strm_queue.specs.Kept.{RestAbove, no_flow}
use Rattle.strm_image.specs.Queues as formats
use Rattle.strm_pair.proofs.images.queues.BandsOfBands.shared_above.Goals as goal

shared-plain : (flows : List kept.Flow) (shared : Option Marks) → MatchOption shared ((marks : Marks) → RestAbove marks flows → ⊥) (λ marks. RestAbove marks flows) → IfSome shared (λ marks. formats.RestAbove marks (plain_flows flows))
shared-plain flows None none = tt
shared-plain flows (Some marks) rest = λ band above lt. get_or-map plain_flow flows band no_flow ∙ rest band above lt

pub returns-clause-shared : goal.returns-clause-shared
returns-clause-shared c = shared-plain c.args.self.now.flows.now c.shared_above.result c.shared_above.ensures
