-- The module of the side's stack is found.
use Rattle.strm_pair.proofs.Prelude.{ℕ, ap, ◌∙◌}
use Rattle.strm_pair.specs.Prelude.{place_named, Stream}
use Rattle.strm_pair.proofs.streams.Streams.module_named.Goals as goal

pub returns : goal.returns
returns c = λ s. c.place_named.ensures.place s ∙ ap (λ (t : Stream ℕ). place_named c.args.name t.modules) (c.end.ensures.stream s)
