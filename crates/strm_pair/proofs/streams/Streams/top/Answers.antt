-- The stack of the side says it.
use Rattle.strm_pair.proofs.Prelude.{ℕ, ap, ◌∙◌}
use Rattle.strm_pair.specs.Prelude.{top_name, module_name, Stream}
use Rattle.strm_pair.proofs.streams.Streams.top.Goals as goal

pub returns : goal.returns
returns c = λ s. c.look.ensures s ∙ ap (λ (t : Stream ℕ). top_name module_name t.modules) (c.end.ensures.stream s)
