-- The sink keeps its reference.
use Rattle.std.proofs.Common.{◌∙◌, ap}
use Rattle.strm_image.specs.Sinks.{sink_name}
use Rattle.strm_image.proofs.SinkRows.{name_put}
use Rattle.strm_pair.proofs.images.whole.put_behind.Goals as goal

pub returns-clause-same_reference : goal.returns-clause-same_reference
returns-clause-same_reference g c = ap sink_name c.put_image.ensures ∙ (name_put _ _ ∙ ap sink_name c.replace-taken.ensures.value)
