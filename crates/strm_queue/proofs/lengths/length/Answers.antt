-- The visitor measures one message.
use Rattle.std.proofs.Common.{◌∙◌, ap}
use Rattle.strm_queue.specs.declared.lengths.Measure.{Measure}
use Rattle.strm_queue.proofs.Measures.{measured-on}
use Rattle.strm_queue.proofs.lengths.length.Goals as goal

pub returns : goal.returns
returns g c =
    ap (λ (v : Measure). v.found) c.visit.ensures
    ∙ measured-on (g.B.Blocks.value c.args.store.now) c.args.queue.now.list c.args.data_only c.args.passes_over c.audit.ensures
