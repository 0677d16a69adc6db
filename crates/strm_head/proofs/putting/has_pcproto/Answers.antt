-- A visitor sees whether there is one.
use Rattle.std.proofs.Common.{◌∙◌, ap}
use Rattle.strm_head.specs.declared.putting.Urgent.{Urgent}
use Rattle.strm_head.proofs.Coming.{finds-urgent}
use Rattle.strm_head.proofs.putting.has_pcproto.Goals as goal

pub returns : goal.returns
returns g c = ap (λ (v : Urgent). v.found) c.visit.ensures ∙ finds-urgent (g.B.Blocks.value c.args.store.now) c.args.queue.now.list c.audit.ensures
