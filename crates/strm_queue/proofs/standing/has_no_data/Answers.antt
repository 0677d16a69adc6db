-- A visitor sees whether there is one.
use Rattle.std.proofs.Common.{refl, ap, ◌∙◌}
use Rattle.std.specs.Prelude.{not}
use Rattle.strm_types.specs.Message.{is_held}
use Rattle.strm_queue.specs.declared.standing.Ordinary.{Ordinary}
use Rattle.strm_queue.proofs.Finding.{finds-on}
use Rattle.strm_queue.proofs.standing.has_no_data.Goals as goal

pub returns : goal.returns
returns g c =
    ap not (ap (λ (v : Ordinary). v.found) c.visit.ensures
    ∙ finds-on (λ (v : Ordinary). v.found) (λ b. record { found = b }) (λ b. refl) is_held (g.B.Blocks.value c.args.store.now) c.args.queue.now.list c.audit.ensures)
