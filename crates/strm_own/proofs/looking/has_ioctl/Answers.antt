-- A visitor sees whether there is one.
use Rattle.std.proofs.Common.{refl, ap, ◌∙◌}
use Rattle.strm_types.specs.Commands.{is_ioctl}
use Rattle.strm_queue.proofs.Finding.{finds-on}
use Rattle.strm_own.specs.declared.looking.Asker.{Asker}
use Rattle.strm_own.proofs.looking.has_ioctl.Goals as goal

pub returns : goal.returns
returns g c =
    ap (λ (v : Asker). v.found) c.visit.ensures
    ∙ finds-on (λ (v : Asker). v.found) (λ b. record { found = b }) (λ b. refl) is_ioctl (g.B.Blocks.value c.args.store.now) c.args.queue.now.list c.audit.ensures
