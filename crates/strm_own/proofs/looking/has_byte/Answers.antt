-- The visitor has seen it.
use Rattle.std.proofs.Common.{ap, false, ◌∙◌}
use Rattle.strm_blocks.specs.Blocks.{list_at}
use Rattle.strm_own.specs.declared.looking.Seeker.{Seeker}
use Rattle.strm_own.proofs.Sought.{found-on}
use Rattle.strm_own.proofs.looking.has_byte.Goals as goal

pub returns : goal.returns
returns g c =
    ap (λ (v : Seeker). v.found) c.visit.ensures
    ∙ found-on c.args.byte false (list_at (g.B.Blocks.value c.args.store.now) c.args.queue.now.list) c.requires.messages.chains
