-- The bytes of the first chain are those of its message.
use Rattle.std.proofs.Common.{◌∙◌, ap}
use Rattle.std.specs.Prelude.{unwrap_or}
use Rattle.strm_blocks.specs.Blocks.{list_at}
use Rattle.strm_queue.proofs.Measures.{first-length}
use Rattle.strm_queue.proofs.lengths.first_size.Goals as goal

pub returns : goal.returns
returns g c =
    c.unwrap_or.ensures ∙ ap (λ o. unwrap_or o 0) c.length.ensures
    ∙ first-length (list_at (g.B.Blocks.value c.args.store.now) c.args.queue.now.list) c.requires.messages.chains
