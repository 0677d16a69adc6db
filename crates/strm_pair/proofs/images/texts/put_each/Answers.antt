-- A visitor writes the messages.
use Rattle.std.proofs.Common.{◌∙◌, ap}
use Rattle.strm_pair.specs.Writings.{ended}
use Rattle.strm_pair.specs.declared.images.texts.Writing.{Writing}
use Rattle.strm_pair.proofs.ListTexts.{store_told}
use Rattle.strm_pair.proofs.images.texts.put_each.Goals as goal

pub returns : goal.returns
returns g c =
    ap (λ (w : Writing). w.out) c.end.ensures ∙ ap (λ (w : Writing). (ended w).out) c.visit.ensures
    ∙ store_told (g.B.Blocks.value c.args.store.now) c.args.queue.now.list _ c.audit.ensures c.requires.messages.chains
