-- What it is by itself, and its queues, where it has any.
use Rattle.strm_pair.proofs.StacksMade.{placed-module}
use Rattle.strm_pair.proofs.images.made_modules.module_of.Goals as goal

pub returns : goal.returns
returns g c =
    let s = g.B.Blocks.value c.args.store.now in
    let t = g.B.Blocks.value c.queues_of.new.store in
    let k = c.kind_of.ensures in
    placed-module s t c.args.first c.args.shelf.now _ c.args.text.now c.kind_of.result c.queues_of.result c.requires.good (k.state t) (k.held t) k.rests c.queues_of.ensures
