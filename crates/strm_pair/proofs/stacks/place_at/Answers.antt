-- The module's name says which queues it has.
use Rattle.std.proofs.Common.{◌∙◌}
use Rattle.strm_pair.proofs.NamedPlaces.{place-at}
use Rattle.strm_pair.proofs.stacks.place_at.Goals as goal

pub returns-in-Some : goal.returns-in-Some
returns-in-Some c = λ s.
    c.place.ensures ∙ place-at _ c.args.stack.now.modules.items c.as_slice.result.now c.args.at c.in-Some.standing.now c.name.result c.requires.inside (c.requires.within s) (c.name.ensures s) c.in-Some.ensures.lookup.1
    c.as_slice.ensures.value
