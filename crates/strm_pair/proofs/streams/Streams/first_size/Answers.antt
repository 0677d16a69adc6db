-- What stands on a module's queue is what its call says.
use Rattle.strm_pair.proofs.Prelude.{ap, sym, ◌∙◌}
use Rattle.strm_pair.specs.Prelude.{Stream, stream, first_size}
use Rattle.strm_types.specs.declared.names.Place.TheVariants as places
use Rattle.strm_pair.specs.Named.{messages_named}
use Rattle.strm_pair.specs.Pairs.{state_in}
use Rattle.strm_pair.specs.Shows.{messages_in}
use Rattle.strm_pair.proofs.streams.Streams.first_size.Goals as goal
use Rattle.strm_pair.specs.Stacks.{modules_in}

pub returns-in-Module : goal.returns-in-Module
returns-in-Module g c =
    let s = g.B.Blocks.value c.args.store.now in
    let t = stream c.args.queue.side (state_in s c.args.self.now) in
    let way = c.args.queue.way in
    c.first_size_named.ensures
    ∙ ap (λ place. first_size (messages_named place way (modules_in s c.end-end.result.now.stack))) c.in-Module.is
    ∙ ap (λ (u : Stream _). first_size (messages_named (places.Module c.in-Module.field-0) way u.modules)) (c.end-end.ensures.stream s)
    ∙ ap (λ place. first_size (messages_in place way t)) (sym c.in-Module.is)
