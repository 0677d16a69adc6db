-- What stands on a module's queue is what its call says.
use Rattle.strm_pair.proofs.Prelude.{length, ap, sym, ◌∙◌}
use Rattle.strm_pair.specs.Prelude.{bytes_of, Stream, stream}
use Rattle.strm_types.specs.declared.names.Place.TheVariants as places
use Rattle.strm_pair.specs.Named.{messages_named}
use Rattle.strm_pair.specs.Pairs.{state_in}
use Rattle.strm_pair.specs.Shows.{messages_in}
use Rattle.strm_pair.proofs.streams.Streams.sizes.Goals as goal
use Rattle.strm_pair.specs.Stacks.{modules_in}

pub returns-in-Module-clause-messages : goal.returns-in-Module-clause-messages
returns-in-Module-clause-messages g c =
    let s = g.B.Blocks.value c.args.store.now in
    let t = stream c.args.queue.side (state_in s c.args.self.now) in
    let way = c.args.queue.way in
    c.sizes_named.ensures.messages
    ∙ ap (λ place. length (messages_named place way (modules_in s c.end-end.result.now.stack))) c.in-Module.is
    ∙ ap (λ (u : Stream _). length (messages_named (places.Module c.in-Module.field-0) way u.modules)) (c.end-end.ensures.stream s)
    ∙ ap (λ place. length (messages_in place way t)) (sym c.in-Module.is)

pub returns-in-Module-clause-bytes : goal.returns-in-Module-clause-bytes
returns-in-Module-clause-bytes g c =
    let s = g.B.Blocks.value c.args.store.now in
    let t = stream c.args.queue.side (state_in s c.args.self.now) in
    let way = c.args.queue.way in
    c.sizes_named.ensures.bytes
    ∙ ap (λ place. bytes_of (messages_named place way (modules_in s c.end-end.result.now.stack))) c.in-Module.is
    ∙ ap (λ (u : Stream _). bytes_of (messages_named (places.Module c.in-Module.field-0) way u.modules)) (c.end-end.ensures.stream s)
    ∙ ap (λ place. bytes_of (messages_in place way t)) (sym c.in-Module.is)
