-- What the head counts is what its queue counts, and a module's queue counts what its call says.
use Rattle.strm_pair.proofs.Prelude.{ap, sym, rules, ◌∙◌}
use Rattle.strm_pair.specs.Prelude.{count_of, Stream, stream}
use Rattle.strm_types.specs.declared.names.Place.TheVariants as places
use Rattle.strm_pair.specs.Named.{messages_named}
use Rattle.strm_pair.specs.Pairs.{state_in}
use Rattle.strm_pair.specs.Shows.{count_in}
use Rattle.strm_pair.proofs.streams.Streams.count.Goals as goal
use Rattle.strm_pair.specs.Stacks.{modules_in}

pub returns-in-Up : goal.returns-in-Up
returns-in-Up g c = search rules steps 300000

pub returns-in-Module : goal.returns-in-Module
returns-in-Module g c =
    let s = g.B.Blocks.value c.args.store.now in
    let t = stream c.args.queue.side (state_in s c.args.self.now) in
    let way = c.args.queue.way in
    let band = c.args.band.0 in
    c.count_named.ensures
    ∙ ap (λ place. count_of band (messages_named place way (modules_in s c.end-end.result.now.stack))) c.in-Module.is
    ∙ ap (λ (u : Stream _). count_of band (messages_named (places.Module c.in-Module.field-0) way u.modules)) (c.end-end.ensures.stream s)
    ∙ ap (λ place. count_in place way band t) (sym c.in-Module.is)
