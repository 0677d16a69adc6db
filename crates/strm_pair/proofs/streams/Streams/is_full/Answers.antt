-- A module's queue is full where its call says so.
use Rattle.strm_pair.proofs.Prelude.{false, ap, sym, ◌∙◌}
use Rattle.strm_pair.specs.Prelude.{Stream, stream}
use Rattle.strm_types.specs.declared.names.Place.TheVariants as places
use Rattle.strm_types.specs.ModuleQueues as modules
use Rattle.strm_pair.specs.Named.{at_named}
use Rattle.strm_pair.specs.Pairs.{state_in}
use Rattle.strm_pair.specs.Shows.{full_in}
use Rattle.strm_pair.proofs.streams.Streams.is_full.Goals as goal
use Rattle.strm_pair.specs.Stacks.{modules_in}

pub returns-in-Module : goal.returns-in-Module
returns-in-Module g c =
    let s = g.B.Blocks.value c.args.store.now in
    let t = stream c.args.queue.side (state_in s c.args.self.now) in
    let way = c.args.queue.way in
    let band = c.args.band.0 in
    c.is_full_named.ensures
    ∙ ap (λ place. at_named place (modules.full_at way band) false (modules_in s c.end-end.result.now.stack)) c.in-Module.is
    ∙ ap (λ (u : Stream _). at_named (places.Module c.in-Module.field-0) (modules.full_at way band) false u.modules) (c.end-end.ensures.stream s)
    ∙ ap (λ place. full_in place way band t) (sym c.in-Module.is)
