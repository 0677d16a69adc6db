-- All modules that stand there.
use Rattle.std.proofs.Common.{length, ap, ◌∙◌}
use Rattle.strm_laws.specs.State.{Stream}
use Rattle.strm_pair.proofs.streams.Streams.clear_modules.Goals as goal

pub take_all-requires-clause-count : goal.take_all-requires-clause-count
take_all-requires-clause-count g c =
    let s = g.B.Blocks.value c.args.store.now in
    c.module_count-count.ensures s ∙ ap (λ (t : Stream _). length t.modules) (c.end.ensures.stream s)
