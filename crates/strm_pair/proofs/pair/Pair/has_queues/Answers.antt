-- What is told is whether the stream has one.
use Rattle.strm_pair.proofs.Prelude.{ap, ◌∙◌, Option, is_some}
use Rattle.strm_pair.specs.Prelude.{place_named, PairState, stream}
use Rattle.strm_pair.proofs.pair.Pair.has_queues.Goals as goal

pub returns : goal.returns
returns g c =
    c.is_some.ensures ∙ ap (λ (o : Option _). is_some o) (c.module_named.ensures (g.B.Blocks.value c.self.inside.store))
    ∙ ap (λ (v : PairState). is_some (place_named c.args.place (stream c.args.side v.state).modules)) c.self.view_is
