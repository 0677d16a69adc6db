-- What is told is how many modules the streams have.
use Rattle.strm_pair.proofs.Prelude.{ap, ◌∙◌}
use Rattle.strm_pair.specs.Prelude.{modules_on, PairState}
use Rattle.strm_pair.proofs.pair.Pair.modules.Goals as goal

pub returns : goal.returns
returns g c =
    c.modules_on.ensures.on (g.B.Blocks.value c.self.inside.store) ∙ ap (λ (v : PairState). modules_on c.args.side v.state) c.self.view_is
