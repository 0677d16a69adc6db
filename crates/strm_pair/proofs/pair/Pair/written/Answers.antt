use Rattle.strm_pair.proofs.Prelude.{ap, ◌∙◌}
use Rattle.strm_pair.specs.Prelude.{Book, PairState, book}
use Rattle.strm_pair.proofs.pair.Pair.written.Goals as goal

pub returns : goal.returns
returns g c =
    ap (λ (b : Book). b.written) (c.book.ensures (g.B.Blocks.value c.self.inside.store))
    ∙ ap (λ (v : PairState). (book c.args.direction v.state).written) c.self.view_is
