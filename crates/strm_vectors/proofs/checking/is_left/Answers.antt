use Rattle.strm_vectors.proofs.PairRows.{on_ok}
use Rattle.strm_vectors.proofs.checking.is_left.Goals as goal

pub returns : goal.returns
returns g c = on_ok c.agrees.result _ _ (λ found. (found.0, (found.1.0, found.1.1.1))) c.agrees.ensures
