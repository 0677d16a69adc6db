use Rattle.std.proofs.Common.{rules, ap}
use Rattle.strm_locks.specs.Books.{Kept}
use Rattle.strm_locks.proofs.held.Held.seen.Goals as goal

pub returns : goal.returns
returns g c = (c.self.inside.pair, ap (λ (k : Kept). k.pair) c.self.view_is, search rules)
