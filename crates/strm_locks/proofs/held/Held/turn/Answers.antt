use Rattle.std.proofs.Common.{◌≡◌, ap, ◌∙◌}
use Rattle.std.specs.Prelude.{Err}
use Rattle.strm_laws.specs.Pair.{queue_refused}
use Rattle.strm_locks.specs.Books.{kept}
use Rattle.strm_locks.proofs.Booking.{refused-map, turn-still}
use Rattle.strm_locks.proofs.held.Held.turn.Goals as goal

pub invariant_of-self : goal.invariant_of-self
invariant_of-self g c =
    (turn-still (g.P.Object.pair_of c.self.inside.pair) (g.P.Object.pair_of c.turn.new.self) c.args.name c.turn.result c.self.inside.calls c.self.inside.left _ c.turn.ensures.refused c.turn.ensures.adds c.turn.ensures.tally).0 c.self.invariant

pub returns-clause-refused : goal.returns-clause-refused
returns-clause-refused g c =
    refused-map _ _ _ (λ r. c.turn.result ≡ Err r) _ _ (ap (λ k. queue_refused k.pair c.args.name) c.self.view_is) (λ same. ap (λ p. kept c.self.inside.calls p c.self.inside.left) same ∙ c.self.view_is) c.turn.ensures.refused

pub returns-clause-book : goal.returns-clause-book
returns-clause-book g c =
    (turn-still (g.P.Object.pair_of c.self.inside.pair) (g.P.Object.pair_of c.turn.new.self) c.args.name c.turn.result c.self.inside.calls c.self.inside.left _ c.turn.ensures.refused c.turn.ensures.adds c.turn.ensures.tally).1 ∙ ap (λ k. k.book) c.self.view_is
