use Rattle.std.proofs.Common.{rules, ◌≡◌, refl, ap}
use Rattle.std.specs.Prelude.{Err, IsOk}
use Rattle.strm_laws.specs.Pair.{queue_refused}
use Rattle.strm_locks.specs.Books.{Kept}
use Rattle.strm_locks.proofs.Booking.{refused-map}
use Rattle.strm_locks.proofs.held.Held.turn_first.Goals as goal

pub returns-clause-made : goal.returns-clause-made
returns-clause-made g c = let p = c.args.self.now in let q = c.turn-answer.new.self in let asked = queue_refused p.pair c.in_ok-queue.queue in record {
  first = search rules;
  refused = refused-map (IsOk c.turn-answer.result) (q ≡ p) (q.pair ≡ p.pair) (λ r. c.turn-answer.result ≡ Err r) asked asked refl (ap (λ (k : Kept). k.pair)) c.turn-answer.ensures.refused;
  adds = c.turn-answer.ensures.adds;
  stops = c.turn-answer.ensures.stops;
}
