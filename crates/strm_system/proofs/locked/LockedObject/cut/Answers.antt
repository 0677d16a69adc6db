use Rattle.std.proofs.Common.{◌≡◌}
use Rattle.std.specs.Prelude.{Result, Ok, Err, IfOk, IfErr}
use Rattle.strm_types.specs.declared.refusals.NoMemory.{NoMemory}
use Rattle.strm_laws.specs.Pair.{PairState, restarted}
use Rattle.strm_image.specs.declared.trace.Trace.{Trace}
use Rattle.strm_image.specs.Traces.{IsTrace}
use Rattle.strm_locks.specs.Turns.{Cuts}
use Rattle.strm_system.proofs.locked.LockedObject.cut.Goals as goal

-- what a pair tells of its cut, answered and refused
cuts : (p q : PairState) (r : Result Trace NoMemory) → IfOk r (λ t. IsTrace p t) → IfOk r (λ _. q ≡ restarted p) → IfErr r (λ _. q ≡ p) → Cuts p r q
cuts p q (Ok t) trace anew stays = (trace, anew)
cuts p q (Err e) trace anew stays = stays

pub returns : goal.returns
returns g c = cuts c.args.self.now.pair c.cut.new.self c.cut.result c.cut.ensures.trace c.cut.ensures.restarted c.cut.ensures.stays
