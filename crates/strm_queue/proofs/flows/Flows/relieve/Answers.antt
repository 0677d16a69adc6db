-- Where no writer waits no band has one to let go.
use Rattle.std.proofs.Common.{ℕ, ◌≡◌, ◌<◌, false, subst, arith}
use Rattle.std.specs.Bool.{OnFalse}
use Rattle.strm_types.specs.declared.limits.TheConstants.{BANDS}
use Rattle.strm_queue.specs.Kept.{flow_at}
use Rattle.strm_queue.proofs.Flushed.{none-relieved, none-waits}
use Rattle.strm_queue.proofs.flows.Flows.relieve.Goals as goal

pub returns-then-not-has_waiting-clause-went : goal.returns-then-not-has_waiting-clause-went
returns-then-not-has_waiting-clause-went c =
    let flows = c.args.self.now in
    let none = subst (λ b. OnFalse b ((band : ℕ) → band < BANDS → (flow_at band flows).want_write ≡ false)) c.if-not-has_waiting.true c.has_waiting.ensures.none in
    none-relieved flows (λ k lt. none k (omega (arith, lt, c.has_waiting.ensures.eight)))

pub returns-then-not-has_waiting-clause-each : goal.returns-then-not-has_waiting-clause-each
returns-then-not-has_waiting-clause-each c = λ band lt.
    let flows = c.args.self.now in
    let none = subst (λ b. OnFalse b ((k : ℕ) → k < BANDS → (flow_at k flows).want_write ≡ false)) c.if-not-has_waiting.true c.has_waiting.ensures.none in
    none-waits (flow_at band flows) (none band lt)
