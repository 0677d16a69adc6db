-- One band has another flow control.
use Rattle.std.proofs.Common.{suc, ◌<◌, ◌-◌, ◌∷◌, arith}
use Rattle.strm_types.specs.declared.limits.TheConstants.{BANDS}
use Rattle.strm_queue.proofs.Parts.{set-flows}
use Rattle.strm_queue.proofs.flows.Flows.set.Goals as goal

pub invariant_of-self-else-band-eq0 : goal.invariant_of-self-else-band-eq0
invariant_of-self-else-band-eq0 c =
    let lt : suc (c.args.band - 1) < BANDS = omega (arith, c.requires.band, c.if-band-eq0.false) in
    rw c.set.ensures (set-flows (c.self.inside.first ∷ c.self.inside.others) (suc (c.args.band - 1)) c.args.flow lt c.requires.few c.requires.marked c.self.invariant)
