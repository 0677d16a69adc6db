-- A signal that doesn't wait yet finds room, since each of the 31 waits at most once.
use Rattle.std.proofs.Common.{◌≡◌, false, cond, ◌∷◌, ◌++◌, [], lit<, subst, arith}
use Rattle.strm_types.specs.Signals.{AreSignals, has_signal}
use Rattle.strm_types.proofs.SignalRoom.{signals-fit, signal-within}
use Rattle.strm_head.proofs.signals.Signals.add.Goals as goal

pub push-requires : goal.push-requires
push-requires c = (lit< tt, omega (arith, signals-fit c.self.inside.numbers.items c.self.invariant))

pub invariant_of-self : goal.invariant_of-self
invariant_of-self c =
    let ns = c.self.inside.numbers.items in
    let absent : has_signal c.args.number ns ≡ false = cc in
    rw c.push.ensures.items
    (subst (λ b. AreSignals (cond b ns (ns ++ c.args.number ∷ []))) absent (signal-within c.args.number ns c.requires c.self.invariant))
