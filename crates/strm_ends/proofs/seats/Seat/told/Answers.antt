use Rattle.std.proofs.Common.{◌≡◌, ◌<◌, List, length, subst, arith}
use Rattle.std.specs.Prelude.{Some, slice_get}
use Rattle.std.specs.Arc.{arc_value}
use Rattle.strm_locks.specs.Systems.{Plan}
use Rattle.strm_ends.specs.Members.{HasEnd, HasInHand, InHand}
use Rattle.strm_ends.proofs.Places.{get_within, in_system}
use Rattle.strm_ends.proofs.seats.Seat.told.Goals as goal

-- the end is of a pair of its system, which has 64 at most
pub prove-unreachable-requires : goal.prove-unreachable-requires
prove-unreachable-requires g c =
    let host : List Plan = arc_value c.self.inside.host in
    let e = c.in-End.end in
    let plan : Plan = c.at.result.now in
    let hand : HasEnd host c.self.inside.opener c.in-End.system e =
    subst (λ (h : InHand). HasInHand host c.self.inside.opener h) c.in-End.is c.self.invariant.hand in
    let here : c.deref.result.now ≡ host = cc (c.deref.ensures) in
    let at : slice_get host c.in-End.system ≡ Some plan = subst (λ (h : List Plan). slice_get h c.in-End.system ≡ Some plan) here c.at.ensures in
    let within : e.pair < length plan.locks =
    get_within plan.locks e.pair e.end.lock (in_system host c.in-End.system e.pair plan e.end.lock at hand.0) in
    omega (arith, within)
