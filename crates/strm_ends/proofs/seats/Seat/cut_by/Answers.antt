use Rattle.std.proofs.Common.{◌≡◌, List, subst}
use Rattle.std.specs.Prelude.{Some, slice_get}
use Rattle.strm_locks.specs.Systems.{Plan}
use Rattle.strm_ends.proofs.Cuts.{cut_given}
use Rattle.strm_ends.proofs.Places.{in_system}
use Rattle.strm_ends.proofs.seats.Seat.cut_by.Goals as goal

pub returns-in-Ok-given : goal.returns-in-Ok-given
returns-in-Ok-given g c =
    let host : List Plan = c.args.self.now.host in
    let e = c.args.end.now in
    let plan : Plan = c.at.result.now in
    let here : c.deref.result.now ≡ host = cc (c.deref.ensures) in
    let at : slice_get host c.args.system ≡ Some plan = subst (λ (h : List Plan). slice_get h c.args.system ≡ Some plan) here c.at.ensures in
    let own : slice_get plan.locks e.pair ≡ Some e.end.lock = in_system host c.args.system e.pair plan e.end.lock at c.requires.end.0 in
    cut_given c.args.self.now e c.put.new.handle.held.kept (slice_get plan.locks e.pair) c.in-Ok-try_cut.cut.visit c.in-Ok-try_cut.cut.trace
    c.in-Ok-given.made own c.in-Ok-try_cut.ensures.0 c.in-Ok-try_cut.ensures.1 c.in-Ok-given.is c.put.ensures
