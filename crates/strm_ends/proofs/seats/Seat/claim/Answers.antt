use Rattle.std.proofs.Common.{◌≡◌, ◌+◌, ◌*◌, List, length, refl, sym, subst}
use Rattle.std.specs.Prelude.{Some}
use Rattle.std.specs.Arc.{arc_value}
use Rattle.strm_system.specs.Hosts.{Claims, Passes}
use Rattle.strm_locks.specs.Systems.{Plan}
use Rattle.strm_ends.specs.Claiming.{ClaimsMinor}
use Rattle.strm_ends.specs.Members.{seated}
use Rattle.strm_ends.specs.Outcomes.{Outcome}
use Rattle.strm_ends.proofs.Firsts.{claimed_by, passed_by}
use Rattle.strm_ends.proofs.seats.Seat.claim.Goals as goal

pub returns-in-Ok : goal.returns-in-Ok
returns-in-Ok g c =
    let host = arc_value c.self.inside.host in
    let here : c.deref.result.now ≡ host = cc (c.deref.ensures) in
    let claims : Claims host c.in-Some.opener c.in-Ok.minor.system c.in-Ok.minor.minor c.claim.new.opener =
    subst (λ (h : List Plan). Claims h c.in-Some.opener c.in-Ok.minor.system c.in-Ok.minor.minor c.claim.new.opener) here c.in-Ok.ensures.claimed in
    let number : c.pair_number.result ≡ c.in-Ok.minor.system * 64 + c.in-Ok.minor.minor = cc (c.pair_number.ensures, c.number.ensures.value) in
    claimed_by host c.self.inside.opener c.self.inside.hold c.in-Some.opener c.claim.new.opener c.args.self.now c.self.view_is c.in-Some.is
    c.in-Nothing.is c.args.pair.now c.pair_number.result
    c.in-Ok.minor claims number

pub returns-in-Err : goal.returns-in-Err
returns-in-Err g c =
    let host = arc_value c.self.inside.host in
    let here : c.deref.result.now ≡ host = cc (c.deref.ensures) in
    let passes : Passes host c.in-Some.opener (length host) c.claim.new.opener =
    subst (λ (h : List Plan). Passes h c.in-Some.opener (length h) c.claim.new.opener) here c.in-Err.ensures.claimed in
    subst (λ (r : Outcome). ClaimsMinor c.args.pair.now c.args.pair.now c.args.self.now r (seated host (Some c.claim.new.opener) c.self.inside.hold))
    (sym c.not_done-in-Err.ensures)
    (passed_by host c.self.inside.opener c.self.inside.hold c.in-Some.opener c.claim.new.opener c.args.self.now c.self.view_is c.in-Some.is
    c.in-Nothing.is c.args.pair.now c.args.pair.now refl passes)
