use Rattle.std.proofs.Common.{◌≡◌, Bool, false, subst}
use Rattle.std.specs.Prelude.{Some}
use Rattle.strm_ends.specs.Members.{Seated}
use Rattle.strm_ends.specs.Sharing.{JoinsMember, joined_by}
use Rattle.strm_ends.proofs.JoinsAt.{apart}
use Rattle.strm_ends.proofs.sharing.join.Goals as goal

pub returns : goal.returns
returns c =
    let a : Seated = c.behind-first.inside.seat in
    let b : Seated = c.behind-second.inside.seat in
    let x : Seated = c.join-joined.new.self in
    let y : Seated = c.join-joined.new.other in
    let first : c.args.handle.now.held.kept ≡ Some a = cc (c.in-Some.ensures.taken, c.as_mut.ensures.value, c.behind-first.view_is) in
    let second : c.args.other.now.held.kept ≡ Some b = cc (c.in-Some-take.ensures.taken, c.as_mut-2.ensures.value, c.behind-second.view_is) in
    let made : JoinsMember (joined_by b.opener a.hold b.hold) a b false x y =
    subst (λ (joined : Bool). JoinsMember (joined_by b.opener a.hold b.hold) a b joined x y) c.if-joined.false c.join-joined.ensures in
    apart c.args.handle.now.held.kept c.args.other.now.held.kept c.put-2.new.self.held.kept c.put-3.new.self.held.kept c.refused-2.result a b x y
    first second made c.put-2.ensures c.put-3.ensures c.refused-2.ensures
