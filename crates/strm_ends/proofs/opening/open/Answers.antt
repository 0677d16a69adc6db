use Rattle.std.proofs.Common.{◌≡◌}
use Rattle.std.specs.Prelude.{Some}
use Rattle.strm_ends.specs.Opening.{Opens}
use Rattle.strm_ends.proofs.AtMembers.{at_member}
use Rattle.strm_ends.proofs.opening.open.Goals as goal

pub returns : goal.returns
returns c =
    let before : c.args.handle.now.held.kept ≡ Some c.behind-member.inside.seat = cc (c.in-Some.ensures.taken, c.as_mut.ensures.value, c.behind-member.view_is) in
    let behind : c.put.new.self.held.kept ≡ Some c.open-outcome.new.self = c.put.ensures in
    at_member (Unit {0}) (Opens) c.args.handle.now.held.kept c.put.new.self.held.kept c.behind-member.inside.seat c.open-outcome.new.self
    c.open-outcome.result c.number.result before behind c.number.ensures c.open-outcome.ensures
