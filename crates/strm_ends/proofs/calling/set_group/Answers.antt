use Rattle.std.proofs.Common.{◌≡◌}
use Rattle.std.specs.Prelude.{Some}
use Rattle.strm_ends.specs.Sharing.{Groups}
use Rattle.strm_ends.proofs.AtMembers.{at_member}
use Rattle.strm_ends.proofs.calling.set_group.Goals as goal

pub returns : goal.returns
returns c =
    let before : c.args.handle.now.held.kept ≡ Some c.behind-member.inside.seat = cc (c.in-Some.ensures.taken, c.as_mut.ensures.value, c.behind-member.view_is) in
    let behind : c.put.new.self.held.kept ≡ Some c.set_group-outcome.new.self = c.put.ensures in
    at_member (Unit {0}) (Groups c.args.group c.args.ignores c.args.orphaned) c.args.handle.now.held.kept c.put.new.self.held.kept c.behind-member.inside.seat
    c.set_group-outcome.new.self c.set_group-outcome.result c.number.result before behind c.number.ensures c.set_group-outcome.ensures
