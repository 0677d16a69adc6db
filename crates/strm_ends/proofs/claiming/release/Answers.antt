use Rattle.std.proofs.Common.{◌≡◌}
use Rattle.std.specs.Prelude.{Some}
use Rattle.strm_ends.specs.Claiming.{ReleasesMinor}
use Rattle.strm_ends.proofs.AtMembers.{at_member}
use Rattle.strm_ends.proofs.claiming.release.Goals as goal

pub returns : goal.returns
returns c =
    let before : c.args.handle.now.held.kept ≡ Some c.behind-member.inside.seat = cc (c.in-Some.ensures.taken, c.as_mut.ensures.value, c.behind-member.view_is) in
    let behind : c.put.new.self.held.kept ≡ Some c.release-outcome.new.self = c.put.ensures in
    at_member (Unit {0}) (ReleasesMinor) c.args.handle.now.held.kept c.put.new.self.held.kept c.behind-member.inside.seat c.release-outcome.new.self
    c.release-outcome.result c.number.result before behind c.number.ensures c.release-outcome.ensures
