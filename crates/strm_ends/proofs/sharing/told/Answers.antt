use Rattle.std.proofs.Common.{◌≡◌}
use Rattle.std.specs.Prelude.{Some}
use Rattle.strm_ends.specs.Sharing.{ShowsEnd}
use Rattle.strm_ends.proofs.AtMembers.{at_member}
use Rattle.strm_ends.proofs.sharing.told.Goals as goal

pub returns : goal.returns
returns c =
    let before : c.args.handle.now.held.kept ≡ Some c.behind-member.inside.seat = cc (c.in-Some.ensures.taken, c.as_ref.ensures, c.behind-member.view_is) in
    let behind : c.put.new.self.held.kept ≡ Some c.behind-member.inside.seat = cc (c.put.ensures, c.as_ref.ensures, c.behind-member.view_is) in
    at_member (c.told-outcome.new.share ≡ c.args.share.now) (ShowsEnd c.args.share.now c.told-outcome.new.share) c.args.handle.now.held.kept
    c.put.new.self.held.kept c.behind-member.inside.seat c.behind-member.inside.seat c.told-outcome.result c.number.result before behind c.number.ensures
    c.told-outcome.ensures
