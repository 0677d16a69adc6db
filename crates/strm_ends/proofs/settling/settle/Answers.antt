use Rattle.std.proofs.Common.{◌≡◌}
use Rattle.std.specs.Prelude.{Some}
use Rattle.strm_ends.specs.Settling.{Settles}
use Rattle.strm_ends.proofs.AtMembers.{at_member}
use Rattle.strm_ends.proofs.settling.settle.Goals as goal

pub returns : goal.returns
returns c =
    let before : c.args.handle.now.held.kept ≡ Some c.behind-member.inside.seat = cc (c.in-Some.ensures.taken, c.as_mut.ensures.value, c.behind-member.view_is) in
    let behind : c.put.new.self.held.kept ≡ Some c.settle-outcome.new.self = c.put.ensures in
    at_member (c.settle-outcome.new.told ≡ c.args.told.now) (Settles c.args.told.now c.settle-outcome.new.told) c.args.handle.now.held.kept
    c.put.new.self.held.kept c.behind-member.inside.seat c.settle-outcome.new.self c.settle-outcome.result c.number.result before behind c.number.ensures
    c.settle-outcome.ensures
