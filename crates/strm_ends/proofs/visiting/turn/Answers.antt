use Rattle.std.proofs.Common.{◌≡◌}
use Rattle.std.specs.Prelude.{Some}
use Rattle.strm_ends.specs.Visiting.{TurnsFirst}
use Rattle.strm_ends.proofs.AtMembers.{at_member}
use Rattle.strm_ends.proofs.visiting.turn.Goals as goal

pub returns : goal.returns
returns c =
    let before : c.args.handle.now.held.kept ≡ Some c.behind-member.inside.seat = cc (c.in-Some.ensures.taken, c.as_ref.ensures, c.behind-member.view_is) in
    let behind : c.put.new.self.held.kept ≡ Some c.behind-member.inside.seat = cc (c.put.ensures, c.as_ref.ensures, c.behind-member.view_is) in
    at_member (c.turn-outcome.new.told ≡ c.args.told.now) (TurnsFirst c.args.pair c.args.told.now c.turn-outcome.new.told) c.args.handle.now.held.kept
    c.put.new.self.held.kept c.behind-member.inside.seat c.behind-member.inside.seat c.turn-outcome.result c.number.result before behind c.number.ensures
    c.turn-outcome.ensures
