use Rattle.std.proofs.Common.{◌≡◌}
use Rattle.std.specs.Prelude.{Some}
use Rattle.strm_handle.specs.Outcomes.{turn_refused, Turns}
use Rattle.strm_handle.proofs.AtHandles.{at-handle}
use Rattle.strm_handle.proofs.turning.turn.Goals as goal

-- src/turning.rt:13:1
pub returns : goal.returns
returns c =
    let before : c.args.handle.now.held.kept ≡ Some c.as_mut.result.now = cc (c.in-Some.ensures.taken, c.as_mut.ensures.value) in
    let behind : c.put.new.self.held.kept ≡ Some c.turn-told.new.self = (cc) in
    at-handle (turn_refused c.args.queue) (c.turn-told.new.told ≡ c.args.went.now) (Turns c.args.queue c.turn-told.new.told)
    c.args.handle.now.held.kept c.put.new.self.held.kept c.as_mut.result.now c.turn-told.new.self c.turn-told.result before behind c.turn-told.ensures
