use Rattle.std.proofs.Common.{ℕ, ◌≡◌, ◌≤◌, List, length, take, sym, subst}
use Rattle.std.specs.Prelude.{Some}
use Rattle.strm_types.specs.declared.events.Event.TheVariants.{Write}
use Rattle.strm_handle.specs.Outcomes.{AnswersSide, CallsAt, Stay, no_bytes, side_refused}
use Rattle.strm_handle.proofs.AtHandles.{at-handle}
use Rattle.strm_handle.proofs.FewAsked.{front-few}
use Rattle.strm_handle.proofs.calling.write.Goals as goal

pub write-told-requires : goal.write-told-requires
write-told-requires c = record { few = subst (λ (b : List ℕ). length b ≤ 1024) (sym c.first_bytes-bytes.ensures) (front-few c.args.bytes.now) }

pub returns : goal.returns
returns c =
    let before : c.args.handle.now.held.kept ≡ Some c.as_mut.result.now = cc (c.in-Some.ensures.taken, c.as_mut.ensures.value) in
    let behind : c.put.new.self.held.kept ≡ Some c.write-told.new.self = (cc) in
    let stays = Stay no_bytes no_bytes c.args.reply.now c.write-told.new.reply in
    at-handle (side_refused c.args.side (Write (take 1024 c.args.bytes.now)) 0) stays (AnswersSide c.args.side (Write (take 1024 c.args.bytes.now)) c.write-told.new.reply no_bytes no_bytes)
    c.args.handle.now.held.kept c.put.new.self.held.kept c.as_mut.result.now c.write-told.new.self c.write-told.result before behind
    (subst (λ (b : List ℕ). CallsAt (side_refused c.args.side (Write b) 0) stays (AnswersSide c.args.side (Write b) c.write-told.new.reply no_bytes no_bytes) c.as_mut.result.now c.write-told.new.self c.write-told.result)
    c.first_bytes-bytes.ensures c.write-told.ensures)
