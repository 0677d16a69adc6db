use Rattle.std.proofs.Common.{arith, length, ap, ◌∙◌}
use Rattle.std.proofs.lemmas.Result.{err_from_is_err_and}
use Rattle.strm_types.specs.Write.{chunk_count}
use Rattle.strm_msg.proofs.Making.{fails-at-once, made-in_hand}
use Rattle.strm_msg.proofs.Pieces.{chunk-within, chunk-some, piece-next, piece-first, pieces-fail, pieces-all}
use Rattle.strm_blocks.specs.Blocks.{times_in, token}
use Rattle.strm_msg.proofs.InHand.{came-first, came-second, came-apart}
use Rattle.strm_msg.proofs.bytes.from_bytes.Goals as goal

pub returns-in_err-message : goal.returns-in_err-message
returns-in_err-message g c = let p = err_from_is_err_and c.from_residual.result c.from_residual.ensures.1 in rw p.1 (fails-at-once (chunk_count (length c.args.bytes.now)) (chunk-some (length c.args.bytes.now)) c.in_err-message.ensures)

pub loop-at-init : goal.loop-at-init
loop-at-init g c = piece-first c.args.kind c.args.band.0 c.args.bytes.now c.chunk_at.result.now c.chunk_at.ensures.chunk c.in_ok-message.ensures

pub chunk_at-requires-in-loop-at : goal.chunk_at-requires-in-loop-at
chunk_at-requires-in-loop-at g c =
    let within = chunk-within c.loop-at.at (length c.args.bytes.now) c.loop-at.auto.at (let n = c.chunk_count-count.ensures in omega arith) in
    omega arith

pub returns-in-Err : goal.returns-in-Err
returns-in-Err g c =
    pieces-fail c.args.kind c.args.band.0 c.args.bytes.now c.loop-at.at (chunk_count (length c.args.bytes.now)) (let n = c.chunk_count-count.ensures in omega arith) c.loop-at.invariant c.in-Err.ensures c.free.ensures

pub loop-at-preserved : goal.loop-at-preserved
loop-at-preserved g c =
    piece-next c.args.kind c.args.band.0 c.args.bytes.now c.chunk_at-in-loop-at.result.now c.loop-at.at c.loop-at.invariant c.chunk_at-in-loop-at.ensures.chunk c.in-Ok.ensures c.link-message.ensures.kept_name c.link-message.ensures.linked

pub returns : goal.returns
returns g c =
    let some = chunk-some (length c.args.bytes.now) in
    let count = c.chunk_count-count.ensures in
    pieces-all c.args.kind c.args.band.0 c.args.bytes.now c.loop-at.at (omega arith) c.loop-at.invariant

pub link-message-requires-clause-first_in_hand : goal.link-message-requires-clause-first_in_hand
link-message-requires-clause-first_in_hand g c = came-first (token c.loop-at.message) (made-in_hand c.loop-at.invariant) c.in-Ok.ensures.fresh_name c.in-Ok.ensures.after

pub link-message-requires-clause-second_in_hand : goal.link-message-requires-clause-second_in_hand
link-message-requires-clause-second_in_hand g c = came-second (token c.loop-at.message) (made-in_hand c.loop-at.invariant) c.in-Ok.ensures.fresh_name c.in-Ok.ensures.after

pub link-message-requires-clause-apart : goal.link-message-requires-clause-apart
link-message-requires-clause-apart g c = came-apart (token c.loop-at.message) (made-in_hand c.loop-at.invariant) c.in-Ok.ensures.fresh_name c.in-Ok.ensures.after

pub free-requires : goal.free-requires
free-requires g c = ap (λ t. times_in (token c.loop-at.message) t.hand) c.in-Err.ensures.same ∙ made-in_hand c.loop-at.invariant
