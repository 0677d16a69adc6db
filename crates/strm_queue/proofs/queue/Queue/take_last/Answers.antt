-- The message that was taken is part of its band's count.
use Rattle.std.proofs.Common.{◌<◌, length, arith}
use Rattle.strm_blocks.specs.Blocks.{token}
use Rattle.strm_queue.proofs.Lasting.{last-chain, last-counted, last-list}
use Rattle.strm_queue.proofs.Marks.{set-removed}
use Rattle.strm_queue.proofs.queue.Queue.take_last.Goals as goal

pub returns-clause-counted : goal.returns-clause-counted
returns-clause-counted g c =
    let s = g.B.Blocks.value c.args.store.now in
    let q = c.args.self.now in
    let p = c.in_ok-message.ensures in
    let i = token c.in_ok-message.message in
    let within : q.list < length s.lists = (let low = q.on_list in omega (arith, low, c.audit.ensures.eight)) in
    rw (c.remove.ensures, last-list s _ q q i within p, c.share_of-share.ensures.band, c.share_of-share.ensures.bytes, c.share_of-share.ensures.kind, last-chain s _ q q i within p)
    (last-counted s q.list q.flows p.message p.rest c.requires p.joined)

pub returns-clause-flows : goal.returns-clause-flows
returns-clause-flows g c = rw c.remove.ensures (set-removed c.args.self.now.flows c.share_of-share.result.band.0 c.share_of-share.result.is_data c.share_of-share.result.bytes)
