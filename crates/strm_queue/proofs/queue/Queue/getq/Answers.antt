-- The message that was taken is part of its band's count.
use Rattle.std.proofs.Common.{ap, subst, ◌∙◌, arith}
use Rattle.strm_blocks.specs.Blocks.{in_hand, list_at, placed, token}
use Rattle.strm_queue.specs.Kept.{AllBands}
use Rattle.strm_queue.proofs.Stored.{held-chain, take-counted, list-placed}
use Rattle.strm_queue.proofs.Marks.{set-removed}
use Rattle.strm_queue.proofs.queue.Queue.getq.Goals as goal

pub returns-clause-counted : goal.returns-clause-counted
returns-clause-counted g c =
    let s = g.B.Blocks.value c.args.store.now in
    let k = c.args.self.now.list in
    let p = c.in_ok-message.ensures in
    let i = token c.in_ok-message.message in
    let chain_is = ap (λ v. in_hand v i) p.after ∙ held-chain (placed s k p.rest) i p.message in
    let low = (subst AllBands p.joined c.requires.bands).0 in
    let list_is = ap (λ v. list_at v k) p.after ∙ list-placed s k p.rest (omega (arith, c.audit.ensures.eight, c.args.self.now.on_list)) in
    rw (c.remove.ensures, list_is, c.share_of-share.ensures.band, c.share_of-share.ensures.bytes, c.share_of-share.ensures.kind, chain_is)
    (take-counted s k c.args.self.now.flows p.message p.rest c.requires p.joined low)

pub returns-clause-flows : goal.returns-clause-flows
returns-clause-flows g c = rw c.remove.ensures (set-removed c.args.self.now.flows c.share_of-share.result.band.0 c.share_of-share.result.is_data c.share_of-share.result.bytes)
