-- The message's bytes are counted in the band that it counts in.
use Rattle.std.proofs.Common.{◌<◌, arith, subst}
use Rattle.strm_types.specs.declared.limits.TheConstants.{BANDS}
use Rattle.strm_blocks.specs.Blocks.{in_hand, token}
use Rattle.strm_queue.specs.Kept.{band_of}
use Rattle.strm_queue.proofs.Stored.{count-fits, put_back-counted}
use Rattle.strm_queue.proofs.Marks.{set-added}
use Rattle.strm_queue.proofs.queue.Queue.putbq.Goals as goal

pub add-requires : goal.add-requires
add-requires g c =
    let s = g.B.Blocks.value c.args.store.now in
    let i = token c.args.message in
    rw (c.share_of-share.ensures.band, c.share_of-share.ensures.bytes) (omega (arith, count-fits s c.args.self.now.list i (band_of (in_hand s i)) c.args.self.now.flows c.audit.ensures c.requires.counted (subst (λ n. n < BANDS) c.share_of-share.ensures.band c.share_of-share.ensures.low)))

pub returns-clause-counted : goal.returns-clause-counted
returns-clause-counted g c =
    let s = g.B.Blocks.value c.args.store.now in
    let i = token c.args.message in
    rw (c.add.ensures, c.insert_front.ensures, c.share_of-share.ensures.band, c.share_of-share.ensures.bytes, c.share_of-share.ensures.kind)
    (put_back-counted s c.args.self.now.list i c.args.self.now.flows c.audit.ensures c.args.self.now.on_list c.requires.counted (subst (λ n. n < BANDS) c.share_of-share.ensures.band c.share_of-share.ensures.low))

pub returns-clause-flows : goal.returns-clause-flows
returns-clause-flows g c = rw c.add.ensures (set-added c.args.self.now.flows c.share_of-share.result.band.0 c.share_of-share.result.is_data c.share_of-share.result.bytes)

pub returns-clause-placed : goal.returns-clause-placed
returns-clause-placed g c = cc
