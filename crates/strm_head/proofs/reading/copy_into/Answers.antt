-- Each block gives what is still wanted of it.
use Rattle.std.proofs.Common.{◌≡◌, ◌<◌, ◌++◌, length, take, subst, ap, arith, length-append, length-take-le}
use Rattle.std.specs.Result.{OnOk}
use Rattle.strm_blocks.specs.Blocks.{in_hand, token}
use Rattle.strm_head.proofs.Copied.{copied-more, length-first}
use Rattle.strm_head.proofs.reading.copy_into.Goals as goal

pub loop-at-preserved : goal.loop-at-preserved
loop-at-preserved g c =
    let chain = in_hand (g.B.Blocks.value c.args.store.now) (token c.args.message.now) in
    let l = c.loop-at in
    let bytes = c.bytes_at-bytes.result.now in
    let part = c.min-part.result in
    let out' = c.try_extend_from_slice.new.self.items in
    let within : l.at < length chain = omega arith in
    let longer : out' ≡ l.out.items ++ take part bytes = subst (λ r. OnOk r (out' ≡ l.out.items ++ take part bytes)) c.unwrap.ensures c.try_extend_from_slice.ensures.ok in
    let whole = length-first chain l.at bytes within c.bytes_at-bytes.ensures.bytes in
    let more = length-append l.out.items (take part bytes) in
    let first = length-take-le part bytes (omega (arith, c.min-part.ensures)) in
    record {
      joined = copied-more chain l.at l.left part bytes l.out.items out' _ within c.bytes_at-bytes.ensures.bytes c.min-part.ensures longer l.invariant.joined;
      room = omega (arith, l.invariant.room, ap length longer, more, first, c.min-part.ensures);
      has = omega (arith, l.invariant.has, whole, c.min-part.ensures);
    }
