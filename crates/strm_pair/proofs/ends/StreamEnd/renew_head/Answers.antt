-- The list is emptied, and a head as new stands on it.
use Rattle.std.proofs.Common.{◌<◌, length, refl, ap, ◌∙◌, arith}
use Rattle.strm_blocks.specs.Blocks.{list_at}
use Rattle.strm_queue.proofs.Renewed.{cleared, renewed-keeps}
use Rattle.strm_pair.proofs.ends.StreamEnd.renew_head.Goals as goal

pub returns : goal.returns
returns g c =
    let s = g.B.Blocks.value c.args.store.now in
    let new = g.B.Blocks.value c.flushq.new.store in
    let q = c.args.self.now.head.queue in
    let within : q.list < length s.lists = let low = q.on_list in omega (arith, low, c.audit.ensures.eight) in
    let emptied = cleared s new q.list within c.flushq.ensures.flushed in
    record {
      head = c.renew.ensures.head new (ap (list_at new) c.flushq.ensures.list ∙ emptied.here);
      opened = refl;
      driver = refl;
      stack = refl;
      keeps = renewed-keeps s new q c.renew.new.self.queue emptied (c.renew.ensures.list ∙ c.flushq.ensures.list) c.renew.ensures.counted;
    }
