-- The number in front is that of the messages.
use Rattle.strm_pair.proofs.Prelude.{◌∙◌, ap, min}
use Rattle.strm_pair.proofs.ListTexts.{counted_told}
use Rattle.strm_pair.proofs.images.texts.put_messages.Goals as goal

pub returns : goal.returns
returns g c =
    counted_told (g.B.Blocks.value c.args.store.now) c.args.queue.now.list c.min.result c.to_be_bytes.result c.args.out c.put.new.self c.put_each.result c.audit.ensures
    (c.min.ensures ∙ ap (λ n. min n 4294967295) c.sizes-count.ensures.messages) c.to_be_bytes.ensures c.put.ensures c.put_each.ensures
