-- Four pieces are its text.
use Rattle.strm_pair.proofs.Prelude.{sym, ap, ◌∙◌}
use Rattle.strm_pair.specs.Prelude.{head_in, Second, laid_on, queue, put, queue_in}
use Rattle.strm_image.specs.declared.versions.QueueKind.TheVariants as queues
use Rattle.strm_image.specs.Modules.{modules}
use Rattle.strm_image.specs.Written.{head_text}
use Rattle.strm_image.proofs.WrittenRows.{laid_told}
use Rattle.strm_pair.specs.Stacks.{modules_in}
use Rattle.strm_pair.specs.Streams.{stream_in}
use Rattle.strm_pair.proofs.PairTexts.{put_four}
use Rattle.strm_pair.proofs.images.streams.put_stream.Goals as goal

pub returns : goal.returns
returns g c is_slave =
    let s = g.B.Blocks.value c.args.store.now in
    let e = c.args.end.now in
    let above = head_text is_slave (head_in s e.head) in
    let all = (modules Second).text (modules_in s e.stack) in
    let reads = (queue Second queues.Head).text (queue_in s e.head.queue) in
    let writes = (queue Second queues.Driver).text (queue_in s e.driver) in
    c.put_queue.ensures
    ∙ ap (put writes) (c.put_queue-out.ensures ∙ ap (put reads) (c.put_modules-out.ensures ∙ ap (put all) (c.put_head.ensures s is_slave)))
    ∙ put_four above all reads writes c.args.out
    ∙ ap (λ xs. put xs c.args.out) (sym (laid_told is_slave (laid_on (stream_in s e))))
