-- Nothing stands on its lists.
use Rattle.std.proofs.Common.{ap, arith, ◌∙◌, ◌+◌}
use Rattle.strm_blocks.specs.Blocks.{list_at}
use Rattle.strm_queue.proofs.Renewed.{fresh-queue}
use Rattle.strm_frame.specs.Hands.{once}
use Rattle.strm_frame.proofs.Pairs.{empty-ready, pair-shown}
use Rattle.strm_frame.proofs.queue_pair.QueuePair.new.Goals as goal

pub returns-clause-state : goal.returns-clause-state
returns-clause-state c = λ s read write.
    let e = c.new.ensures in
    let f = c.new-2.ensures in
    pair-shown _ _ _ _
    (fresh-queue s c.new.result 512 128 (ap (list_at s) e.list ∙ read) e.flows e.want_read e.no_enable)
    (fresh-queue s c.new-2.result 512 128 (ap (list_at s) f.list ∙ write) f.flows f.want_read f.no_enable)

pub returns-clause-ready : goal.returns-clause-ready
returns-clause-ready c = λ s read write. record {
  read = empty-ready s c.new.result c.args.read_list c.new.ensures.list c.new.ensures.counted read;
  write = empty-ready s c.new-2.result c.args.write_list c.new-2.ensures.list c.new-2.ensures.counted write;
  apart = omega (arith, c.requires.apart, c.new.ensures.list, c.new-2.ensures.list);
}

pub returns-clause-owns : goal.returns-clause-owns
returns-clause-owns c = λ k. ap (λ n. once n k + once c.new-2.result.list k) c.new.ensures.list ∙ ap (λ n. once c.args.read_list k + once n k) c.new-2.ensures.list
