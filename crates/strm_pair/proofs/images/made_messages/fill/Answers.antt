-- Each message is there, and is put behind those before it.
use Rattle.std.proofs.Common.{◌-◌, ◌+◌, arith}
use Rattle.strm_image.specs.Texts.{message_now}
use Rattle.strm_pair.proofs.Refilled.{filled-queue, filled-spent, filling-next, filling-none, never-none, next-last, next-room}
use Rattle.strm_pair.proofs.images.made_messages.fill.Goals as goal

pub loop-init : goal.loop-init
loop-init g c = record { filling = filling-none c.args.messages.now (g.B.Blocks.value c.args.store.now) c.args.queue.now (c.args.messages.now.count - 0) (omega arith) c.requires.ready c.requires.empty }

pub unreachable-requires : goal.unreachable-requires
unreachable-requires g c = never-none c.loop.invariant.filling (c.args.messages.now.count - (c.loop.counter + 1)) (omega (arith, c.loop-test.true)) c.in_default.ensures.read

pub stand-requires-clause-ready : goal.stand-requires-clause-ready
stand-requires-clause-ready g c = c.loop.invariant.filling.changes.ready

pub stand-requires-clause-last : goal.stand-requires-clause-last
stand-requires-clause-last g c = next-last c.loop.invariant.filling (c.args.messages.now.count - (c.loop.counter + 1)) (omega (arith, c.loop-test.true)) (message_now c.in-Some.message) c.in-Some.after.now c.in-Some.ensures.read

pub stand-requires-clause-room : goal.stand-requires-clause-room
stand-requires-clause-room g c = next-room c.loop.invariant.filling (c.args.messages.now.count - (c.loop.counter + 1)) (omega (arith, c.loop-test.true)) (message_now c.in-Some.message) c.in-Some.after.now c.in-Some.ensures.read c.requires.room

pub loop-preserved : goal.loop-preserved
loop-preserved g c = record {
  filling = filling-next c.loop.invariant.filling (c.args.messages.now.count - (c.loop.counter + 1)) (omega (arith, c.loop-test.true)) (message_now c.in-Some.message) c.in-Some.after.now c.in-Some.ensures.read
      (g.B.Blocks.value c.stand.new.store) c.stand.new.queue c.rank-rank.result c.rank-rank.ensures c.stand.ensures.queue c.stand.ensures.changes c.stand.ensures.spent;
}

pub returns-clause-queue : goal.returns-clause-queue
returns-clause-queue g c = filled-queue c.loop.invariant.filling (omega (arith, c.loop-test.false))

pub returns-clause-changes : goal.returns-clause-changes
returns-clause-changes g c = c.loop.invariant.filling.changes

pub returns-clause-spent : goal.returns-clause-spent
returns-clause-spent g c = filled-spent c.loop.invariant.filling (omega (arith, c.loop-test.false))
