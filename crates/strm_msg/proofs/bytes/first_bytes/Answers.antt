use Rattle.strm_blocks.specs.Blocks.{in_hand, token}
use Rattle.std.proofs.Common.{arith}
use Rattle.strm_msg.proofs.Gathering.{gathered-none, gathered-more, gathered-full, full-count}
use Rattle.strm_msg.proofs.bytes.first_bytes.Goals as goal

pub loop-at-init : goal.loop-at-init
loop-at-init g c = gathered-none (in_hand (g.B.Blocks.value c.args.store.now) (token c.args.message.now)) c.args.buffer.now

pub returns-then-done-buffer-clause-given : goal.returns-then-done-buffer-clause-given
returns-then-done-buffer-clause-given g c = gathered-full c.loop-at.invariant c.if-done-buffer.true

pub returns-then-done-buffer-clause-count : goal.returns-then-done-buffer-clause-count
returns-then-done-buffer-clause-count g c = full-count c.loop-at.invariant c.if-done-buffer.true

pub loop-at-preserved : goal.loop-at-preserved
loop-at-preserved g c = gathered-more c.loop-at.invariant (omega arith) c.bytes_at.ensures.bytes c.copy_into-done.ensures.count c.copy_into-done.ensures.copied
