-- A message has 16 MiB at most.
use Rattle.std.proofs.Common.{ap, arith}
use Rattle.strm_blocks.specs.Blocks.{token}
use Rattle.strm_blocks.specs.declared.asked.Summary.{Summary}
use Rattle.strm_queue.proofs.Bounds.{few-bytes}
use Rattle.strm_queue.proofs.share.share_of.Goals as goal

pub overflow_cast-result : goal.overflow_cast-result
overflow_cast-result g c =
    let few = few-bytes (g.B.Blocks.value c.args.store.now) c.audit.ensures 0 (token c.args.message.now) in
    let bytes = ap (λ (s : Summary). s.bytes) c.summary-summary.ensures in
    omega (arith, few, bytes)
