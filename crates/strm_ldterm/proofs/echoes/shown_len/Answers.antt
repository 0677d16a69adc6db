use Rattle.std.proofs.Common.{arith}
use Rattle.strm_ldterm.proofs.EchoBytes.{shown_len-step}
use Rattle.strm_ldterm.proofs.echoes.shown_len.Goals as goal

pub loop-byte-preserved : goal.loop-byte-preserved
loop-byte-preserved c = record {
  few = omega arith;
  same = shown_len-step c.args.controls c.args.line.now c.loop-byte.byte-index c.loop-byte.len c.shown_size-len.result _ (omega arith) c.shown_size-len.ensures.value c.loop-byte.invariant.same;
}
