use Rattle.std.proofs.Common.{◌<◌, ◌≤◌, ◌+◌, ◌*◌}
use Rattle.strm_queue.proofs.Next.{NoneWithin}
use Rattle.strm_queue.proofs.bandset.BandSet.next.Given as goal

abbrev pub invariant-loop-word : goal.invariant-loop-word
invariant-loop-word l = record {
  low : l.low < 64;
  from_on : l.initial.from ≤ l.word * 64 + l.low;
  none : NoneWithin l.self l.initial.from (l.word * 64 + l.low);
}
