-- None waits already.
use Rattle.strm_pair.proofs.OnceMore.{signal-next}
use Rattle.strm_pair.proofs.images.heads.signals_of.Goals as goal

pub loop-number-preserved : goal.loop-number-preserved
loop-number-preserved c = record { so_far = signal-next c.args.numbers.now c.loop-number.number-index c.loop-number.signals _ c.requires c.loop-number-test.true c.loop-number.invariant.so_far c.post.ensures }
