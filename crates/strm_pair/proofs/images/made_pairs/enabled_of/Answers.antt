-- None is enabled already, and there is room for all.
use Rattle.strm_pair.proofs.Prelude.{length, length-take, ap, arith}
use Rattle.strm_pair.proofs.OnceMore.{name-next}
use Rattle.strm_pair.proofs.images.made_pairs.enabled_of.Goals as goal

pub loop-name-preserved : goal.loop-name-preserved
loop-name-preserved c = record { so_far = name-next c.args.names.now c.loop-name.name-index _ c.loop-name.enabled _ c.requires.once c.requires.queues c.loop-name-test.true c.loop-name.invariant.so_far c.enable.ensures }

pub enable-requires : goal.enable-requires
enable-requires c = record {
  room = λ has absent. omega (
    arith,
    ap length c.loop-name.invariant.so_far,
    length-take c.loop-name.name-index c.args.names.now,
    c.loop-name-test.true,
    c.requires.few,
  );
}
