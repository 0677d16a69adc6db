use Rattle.strm_image.proofs.Prelude.{[], ◌∷◌, arith, length-append}
use Rattle.strm_image.specs.Format.{at_end}
use Rattle.strm_image.specs.Image.{enabled_behind, next_enabled}
use Rattle.strm_image.proofs.Formats.{gather_more}
use Rattle.strm_image.proofs.enabled.pass_names.Goals as goal

pub loop-preserved : goal.loop-preserved
loop-preserved c = record {
  told = rw c.push.ensures.items (gather_more next_enabled enabled_behind at_end c.loop.found.items c.loop.found.items c.args.count c.loop.counter c.loop.rest.now (c.in_ok-name.name, c.in_ok-name.after.now) _ c.loop-test.true (rw c.as_slice.ensures.value at c.in_ok-name.ensures) c.loop.invariant.told);
  long = rw c.push.ensures.items (omega (arith, length-append c.loop.found.items (c.in_ok-name.name ∷ []), c.loop.invariant.long));
}
