use Rattle.strm_image.proofs.Prelude.{[], ◌∷◌, arith, length-append, map_push}
use Rattle.strm_image.specs.Prelude.{module_name}
use Rattle.strm_image.specs.Format.{at_end}
use Rattle.strm_image.specs.Modules.{module_below, next_names}
use Rattle.strm_image.specs.ModuleTexts.{module_now, modules_now, names_now}
use Rattle.strm_image.proofs.Formats.{gather_more}
use Rattle.strm_image.proofs.modules.pass_modules.Goals as goal

pub loop-preserved : goal.loop-preserved
loop-preserved c = record {
  told = rw (c.push.ensures.items, map_push module_now c.loop.found.items c.in_ok-module.module, map_push (λ m. module_name (module_now m)) c.loop.found.items c.in_ok-module.module) (gather_more next_names (module_below c.args.version) at_end (modules_now c.loop.found.items) (names_now c.loop.found.items) c.args.count c.loop.counter c.loop.rest.now (module_now c.in_ok-module.module, c.in_ok-module.after.now) _ c.loop-test.true (rw c.as_slice.ensures.value at c.in_ok-module.ensures) c.loop.invariant.told);
  long = rw c.push.ensures.items (omega (arith, length-append c.loop.found.items (c.in_ok-module.module ∷ []), c.loop.invariant.long));
}
