use Rattle.strm_image.proofs.Prelude.{◌≡◌, [], Some, arith, refl, le-leb}
use Rattle.strm_image.specs.Prelude.{MODULES}
use Rattle.strm_image.specs.Format.{byte, only}
use Rattle.strm_image.specs.Modules.{are_few, module_below, modules, next_names}
use Rattle.strm_image.specs.ModuleTexts.{modules_now}
use Rattle.strm_image.proofs.Formats.{counted_reads}
use Rattle.strm_image.proofs.modules.modules_at.Goals as goal

pub returns : goal.returns
unfolding modules
returns c =
    let few : (only are_few byte).read c.args.text.now ≡ Some (c.in_ok-count.count, c.in_ok-count.rest.now) = rw (c.in_ok-count.ensures, le-leb c.in_ok-count.count MODULES (omega (arith, c.if-from-gt-MODULES.false, c.from.ensures))) refl in
    counted_reads (λ x. (modules_now x.0.items, x.1.now)) c.pass_modules.result (only are_few byte) next_names (module_below c.args.version) [] c.in_ok-count.count c.args.text.now c.in_ok-count.rest.now few c.pass_modules.ensures
