use Rattle.std.proofs.Common.{sym, subst, map}
use Rattle.std.specs.List.{AllByRecursion}
use Rattle.strm_image.specs.HasImage.{HasModuleNumbers}
use Rattle.strm_pair.specs.AnyModules.{module_in}
use Rattle.strm_pair.proofs.images.widths.+know_modules.Goals as goal

pub returns-in-Some : goal.returns-in-Some
returns-in-Some t c = λ s. subst (λ xs. AllByRecursion HasModuleNumbers (map (module_in s) xs)) (sym c.in-Some.ensures.cases.0) (c.know_module.ensures s, c.know_modules.ensures s)
