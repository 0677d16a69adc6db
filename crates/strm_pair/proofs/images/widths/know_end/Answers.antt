use Rattle.std.proofs.Common.{subst, map}
use Rattle.std.specs.List.{AllByRecursion}
use Rattle.strm_image.specs.HasImage.{HasModuleNumbers}
use Rattle.strm_pair.specs.AnyModules.{module_in}
use Rattle.strm_pair.proofs.images.widths.know_end.Goals as goal

pub returns : goal.returns
returns c = λ s. record {
  group = c.know_word.ensures;
  ioctl = c.know_slot.ensures;
  modules = subst (λ xs. AllByRecursion HasModuleNumbers (map (module_in s) xs)) c.as_slice.ensures.value (c.know_modules.ensures s);
}
