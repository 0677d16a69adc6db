use Rattle.std.proofs.Common.{◌∙◌, ap}
use Rattle.strm_image.specs.declared.versions.Version.TheVariants.{First, Second}
use Rattle.strm_pair.specs.Restored.{restored}
use Rattle.strm_pair.proofs.ImagesBack.{same-image}
use Rattle.strm_pair.proofs.restore_laws.versions_restore_alike.Goals as goal

pub returns : goal.returns
returns c = λ limits first second x y z a b is there. ap (restored limits) (same-image first y x is (First, a) ∙ same-image second x z (Second, b) there)
