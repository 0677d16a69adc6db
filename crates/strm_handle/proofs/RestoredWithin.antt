-- The heads of an image's state keep little.
use Rattle.std.proofs.Common.{ℕ, List, refl}
use Rattle.strm_types.specs.declared.limits.Config.{Config}
use Rattle.strm_laws.proofs.NoOwn.{none as no_own}
use Rattle.strm_laws.specs.Within.{AreWithin}
use Rattle.strm_image.specs.Image.{Imaged}
use Rattle.strm_image.proofs.FittedImages.{image_base, image_told}
use Rattle.strm_pair.specs.Restored.{IsImageFor, fates_in, restored}

pub restored-within : (text : List ℕ) (limits : Config) (x : Imaged) → IsImageFor no_own text x → AreWithin (restored limits x).state
restored-within text limits x is = (image_base x (fates_in x) (image_told is.image.0 x is.image.1.0) refl).restorable.heads
