use Rattle.strm_image.proofs.FittedImages.{image_base, image_told}
use Rattle.strm_image.proofs.image_laws.images_are_bases.Goals as goal

pub returns : goal.returns
returns c = record { images = image_told; bases = λ v x fates fits counts. image_base x fates (image_told v x fits) counts }
