use Rattle.strm_image.proofs.BaseImages.{base_has_image}
use Rattle.strm_image.proofs.image_laws.bases_have_images.Goals as goal

pub returns : goal.returns
returns c = base_has_image
