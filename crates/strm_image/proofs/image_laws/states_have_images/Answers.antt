use Rattle.strm_image.specs.HasImage.{new_imaged}
use Rattle.strm_image.proofs.FitImages.{image_fits, new_has_image}
use Rattle.strm_image.proofs.image_laws.states_have_images.Goals as goal

pub returns : goal.returns
returns c = record { each = image_fits; new = image_fits new_imaged new_has_image }
