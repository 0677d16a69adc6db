use Rattle.strm_image.proofs.ReadRows.{same_images}
use Rattle.strm_image.proofs.laws.one_image.Goals as goal

pub returns : goal.returns
returns c = same_images
