use Rattle.strm_image.proofs.ShortRows.{few_short}
use Rattle.strm_image.proofs.image_laws.few_are_short.Goals as goal

pub returns : goal.returns
returns c = few_short
