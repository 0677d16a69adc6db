use Rattle.strm_image.proofs.LaterRows.{image_later}
use Rattle.strm_image.proofs.laws.versions_agree.Goals as goal

pub returns : goal.returns
returns c = image_later
