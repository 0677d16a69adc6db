use Rattle.strm_image.proofs.BlockRows.{message_few}
use Rattle.strm_image.proofs.image_laws.blocks_are_enough.Goals as goal

pub returns : goal.returns
returns c = message_few
