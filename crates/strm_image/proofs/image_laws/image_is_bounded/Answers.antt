use Rattle.strm_image.proofs.TextLengths.{image_length, image_length_in}
use Rattle.strm_image.proofs.image_laws.image_is_bounded.Goals as goal

pub returns : goal.returns
returns c = record { messages = image_length; blocks = image_length_in }
