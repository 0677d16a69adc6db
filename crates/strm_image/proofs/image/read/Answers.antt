use Rattle.std.proofs.Common.{arith}
use Rattle.strm_image.specs.ImageTexts.{image_now}
use Rattle.strm_image.proofs.ReadRows.{image_found, image_none}
use Rattle.strm_image.proofs.image.read.Goals as goal

pub returns-clause-found : goal.returns-clause-found
returns-clause-found c = image_found image_now c.image_at.result c.args.bytes.now (λ i. omega (arith, c.type_inv.bytes i)) c.image_at.ensures

pub returns-clause-none : goal.returns-clause-none
returns-clause-none c = image_none image_now c.image_at.result c.args.bytes.now c.image_at.ensures
