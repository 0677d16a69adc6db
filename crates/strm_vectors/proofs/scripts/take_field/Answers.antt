use Rattle.strm_vectors.proofs.SpelledRows.{nothing_spelled}
use Rattle.strm_vectors.proofs.scripts.take_field.Goals as goal

pub loop-byte-init : goal.loop-byte-init
loop-byte-init c = nothing_spelled c.args.script.now.items c.requires
