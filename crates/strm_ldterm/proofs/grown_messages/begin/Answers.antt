-- The message is one block.
use Rattle.strm_ldterm.proofs.Grows.{never-few, begins-one}
use Rattle.strm_ldterm.proofs.grown_messages.begin.Goals as goal

pub unreachable-requires : goal.unreachable-requires
unreachable-requires g c = never-few _ _ _ c.requires.few c.requires.room c.in_default.ensures

pub returns : goal.returns
returns g c = begins-one _ _ _ c.args.bytes.now c.requires.few c.in-Ok.ensures
