-- The message is one block.
use Rattle.strm_ldterm.proofs.Sends.{never-few, made-bare}
use Rattle.strm_ldterm.proofs.sending_keys.make.Goals as goal

pub unreachable-requires : goal.unreachable-requires
unreachable-requires g c = never-few _ _ _ c.requires.few c.requires.room c.in_default.ensures

pub returns : goal.returns
returns g c = made-bare _ _ _ c.args.kind c.args.bytes.now c.requires.kind c.requires.few c.in-Ok.ensures
