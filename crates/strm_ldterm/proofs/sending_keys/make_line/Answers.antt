-- What ends the line is written behind it.
use Rattle.strm_ldterm.proofs.Sends.{never-none, made-line}
use Rattle.strm_ldterm.proofs.sending_keys.make_line.Goals as goal

pub unreachable-requires : goal.unreachable-requires
unreachable-requires g c = never-none _ _ c.requires.room c.in_default.ensures

pub returns : goal.returns
returns g c = made-line _ _ _ _ _ c.args.line.now c.args.ending.now c.requires.few c.in-Ok.ensures c.append.ensures.count c.append.ensures.written
