use Rattle.std.proofs.Common.{refl}
use Rattle.strm_ldterm.proofs.Flows.{flows-byte}
use Rattle.strm_ldterm.proofs.output_runs.flow_byte.Goals as goal

pub returns : goal.returns
returns c = flows-byte c.args.here c.args.termios.now c.args.byte c.args.flow.now _ c.args.told.now c.tell_given.new.told c.post-posted.result c.post-posted.ensures c.add_given.ensures refl (c.tell_given.ensures c.args.byte)
