-- One run of blocks, or one behind another.
use Rattle.strm_pair.proofs.MadeRuns.{joins-both, joins-one, never-second}
use Rattle.strm_pair.proofs.images.made_messages.join.Goals as goal

pub returns-in_default-behind : goal.returns-in_default-behind
returns-in_default-behind g c = rw c.in_default-behind.is (joins-one c.in-Ok.ensures)

pub unreachable-requires-in_default-from_bytes : goal.unreachable-requires-in_default-from_bytes
unreachable-requires-in_default-from_bytes g c =
    never-second c.args.front.now c.in-Some.bytes.now c.in-Ok.ensures (rw c.in-Some.is at c.requires.room) c.in_default-from_bytes.ensures

pub returns : goal.returns
returns g c = rw c.in-Some.is (joins-both c.in-Ok.ensures c.in-Ok-from_bytes.ensures c.link.ensures.kept_name c.link.ensures.linked)
