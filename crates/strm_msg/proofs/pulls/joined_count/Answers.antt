use Rattle.std.proofs.Common.{rules}
use Rattle.strm_msg.proofs.pulls.joined_count.Goals as goal

pub returns : goal.returns
returns c = search rules steps 100000
