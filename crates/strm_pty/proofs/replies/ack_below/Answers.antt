use Rattle.strm_pty.proofs.Replied.{ack-plain}
use Rattle.strm_pty.proofs.replies.ack_below.Goals as goal

pub send-requires-clause-kind : goal.send-requires-clause-kind
send-requires-clause-kind g c = ack-plain
