use Rattle.strm_pty.proofs.Replied.{signal-plain}
use Rattle.strm_pty.proofs.replies.signal_up.Goals as goal

pub send-requires-clause-kind : goal.send-requires-clause-kind
send-requires-clause-kind g c = signal-plain
