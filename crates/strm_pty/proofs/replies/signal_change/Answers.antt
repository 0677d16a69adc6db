-- Nothing is made where the sizes are one.
use Rattle.std.proofs.Common.{sym, ◌∙◌}
use Rattle.strm_pty.proofs.Replied.{no-signal}
use Rattle.strm_pty.proofs.replies.signal_change.Goals as goal

pub returns-then-is_same : goal.returns-then-is_same
returns-then-is_same g c = no-signal (g.B.Blocks.value c.args.store.now) c.args.here c.args.old c.args.new (sym c.is_same.ensures ∙ c.if-is_same.true)
