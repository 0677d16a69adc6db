-- The termios is what the answer gives.
use Rattle.strm_types.specs.Termios.{termios_bytes}
use Rattle.strm_pty.proofs.Replied.{ack-answers}
use Rattle.strm_pty.proofs.ptem.tell_termios.Goals as goal
use Rattle.strm_blocks.specs.Blocks.{token}

pub returns : goal.returns
returns g c =
    ack-answers (g.B.Blocks.value c.args.store.now) (g.B.Blocks.value c.ack.new.store) (token c.args.message) c.args.here c.args.ioc c.ack.result c.ack.ensures.notes
    c.args.ptem.now _ (termios_bytes c.args.ptem.now.termios) c.requires c.bytes-bytes.ensures.bytes c.ack.ensures.swaps
