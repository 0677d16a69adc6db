-- The message is made, and goes to the next place.
use Rattle.strm_pty.proofs.Prelude.{refl, ap}
use Rattle.strm_pty.specs.Prelude.{Spot, bare}
use Rattle.strm_pty.proofs.Doing.{makes-one}
use Rattle.strm_pty.proofs.replies.send.Goals as goal

pub returns : goal.returns
returns g c =
    makes-one (g.B.Blocks.value c.args.store.now) _ (record { to = c.toward.result; message = c.make-message.result }) c.args.kind c.args.bytes.now _ _
    c.make-message.ensures refl (ap (λ (to : Spot). record { to = to; message = bare c.args.kind c.args.bytes.now }) c.toward.ensures)
