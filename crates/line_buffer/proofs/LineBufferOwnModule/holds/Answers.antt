-- By the way, and then by the kind.
use Rattle.std.proofs.Common.{sym, ap, ◌∙◌}
use Rattle.std.specs.Prelude.{◌&&◌}
use Rattle.strm_blocks.specs.Blocks.{in_hand, token}
use Rattle.strm_frame.specs.Outboxes.{message_in}
use Rattle.strm_msg.proofs.Chains.{kind-is}
use Rattle.line_buffer.specs.LineBuffer.{is_down, waits}
use Rattle.line_buffer.proofs.LineBufferOwnModule.holds.Goals as goal

pub returns-in-Up : goal.returns-in-Up
returns-in-Up g c =
    let m = message_in (g.B.Blocks.value c.args.store.now) (token c.args.message.now) in
    ap (λ w. is_down w && waits m.kind) (sym c.in-Up.is)

pub returns-in-Down : goal.returns-in-Down
returns-in-Down g c =
    let s = g.B.Blocks.value c.args.store.now in
    let i = token c.args.message.now in
    c.waits.ensures ∙ ap waits (c.kind.ensures ∙ sym (kind-is (in_hand s i))) ∙ ap (λ w. is_down w && waits (message_in s i).kind) (sym c.in-Down.is)
