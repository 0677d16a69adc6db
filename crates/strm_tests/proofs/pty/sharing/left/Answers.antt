-- The M_IOCTL that is put is one message in hand.
use Rattle.std.proofs.Common.{[], refl}
use Rattle.strm_msg.proofs.InHand.{made-here}
use Rattle.strm_frame.specs.Outboxes.{AreChains}
use Rattle.strm_pty.proofs.Replied.{ioctl-plain}
use Rattle.strm_tests.proofs.PtyPuts.{first-there}
use Rattle.strm_tests.proofs.pty.sharing.left.Goals as goal
use Rattle.strm_blocks.specs.Blocks.{token}

pub send_behind-asked-requires-clause-kind : goal.send_behind-asked-requires-clause-kind
send_behind-asked-requires-clause-kind g c = ioctl-plain

pub put-acts-requires-clause-in_hand : goal.put-acts-requires-clause-in_hand
put-acts-requires-clause-in_hand g c =
    let s = g.B.Blocks.value c.from_bytes.new.store in
    first-there s (g.B.Blocks.value c.send_behind-asked.new.store) (token c.in_ok-payload.payload) 1 c.send_behind-asked.result _ [] _
    (made-here _ _ _ _ c.in_ok-payload.ensures.made) c.audit.ensures c.send_behind-asked.ensures.swaps refl

pub put-acts-requires-clause-chain : goal.put-acts-requires-clause-chain
unfolding AreChains
put-acts-requires-clause-chain g c = c.send_behind-asked.ensures.swaps.chains.0
