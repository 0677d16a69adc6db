-- The message is a chain, and what is sent first is in hand.
use Rattle.std.proofs.Common.{◌∙◌, sym}
use Rattle.strm_blocks.proofs.Laws.{chain-some}
use Rattle.strm_msg.proofs.InHand.{made-here}
use Rattle.strm_tests.proofs.PtyPuts.{first-there, made-chain}
use Rattle.strm_tests.proofs.pty.packets.packs.Goals as goal
use Rattle.strm_blocks.specs.Blocks.{token}

pub put-acts-requires-clause-chain : goal.put-acts-requires-clause-chain
put-acts-requires-clause-chain g c =
    made-chain c.args.row.now.kind (g.B.Blocks.value c.args.store.now) (g.B.Blocks.value c.from_bytes.new.store) (token c.in_ok-message.message) c.args.row.now.bytes.now (sym c.is_control_kind.ensures ∙ c.if-is_control_kind.false) c.in_ok-message.ensures

pub first_bytes-count-requires : goal.first_bytes-count-requires
first_bytes-count-requires g c =
    first-there (g.B.Blocks.value c.from_bytes.new.store) (g.B.Blocks.value c.put-acts.new.store) (token c.in_ok-message.message) _ c.in-Some.first _ _ _
    (made-here _ _ _ _ c.in_ok-message.ensures.made) c.audit.ensures c.put-acts.ensures.swaps c.in-Some.ensures

pub kind-requires-clause-in_hand : goal.kind-requires-clause-in_hand
kind-requires-clause-in_hand g c =
    first-there (g.B.Blocks.value c.from_bytes.new.store) (g.B.Blocks.value c.put-acts.new.store) (token c.in_ok-message.message) _ c.in-Some.first _ _ _
    (made-here _ _ _ _ c.in_ok-message.ensures.made) c.audit.ensures c.put-acts.ensures.swaps c.in-Some.ensures

pub kind-requires-clause-within : goal.kind-requires-clause-within
kind-requires-clause-within g c =
    chain-some (g.B.Blocks.value c.put-acts.new.store) (token c.in-Some.first.message) c.audit.ensures
    (first-there (g.B.Blocks.value c.from_bytes.new.store) (g.B.Blocks.value c.put-acts.new.store) (token c.in_ok-message.message) _ c.in-Some.first _ _ _
    (made-here _ _ _ _ c.in_ok-message.ensures.made) c.audit.ensures c.put-acts.ensures.swaps c.in-Some.ensures)

pub data_len-requires : goal.data_len-requires
data_len-requires g c =
    first-there (g.B.Blocks.value c.from_bytes.new.store) (g.B.Blocks.value c.put-acts.new.store) (token c.in_ok-message.message) _ c.in-Some.first _ _ _
    (made-here _ _ _ _ c.in_ok-message.ensures.made) c.audit.ensures c.put-acts.ensures.swaps c.in-Some.ensures
