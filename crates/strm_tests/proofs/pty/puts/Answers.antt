-- The message is a chain.
use Rattle.std.proofs.Common.{◌∙◌, sym}
use Rattle.strm_tests.proofs.PtyPuts.{made-chain}
use Rattle.strm_tests.proofs.pty.puts.Goals as goal
use Rattle.strm_blocks.specs.Blocks.{token}

pub put-acts-requires-clause-chain : goal.put-acts-requires-clause-chain
put-acts-requires-clause-chain g c =
    made-chain c.args.row.now.kind (g.B.Blocks.value c.args.store.now) (g.B.Blocks.value c.from_bytes.new.store) (token c.in_ok-message.message) c.args.row.now.bytes.now (sym c.is_control_kind.ensures ∙ c.if-is_control_kind.false) c.in_ok-message.ensures
