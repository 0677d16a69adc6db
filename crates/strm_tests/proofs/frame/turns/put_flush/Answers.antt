-- The message is a chain.
use Rattle.std.proofs.Common.{refl}
use Rattle.strm_types.specs.declared.kinds.MsgKind.TheVariants.{Flush}
use Rattle.strm_types.specs.Flush.{is_data_kind}
use Rattle.strm_msg.proofs.MadePlain.{made-plain}
use Rattle.strm_tests.proofs.frame.turns.put_flush.Goals as goal
use Rattle.strm_blocks.specs.Blocks.{token}

pub put-requires-clause-chain : goal.put-requires-clause-chain
unfolding is_data_kind
put-requires-clause-chain g c =
    (made-plain Flush (g.B.Blocks.value c.args.store.now) (g.B.Blocks.value c.from_bytes.new.store) (token c.in-Ok.message) _ refl c.in-Ok.ensures).one
