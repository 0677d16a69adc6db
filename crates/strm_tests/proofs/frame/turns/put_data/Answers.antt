-- The message is a chain.
use Rattle.strm_msg.proofs.MadeData.{made-data}
use Rattle.strm_tests.proofs.frame.turns.put_data.Goals as goal
use Rattle.strm_blocks.specs.Blocks.{token}

pub put-requires-clause-chain : goal.put-requires-clause-chain
put-requires-clause-chain g c =
    (made-data (g.B.Blocks.value c.args.store.now) (g.B.Blocks.value c.from_bytes.new.store) (token c.in-Ok.message) _ c.in-Ok.ensures).one
