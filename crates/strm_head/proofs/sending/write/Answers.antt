-- A chunk is one block.
use Rattle.strm_head.proofs.Lone.{made-chunk}
use Rattle.strm_head.proofs.sending.write.Goals as goal
use Rattle.strm_blocks.specs.Blocks.{token}

pub returns : goal.returns
returns g c =
    made-chunk (g.B.Blocks.value c.args.store.now) (g.B.Blocks.value c.make.new.store) (token c.make.result) c.args.chunk.now c.requires.few c.make.ensures
