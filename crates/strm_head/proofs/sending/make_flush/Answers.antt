-- An M_FLUSH is one block.
use Rattle.strm_head.proofs.Prelude.{subst, ◌∙◌}
use Rattle.strm_head.specs.Prelude.{flush_message, token}
use Rattle.strm_head.specs.Sending.{Sends}
use Rattle.strm_head.proofs.Lone.{made-flush}
use Rattle.strm_head.proofs.sending.make_flush.Goals as goal

pub returns : goal.returns
returns g c =
    let s = g.B.Blocks.value c.args.store.now in
    let made = g.B.Blocks.value c.make.new.store in
    let i = token c.make.result in
    subst (λ bytes. Sends s made i (flush_message bytes) 1) (c.as_slice.ensures.value ∙ c.bytes-bytes.ensures) (made-flush s made i c.as_slice.result.now c.make.ensures)
