use Rattle.strm_blocks.proofs.parts.summary_at.Goals as goal

pub returns : goal.returns
returns c = rw (c.total_len.ensures, c.first_block-block.ensures)
