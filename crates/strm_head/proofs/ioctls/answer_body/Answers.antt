-- The bytes behind the header, as many as there is room for.
use Rattle.std.proofs.Common.{◌∙◌}
use Rattle.strm_head.proofs.Heeding.{body-first}
use Rattle.strm_head.proofs.ioctls.answer_body.Goals as goal

pub returns : goal.returns
returns c = (rw (c.unwrap.ensures, c.new-body.ensures) at c.try_extend_from_slice.ensures.ok) ∙ body-first c.args.bytes.now c.min-count.result c.min-count.ensures
