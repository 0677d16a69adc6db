use Rattle.strm_image.proofs.LoadRows.{not_passed, passed}
use Rattle.strm_image.proofs.messages.messages_at.Goals as goal

pub returns-in_err-load : goal.returns-in_err-load
returns-in_err-load c = rw c.from_residual-in_err-load.ensures (not_passed c.args.version c.args.queue c.in_ok-count.count c.in_ok-count.text.now c.args.text.now c.in_ok-count.ensures c.in_err-load.ensures.passed)

pub returns : goal.returns
returns c = passed c.args.version c.args.queue c.in_ok-count.count c.in_ok-count.text.now c.args.text.now c.in_ok-load.load c.in_ok-load.rest.now c.in_ok-count.ensures c.in_ok-load.ensures.passed
