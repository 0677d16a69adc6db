-- One message is made, or none.
use Rattle.std.proofs.Common.{refl, ◌∙◌}
use Rattle.strm_pty.proofs.Made.{no-flush, one-flush, flush-plain}
use Rattle.strm_pty.proofs.making.flush_to.Goals as goal

pub make-message-requires-clause-kind : goal.make-message-requires-clause-kind
make-message-requires-clause-kind g c = flush-plain

pub returns-then-goes : goal.returns-then-goes
returns-then-goes g c =
    one-flush c.args.goes c.args.asked c.args.to _ _ (record { to = c.args.to; message = c.make-message.result }) _ _ c.make-message.ensures refl refl
    (c.as_slice.ensures.value ∙ c.for_readers.ensures) c.if-goes.true

pub returns-else-goes : goal.returns-else-goes
returns-else-goes g c = no-flush c.args.goes c.args.asked c.args.to _ _ refl c.if-goes.false
