-- The first message is kept in work, or sent on.
use Rattle.std.proofs.Common.{sym, ap, ◌∙◌}
use Rattle.strm_types.specs.Input.{is_data}
use Rattle.strm_ldterm.specs.Stands.{paired}
use Rattle.strm_ldterm.proofs.Passed.{none-there, stays-up, began-whole, began-work}
use Rattle.strm_ldterm.proofs.turn_starts.begin_input.Goals as goal

pub returns-then-is_empty : goal.returns-then-is_empty
returns-then-is_empty g c =
    stays-up (g.B.Blocks.value c.args.store.now) c.args.here (paired c.args.ldterm.now c.args.queues.now) c.requires.held (none-there _ (sym c.is_empty.ensures ∙ c.if-is_empty.true))

pub returns-then-is_data : goal.returns-then-is_data
returns-then-is_data g c =
    began-work (g.B.Blocks.value c.args.store.now) (g.B.Blocks.value c.dequeue.new.store) (paired c.args.ldterm.now c.args.queues.now) c.dequeue.new.queue c.in-Some.message c.args.here
    c.requires.held c.requires.rests c.requires.quiet c.in-Some.ensures _ (c.message_size-bytes.ensures.message c.in-Some.ensures.chain) c.audit.ensures
    (ap is_data (sym c.kind.ensures) ∙ sym c.is_data.ensures ∙ c.if-is_data.true)

pub returns : goal.returns
returns g c =
    began-whole (g.B.Blocks.value c.args.store.now) (g.B.Blocks.value c.dequeue.new.store) (paired c.args.ldterm.now c.args.queues.now) c.dequeue.new.queue c.in-Some.message c.args.here
    c.requires.held c.requires.rests c.requires.quiet c.in-Some.ensures _ (c.message_size-bytes.ensures.message c.in-Some.ensures.chain) c.toward.result _ c.one.ensures c.toward.ensures
    (ap is_data (sym c.kind.ensures) ∙ sym c.is_data.ensures ∙ c.if-is_data.false)
