-- The first message is kept in work, or sent on.
use Rattle.strm_ldterm.proofs.Prelude.{sym, ap, ◌∙◌, ◌&&◌, nat_lt}
use Rattle.strm_ldterm.specs.Prelude.{MsgKind, is_data, opost}
use Rattle.strm_ldterm.specs.Stands.{paired}
use Rattle.strm_ldterm.proofs.Passed.{began-output, none-there, passed-down, stays-down}
use Rattle.strm_ldterm.proofs.turn_starts.begin_output.Goals as goal

pub returns-then-is_empty : goal.returns-then-is_empty
returns-then-is_empty g c =
    stays-down (g.B.Blocks.value c.args.store.now) (paired c.args.ldterm.now c.args.queues.now) c.args.here _ c.requires.held (none-there _ (sym c.is_empty.ensures ∙ c.if-is_empty.true)) c.none.ensures

pub returns-then-goes_out : goal.returns-then-goes_out
returns-then-goes_out g c =
    began-output (g.B.Blocks.value c.args.store.now) (g.B.Blocks.value c.dequeue.new.store) (paired c.args.ldterm.now c.args.queues.now) c.dequeue.new.queue c.in-Some.message c.args.here
    c.requires.held c.requires.rests c.requires.quiet c.in-Some.ensures _ (c.message_size-bytes.ensures.message c.in-Some.ensures.chain) _ c.audit.ensures c.band-band.ensures
    (ap (λ (k : MsgKind). is_data k && (opost c.args.ldterm.now.termios && nat_lt 0 c.message_size-bytes.result)) (sym c.kind.ensures) ∙ sym c.goes_out.ensures ∙ c.if-goes_out.true)

pub returns : goal.returns
returns g c =
    passed-down (g.B.Blocks.value c.args.store.now) (g.B.Blocks.value c.dequeue.new.store) (paired c.args.ldterm.now c.args.queues.now) c.dequeue.new.queue c.in-Some.message c.args.here
    c.requires.held c.requires.rests c.requires.quiet c.in-Some.ensures _ (c.message_size-bytes.ensures.message c.in-Some.ensures.chain) c.toward.result _ c.one.ensures c.toward.ensures
    (ap (λ (k : MsgKind). is_data k && (opost c.args.ldterm.now.termios && nat_lt 0 c.message_size-bytes.result)) (sym c.kind.ensures) ∙ sym c.goes_out.ensures ∙ c.if-goes_out.false)
