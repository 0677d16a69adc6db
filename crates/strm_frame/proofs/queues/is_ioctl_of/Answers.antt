-- An M_IOCTL, by the number in its header.
use Rattle.strm_frame.proofs.Prelude.{sym, ap, ◌∙◌, ◌&&◌}
use Rattle.strm_frame.specs.Prelude.{read_ioc, token}
use Rattle.strm_types.specs.Dropped.{has_number}
use Rattle.strm_frame.specs.Outboxes.{message_in}
use Rattle.strm_frame.proofs.Asked.{asked-is, asked-not, asked-plain}
use Rattle.strm_frame.proofs.queues.is_ioctl_of.Goals as goal

pub returns-then-not-is_ioctl : goal.returns-then-not-is_ioctl
returns-then-not-is_ioctl g c =
    let s = g.B.Blocks.value c.args.store.now in
    let i = token c.args.message.now in
    ap (λ b. b && has_number c.args.number (read_ioc (message_in s i).plain)) (sym (asked-not s i c.kind.result c.kind.ensures (sym c.is_ioctl.ensures ∙ c.if-not-is_ioctl.true)))

pub header_of-requires-clause-kind : goal.header_of-requires-clause-kind
header_of-requires-clause-kind g c =
    let s = g.B.Blocks.value c.args.store.now in
    let i = token c.args.message.now in
    asked-plain s i (asked-is s i c.kind.result c.requires.chain c.kind.ensures (sym c.is_ioctl.ensures ∙ c.if-not-is_ioctl.false))

pub returns-in-Some : goal.returns-in-Some
returns-in-Some g c =
    let s = g.B.Blocks.value c.args.store.now in
    let i = token c.args.message.now in
    let asked = asked-is s i c.kind.result c.requires.chain c.kind.ensures (sym c.is_ioctl.ensures ∙ c.if-not-is_ioctl.false) in
    ap (has_number c.args.number) (sym c.in-Some.is ∙ c.header_of.ensures) ∙ ap (λ b. b && has_number c.args.number (read_ioc (message_in s i).plain)) (sym asked)
