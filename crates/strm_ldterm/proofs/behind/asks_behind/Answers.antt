-- By the kind, and then by the header.
use Rattle.strm_ldterm.proofs.Prelude.{sym, ap, ◌∙◌}
use Rattle.strm_ldterm.specs.Prelude.{read_ioc, waits_behind, message_in, token}
use Rattle.std.proofs.Common.{◌&&◌}
use Rattle.strm_frame.proofs.Asked.{asked-is, asked-not, asked-plain}
use Rattle.strm_ldterm.proofs.behind.asks_behind.Goals as goal

pub returns-then-not-is_ioctl : goal.returns-then-not-is_ioctl
returns-then-not-is_ioctl g c =
    let s = g.B.Blocks.value c.args.store.now in
    let i = token c.args.message.now in
    ap (λ b. b && waits_behind (read_ioc (message_in s i).plain)) (sym (asked-not s i c.args.kind c.requires.kind (sym c.is_ioctl.ensures ∙ c.if-not-is_ioctl.true)))

pub header_of-requires-clause-kind : goal.header_of-requires-clause-kind
header_of-requires-clause-kind g c =
    let s = g.B.Blocks.value c.args.store.now in
    let i = token c.args.message.now in
    asked-plain s i (asked-is s i c.args.kind c.requires.chain c.requires.kind (sym c.is_ioctl.ensures ∙ c.if-not-is_ioctl.false))

pub returns-in-None : goal.returns-in-None
returns-in-None g c =
    let s = g.B.Blocks.value c.args.store.now in
    let i = token c.args.message.now in
    let asked = asked-is s i c.args.kind c.requires.chain c.requires.kind (sym c.is_ioctl.ensures ∙ c.if-not-is_ioctl.false) in
    ap waits_behind (sym c.in-None.is ∙ c.header_of.ensures) ∙ ap (λ b. b && waits_behind (read_ioc (message_in s i).plain)) (sym asked)

pub returns-in-Some : goal.returns-in-Some
returns-in-Some g c =
    let s = g.B.Blocks.value c.args.store.now in
    let i = token c.args.message.now in
    let asked = asked-is s i c.args.kind c.requires.chain c.requires.kind (sym c.is_ioctl.ensures ∙ c.if-not-is_ioctl.false) in
    c.sets_behind.ensures ∙ ap waits_behind (sym c.in-Some.is ∙ c.header_of.ensures) ∙ ap (λ b. b && waits_behind (read_ioc (message_in s i).plain)) (sym asked)
