-- By the way.
use Rattle.std.proofs.Common.{sym, ap, ◌∙◌}
use Rattle.strm_blocks.specs.Blocks.{token}
use Rattle.strm_frame.specs.Outboxes.{message_in}
use Rattle.code_page.specs.CodePages.{ours}
use Rattle.code_page.proofs.asking.asked_of.Goals as goal

pub returns-in-Down : goal.returns-in-Down
returns-in-Down g c =
    let m = message_in (g.B.Blocks.value c.args.store.now) (token c.args.message.now) in
    c.header_in.ensures ∙ ap (λ way. ours way m) (sym c.in-Down.is)

pub returns-in-Up : goal.returns-in-Up
returns-in-Up g c =
    let m = message_in (g.B.Blocks.value c.args.store.now) (token c.args.message.now) in
    ap (λ way. ours way m) (sym c.in-Up.is)
