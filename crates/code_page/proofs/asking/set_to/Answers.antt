-- The bytes stay as they are.
use Rattle.std.proofs.Common.{sym, ap, ◌∙◌}
use Rattle.code_page.proofs.PagesRead.{same-bytes}
use Rattle.code_page.proofs.asking.set_to.Goals as goal

pub returns : goal.returns
returns c = c.set.ensures ∙ ap (λ bytes. record c.args.own.now { settings = bytes }) (sym (same-bytes c.args.page.now c.type_inv.page))
