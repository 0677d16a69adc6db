-- Its kind says how long its line is.
use Rattle.std.proofs.Common.{length, sym, ap, ◌∙◌}
use Rattle.strm_laws.specs.Stacked.{kind_line}
use Rattle.strm_pair.specs.AnyModules.{kind_in}
use Rattle.strm_pair.proofs.modules.AnyModuleModule.line_len.Goals as goal

pub returns-in-Ldterm-clause-line : goal.returns-in-Ldterm-clause-line
returns-in-Ldterm-clause-line c = λ s. c.line_len.ensures.line s ∙ ap (λ x. length (kind_line (kind_in s x))) (sym c.in-Ldterm.is)

pub returns-in-Ptem-clause-line : goal.returns-in-Ptem-clause-line
returns-in-Ptem-clause-line c = λ s. c.line_len-in-Ptem.ensures.line s ∙ ap (λ x. length (kind_line (kind_in s x))) (sym c.in-Ptem.is)

pub returns-in-Pckt-clause-line : goal.returns-in-Pckt-clause-line
returns-in-Pckt-clause-line c = λ s. c.line_len-in-Pckt.ensures.line s ∙ ap (λ x. length (kind_line (kind_in s x))) (sym c.in-Pckt.is)

pub returns-in-Own-clause-line : goal.returns-in-Own-clause-line
returns-in-Own-clause-line c = λ s. c.line_len-in-Own.ensures.line s ∙ ap (λ x. length (kind_line (kind_in s x))) (sym c.in-Own.is)
