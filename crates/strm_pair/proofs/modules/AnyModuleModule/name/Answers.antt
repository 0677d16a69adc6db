-- Its kind says its name.
use Rattle.std.proofs.Common.{sym, ap, ◌∙◌}
use Rattle.strm_laws.specs.Stacked.{kind_name}
use Rattle.strm_pair.specs.AnyModules.{kind_in}
use Rattle.strm_pair.proofs.modules.AnyModuleModule.name.Goals as goal

pub returns-in-Ldterm : goal.returns-in-Ldterm
returns-in-Ldterm c = λ s. c.name.ensures s ∙ ap (λ x. kind_name (kind_in s x)) (sym c.in-Ldterm.is)

pub returns-in-Ptem : goal.returns-in-Ptem
returns-in-Ptem c = λ s. c.name-in-Ptem.ensures s ∙ ap (λ x. kind_name (kind_in s x)) (sym c.in-Ptem.is)

pub returns-in-Pckt : goal.returns-in-Pckt
returns-in-Pckt c = λ s. c.name-in-Pckt.ensures s ∙ ap (λ x. kind_name (kind_in s x)) (sym c.in-Pckt.is)

pub returns-in-Own : goal.returns-in-Own
returns-in-Own c = λ s. c.name-in-Own.ensures s ∙ ap (λ x. kind_name (kind_in s x)) (sym c.in-Own.is)
