-- By its kind.
use Rattle.std.proofs.Common.{length, ap, subst, sym, ◌∙◌}
use Rattle.strm_laws.specs.Stacked.{OfOwn, OfPtem, kind_line, without_kind_line}
use Rattle.strm_pair.specs.AnyModules.{IsKindHeld, kind_in}
use Rattle.strm_pair.proofs.modules.AnyModuleModule.clear_line.Goals as goal

pub returns-in-Ldterm-clause-gone : goal.returns-in-Ldterm-clause-gone
returns-in-Ldterm-clause-gone c = λ s. ap (λ x. length (kind_line (kind_in s x))) c.in-Ldterm.is ∙ c.clear_line.ensures.gone s

pub returns-in-Ptem-clause-gone : goal.returns-in-Ptem-clause-gone
returns-in-Ptem-clause-gone c = λ s. ap (λ x. length (kind_line (kind_in s x))) c.in-Ptem.is ∙ c.clear_line-in-Ptem.ensures.gone s

pub returns-in-Ptem-clause-line : goal.returns-in-Ptem-clause-line
returns-in-Ptem-clause-line c = λ s. ap OfPtem (c.clear_line-in-Ptem.ensures.line s) ∙ sym (ap (λ x. without_kind_line (kind_in s x)) c.in-Ptem.is)

pub returns-in-Pckt-clause-gone : goal.returns-in-Pckt-clause-gone
returns-in-Pckt-clause-gone c = λ s. ap (λ x. length (kind_line (kind_in s x))) c.in-Pckt.is ∙ c.clear_line-in-Pckt.ensures.gone s

pub returns-in-Own-clause-gone : goal.returns-in-Own-clause-gone
returns-in-Own-clause-gone c = λ s. ap (λ x. length (kind_line (kind_in s x))) c.in-Own.is ∙ c.clear_line-in-Own.ensures.gone s

pub returns-in-Own-clause-line : goal.returns-in-Own-clause-line
returns-in-Own-clause-line c = λ s. ap OfOwn (c.clear_line-in-Own.ensures.line s) ∙ sym (ap (λ x. without_kind_line (kind_in s x)) c.in-Own.is)

pub returns-in-Own-clause-held : goal.returns-in-Own-clause-held
returns-in-Own-clause-held c = λ s queues held. c.clear_line-in-Own.ensures.held s queues (subst (λ x. IsKindHeld s x queues) c.in-Own.is held)
