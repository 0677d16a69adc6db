-- Each kind is what its text says, fits queues where it has some and fits none else, and keeps nothing.
use Rattle.strm_pair.proofs.Prelude.{sym, ap, ◌∙◌}
use Rattle.strm_pair.specs.Prelude.{OfLdterm, OfOwn, have_queues, kind_name}
use Rattle.strm_types.specs.declared.names.ModuleName.TheVariants as names
use Rattle.strm_types.specs.Owns.{Own}
use Rattle.strm_image.specs.ModuleTexts.{kind_now}
use Rattle.strm_pair.proofs.MadeModules.{ldterm-fits, none-are}
use Rattle.strm_pair.proofs.images.made_modules.kind_of.Goals as goal

pub returns-in-Ldterm-clause-state : goal.returns-in-Ldterm-clause-state
returns-in-Ldterm-clause-state c = λ s. ap OfLdterm (c.ldterm_of.ensures.state s) ∙ sym (ap kind_now c.in-Ldterm.is)

pub returns-in-Ldterm-clause-held : goal.returns-in-Ldterm-clause-held
returns-in-Ldterm-clause-held c = λ s queues has.
    ldterm-fits s c.ldterm_of.result queues (has ∙ ap (λ k. have_queues (kind_name (kind_now k))) c.in-Ldterm.is)
    (λ pair. c.ldterm_of.ensures.held s pair)

pub returns-in-Ldterm-clause-rests : goal.returns-in-Ldterm-clause-rests
returns-in-Ldterm-clause-rests c = c.ldterm_of.ensures.rests

pub returns-in-Ptem-clause-held : goal.returns-in-Ptem-clause-held
returns-in-Ptem-clause-held c = λ s queues has. none-are queues (has ∙ ap (λ k. have_queues (kind_name (kind_now k))) c.in-Ptem.is)

pub returns-in-Pckt-clause-held : goal.returns-in-Pckt-clause-held
returns-in-Pckt-clause-held c = λ s queues has. none-are queues (has ∙ ap (λ k. have_queues (kind_name (kind_now k))) c.in-Pckt.is)

pub returns-in-Own-clause-state : goal.returns-in-Own-clause-state
returns-in-Own-clause-state c = λ s. ap OfOwn c.new.ensures ∙ sym (ap kind_now c.in-Own.is)

pub returns-in-Own-clause-held : goal.returns-in-Own-clause-held
returns-in-Own-clause-held c = λ s queues has.
    has ∙ ap (λ k. have_queues (kind_name (kind_now k))) c.in-Own.is ∙ ap (λ (o : Own). have_queues (names.Own o.number)) (sym c.new.ensures)
