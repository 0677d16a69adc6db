use Rattle.std.proofs.Common.{sym, subst}
use Rattle.strm_laws.specs.Restorable.{Restorable}
use Rattle.strm_laws.proofs.RestorableSteps.{opening-restorable, replay-restorable, step-restorable}
use Rattle.strm_laws.proofs.restore_laws.restorable_stays.Goals as goal

pub returns-clause-opening : goal.returns-clause-opening
returns-clause-opening g c = λ s is. subst (λ t. Restorable t) (sym is) opening-restorable

pub returns-clause-step : goal.returns-clause-step
returns-clause-step g c = λ cells old new entry low was step. step-restorable g.K.Behaves.does cells old new entry low was step

pub returns-clause-journal : goal.returns-clause-journal
returns-clause-journal g c = λ cells s entries low is legal. replay-restorable g.K.Behaves.does cells s entries low is legal
