use Rattle.std.proofs.Common.{ap, ◌∙◌}
use Rattle.strm_laws.specs.Known.{all_known}
use Rattle.strm_laws.proofs.KnownStay.{called-known, opening-known, replay-known, turn-known}
use Rattle.strm_laws.proofs.restore_laws.known_modules_stay.Goals as goal

pub returns-clause-opening : goal.returns-clause-opening
returns-clause-opening g c = λ s is. ap (all_known g.K.Behaves.does) is ∙ opening-known g.row.C.Denot g.K.Behaves.does

pub returns-clause-call : goal.returns-clause-call
returns-clause-call g c = λ cells caller asked s known. called-known g.K.Behaves.does cells caller asked s known

pub returns-clause-turn : goal.returns-clause-turn
returns-clause-turn g c = λ cells name turn s known. turn-known g.K.Behaves.does cells name turn s known

pub returns-clause-journal : goal.returns-clause-journal
returns-clause-journal g c = λ cells s entries known. replay-known g.K.Behaves.does cells s entries known
