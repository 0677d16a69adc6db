use Rattle.strm_laws.proofs.Prelude.{sym, subst, signals-fit}
use Rattle.strm_laws.specs.Within.{AreWithin}
use Rattle.strm_laws.proofs.WithinHeads.{put-within}
use Rattle.strm_laws.proofs.WithinSteps.{opening-within, step-within}
use Rattle.strm_laws.proofs.head_laws.heads_keep_little.Goals as goal

pub returns-clause-opening : goal.returns-clause-opening
returns-clause-opening g c = λ s is. subst (λ t. AreWithin t) (sym is) opening-within

pub returns-clause-put : goal.returns-clause-put
returns-clause-put g c = λ here m h within. put-within here m h within

pub returns-clause-step : goal.returns-clause-step
returns-clause-step g c = λ cells old new entry within step. step-within g.K.Behaves.does cells old new entry within step

pub returns-clause-signals : goal.returns-clause-signals
returns-clause-signals g c = λ ns are. signals-fit ns are
