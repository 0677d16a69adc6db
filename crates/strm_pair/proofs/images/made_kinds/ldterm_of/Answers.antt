-- It keeps nothing in hand, whatever its queues.
use Rattle.strm_pair.proofs.Prelude.{refl, arith, false≢true}
use Rattle.strm_ldterm.specs.Stands.{times_kept}
use Rattle.strm_pair.proofs.images.made_kinds.ldterm_of.Goals as goal

pub returns-clause-held : goal.returns-clause-held
unfolding times_kept
returns-clause-held c = λ s queues. record {
  work = tt;
  gathers = tt;
  echoes = λ on busy. absurd (false≢true on);
  once_each = λ i. omega arith;
}

pub returns-clause-rests : goal.returns-clause-rests
unfolding times_kept
returns-clause-rests c = λ i. refl
