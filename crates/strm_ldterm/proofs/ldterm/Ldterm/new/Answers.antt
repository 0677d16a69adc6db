-- It keeps nothing.
use Rattle.strm_ldterm.proofs.Prelude.{refl, arith, false≢true}
use Rattle.strm_ldterm.specs.Stands.{times_kept}
use Rattle.strm_ldterm.proofs.Fresh.{new-shown}
use Rattle.strm_ldterm.proofs.ldterm.Ldterm.new.Goals as goal

pub returns-clause-state : goal.returns-clause-state
returns-clause-state c = λ s. new-shown c.new.result c.new-2.result c.new.ensures c.new-2.ensures

pub returns-clause-held : goal.returns-clause-held
unfolding times_kept
returns-clause-held c = λ s queues. record {
  work = tt;
  gathers = tt;
  echoes = λ on busy. absurd (false≢true on);
  once_each = λ i. omega arith;
}

pub returns-clause-rests : goal.returns-clause-rests
unfolding times_kept
returns-clause-rests c = λ i. refl
