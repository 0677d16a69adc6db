-- The behaviour of no module: where it is chosen, a user has none of his own.
use Rattle.strm_laws.proofs.Prelude.{ℕ, ◌≤◌, true, false, [], refl, arith, false≢true, sum_by}
use Rattle.strm_laws.specs.Prelude.{Way, Up, Down, Spot, Cells, Message, toward, emits_at, At, Shape, Asking, shape_of}
use Rattle.strm_types.specs.Owns.{Own}
use Rattle.strm_types.specs.Tables.{own_does}
use Rattle.strm_types.proofs.CostsOf.{one-few}
use Rattle.strm_laws.specs.Behaviours.{Behaviour, OwnPut, passes_all}
use Rattle.strm_laws.proofs.LdtermKeeps.{onward-weighs}

-- what passes is within the table
pub passes-within : (here : Spot) (cost : At → ℕ) (way : Way) (shape : Shape) → cost (record { to = toward way here; shape = shape })
    ≤ sum_by cost (emits_at here (own_does way shape))
passes-within here cost Up shape = omega arith
passes-within here cost Down Asking = omega arith
passes-within here cost Down shape = omega arith

pub passes-put : {C : Type 0} (cells : Cells C) (here : Spot) (m : Message C) (x : Own) → OwnPut false cells here m x (passes_all here m x)
passes-put cells here m x = record {
  number = refl;
  notes = refl;
  once = λ p tests. omega (arith, onward-weighs p here.way here m);
  none_made = λ p. refl;
  unread = tt;
  within = λ cost. (
      let most = sum_by cost (emits_at here (own_does here.way (shape_of m))) in
      one-few cost most (toward here.way here) m (passes-within here cost here.way (shape_of m))
      );
  kinds = (λ only. refl, tt);
  fits = omega arith;
  sends = λ good. (good, tt);
  stays = λ good. good;
}

abbrev pub none : Behaviour
none = record {
  knows = λ n. false;
  fresh = λ n. [];
  puts = λ cells here m x. passes_all here m x;
  changes = false;
  holds = λ here m x. false;
  goes = λ way ms x. true;
  good = λ n is. absurd (false≢true is);
  put = λ cells here m x. passes-put cells here m x;
  forgets = λ cells are here m x. refl;
}
