-- What is done at modules of a user's own where there are none: nothing (put(9E)).
use Rattle.std.specs.Prelude.{ℕ, [], false}
use Rattle.strm_types.specs.OwnStands.{OwnActs}

abbrev pub no_own : OwnActs ℕ
no_own = record {
  puts = λ here m x. record { state = x; notes = []; sent = []; gone = [] };
  holds = λ here m x. false;
  goes = λ way ms x. false;
}
