-- Where a pair's journal begins: a state, how many bytes had gone by each rule there, and the entries that led there from where the pair began.
use Rattle.std.specs.Prelude.{ℕ, List, [], ◌++◌}
use Rattle.strm_pair.specs.Prelude.{Fates, plain, PlainEntry, no_fates, told_by, State, opening, replay, Behaviour}

pub record Start : Type 0 where
  pub state : State ℕ
  pub fates : Fates
  pub past : List PlainEntry

-- that of a pair as it is made
abbrev pub new_start : Start
new_start = record { state = opening; fates = no_fates; past = [] }

-- where a journal leads that begins there, with what has gone till then
abbrev pub led_on : (K : Behaviour) → List PlainEntry → Start → Start
led_on K entries start = record {
  state = replay K plain start.state entries;
  fates = told_by K plain start.state entries start.fates;
  past = start.past ++ entries;
}
