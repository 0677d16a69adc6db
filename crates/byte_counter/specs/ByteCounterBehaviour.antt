-- The behaviour of a counter of bytes, with what it owes.
use Rattle.std.specs.Prelude.{true, false, ◌==◌}
use Rattle.strm_laws.specs.Behaviours.{Behaviour}
use Rattle.byte_counter.specs.ByteCounter.{byte_counter_number, byte_counter_puts, none_counted}
use Rattle.byte_counter.specs.ByteCounterLaws.{byte_counter-forgets, byte_counter-good, byte_counter-put}

abbrev pub byte_counter : Behaviour
byte_counter = record {
  knows = λ n. n == byte_counter_number;
  fresh = λ n. none_counted;
  puts = λ cells here m x. byte_counter_puts cells here m x;
  changes = false;
  holds = λ here m x. false;
  goes = λ way ms x. true;
  good = λ n is. byte_counter-good n is;
  put = λ cells here m x. byte_counter-put cells here m x;
  forgets = λ cells are here m x. byte_counter-forgets cells are here m x;
}
