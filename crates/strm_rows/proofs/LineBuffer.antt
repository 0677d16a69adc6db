-- A module of a user's own with queues, as rows speak of one: a line buffer. What is written waits on its write queue until a line is whole, or 128
-- bytes stand there (setvbuf(3C): line buffered; STREAMS Programming Guide, "Message Queues").
use Rattle.std.proofs.Common.{ℕ, ◌≡◌, ◌<◌, Bool, true, false, List, [], ◌∷◌, refl, arith}
use Rattle.std.proofs.lemmas.Bool.Decides.{nat_tests}
use Rattle.std.specs.List.{list_any}
use Rattle.std.specs.Prelude.{◌==◌, ◌&&◌, ◌||◌, nat_le}
use Rattle.strm_types.specs.declared.names.Way.{Way}
use Rattle.strm_types.specs.declared.names.Way.TheVariants.{Up, Down}
use Rattle.strm_types.specs.Input.{is_data}
use Rattle.strm_types.specs.Message.{Message, cells_of}
use Rattle.strm_types.specs.Queue.{bytes_of}
use Rattle.strm_laws.specs.Behaviours.{Behaviour, GoodOwn, passes_all}
use Rattle.strm_laws.proofs.NoOwn.{passes-put}

abbrev pub is_down : Way → Bool
is_down Down = true
is_down Up = false

-- whether a line is whole among messages: an NL stands there, or 128 bytes
abbrev pub has_line : List (Message ℕ) → Bool
has_line ms = list_any (λ m. list_any (λ b. b == 10) (cells_of m)) ms || nat_le 128 (bytes_of ms)

pub buffer-good : (n : ℕ) → (n == 128) ≡ true → GoodOwn (record { number = n; settings = [] })
buffer-good n is = let e : n ≡ 128 = grind (arith, nat_tests) in record { number = omega (arith, e); few = omega arith; bytes = tt }

-- its number is 128; M_DATA on its way down waits, and all else passes
abbrev pub line_buffer : Behaviour
line_buffer = record {
  knows = λ n. n == 128;
  fresh = λ n. [];
  puts = λ cells here m x. passes_all here m x;
  changes = false;
  holds = λ here m x. is_down here.way && is_data m.kind;
  goes = λ way ms x. has_line ms;
  good = buffer-good;
  put = λ cells here m x. passes-put cells here m x;
  forgets = λ cells are here m x. refl;
}
