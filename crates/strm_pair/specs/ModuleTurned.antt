-- What a turn of a module's queue begins with.
use Rattle.std.specs.Prelude.{ℕ, ◌≡◌, ◌<◌, ◌≤◌, false, length, Some}
use Rattle.strm_pair.specs.Prelude.{Turn, MODULES, QueueName, Spot, plain, module_turned, moved_by, moved_within, place_named, State, stream}
use Rattle.strm_pair.specs.Prelude.{bytes_left, discipline_of, module_at, stayed_put, Behaviour}
use Rattle.strm_pair.specs.declared.module_turns.Begun.{Begun}
use Rattle.strm_pair.specs.declared.module_turns.Begun.TheVariants.{Over, Serves}

-- The module at a place may serve: whatever the turn is answered, it goes as far as that. Its first message has no more bytes than a store
-- has room for.
pub record MayMove (K : Behaviour) (old new : State ℕ) (name : QueueName) (here : Spot) : Type 0 where
  pub stays : new ≡ old
  pub named : here ≡ record { side = name.side; at = here.at; way = name.way }
  pub found : place_named name.place (stream name.side old).modules ≡ Some here.at
  pub inside : 0 < here.at
  pub within : here.at ≤ length (stream here.side old).modules
  pub low : here.at ≤ MODULES
  pub few : bytes_left here.way false (discipline_of (module_at here old)) ≤ 16777216
  pub moves : (turn : Turn) → module_turned K plain name turn old ≡ moved_within K plain here name turn old

-- Or the turn is over, and moved nothing, whatever it is answered.
abbrev pub BeginsAs : (K : Behaviour) (old new : State ℕ) → QueueName → Begun → Type 0
BeginsAs K old new name (Over answer) = (moved_by answer ≡ 0) × ((turn : Turn) → module_turned K plain name turn old ≡ stayed_put answer new)
BeginsAs K old new name (Serves here) = MayMove K old new name here
