-- That no byte is lost, and none made but what is told: what stands on a pair's queues, what a step brings there and what it
-- takes away.
use Rattle.std.specs.Prelude.{◌≡◌, ℕ, ◌+◌, Bool, true, false, List, [], ◌∷◌, count_by}
use Rattle.std.specs.List.{AllByRecursion}
use Rattle.strm_laws.specs.Prelude.{Place, Driver, Dir, Side, Master, Slave, Up, Down, Called, Turned, AllSides, Cells, direction_at}
use Rattle.strm_laws.specs.Prelude.{direction_from, is_open, weight, Fate, tallied, Fates, PlainEntry}
use Rattle.strm_types.specs.declared.names.Place.TheVariants.{Head}
use Rattle.strm_types.specs.declared.names.Place.TheVariants as places
use Rattle.strm_laws.specs.Behaviours.{Behaviour, MayTestOwn}
use Rattle.strm_laws.specs.LdtermWeights.{IgnoresMapping}
use Rattle.strm_laws.specs.Stacked.{IsAtRest, modules_weight}
use Rattle.strm_laws.specs.State.{State, Stream, stream}
use Rattle.strm_laws.specs.Step.{after}
use Rattle.strm_laws.specs.Calls.{called, delivers}
use Rattle.strm_laws.specs.Turns.{turned}

module _ {C : Type 0} where
  -- A turn of a module's queue may map a byte to another one, as ICRNL does, so a test has to say the same of the two; and so where messages are
  -- delivered past modules of a user's own that change bytes. All else leaves each byte as it is.
  abbrev pub tests_at : Behaviour → Cells C → (Dir → C → Bool) → Place → Type 0
  tests_at K cells p Head = Unit {0}
  tests_at K cells p Driver = MayTestOwn K cells p
  tests_at K cells p (places.Module name) = IgnoresMapping cells p

  abbrev pub MayTest : Behaviour → Cells C → (Dir → C → Bool) → PlainEntry → Type 0
  MayTest K cells p (Called caller asked answer) = delivers asked ≡ true → MayTestOwn K cells p
  MayTest K cells p (Turned name turn) = tests_at K cells p name.place

  -- how many cells of a side's stream pass the test of their direction, on its queues and in what else its modules hold, and how many
  -- of a pair
  abbrev pub stream_weight : (Dir → C → Bool) → Side → Stream C → ℕ
  stream_weight p side t =
      weight (p (direction_at Up side)) t.head.queue.messages + (modules_weight p side t.modules + weight (p (direction_at Down side)) t.driver.queue.messages)

  abbrev pub state_weight : (Dir → C → Bool) → State C → ℕ
  state_weight p s = stream_weight p Master (stream Master s) + stream_weight p Slave (stream Slave s)

  -- A side that isn't open has nothing for its readers. A head that is opened is as new, so else it could lose bytes.
  abbrev pub NothingUnread : State C → Type 0
  NothingUnread s = AllSides (λ side t. is_open t.opened ≡ false → t.head.queue.messages ≡ []) s.ends

  -- Between turns no module of a stream has anything of a turn under way.
  abbrev pub AreIdle : State C → Type 0
  AreIdle s = AllSides (λ side t. AllByRecursion (λ p. IsAtRest p) t.modules) s.ends

  -- the cells that an entry brings: what a write takes, and what a putmsg sends
  abbrev pub came : Behaviour → Cells C → State C → PlainEntry → List C
  came K cells s (Called caller asked answer) = (called K cells caller asked s).came
  came K cells s (Turned name turn) = []

  -- how many of them pass the test of their direction
  abbrev pub count_came : Behaviour → Cells C → (Dir → C → Bool) → State C → PlainEntry → ℕ
  count_came K cells p s (Called caller asked answer) = count_by (p (direction_from caller.side)) (came K cells s (Called caller asked answer))
  count_came K cells p s (Turned name turn) = 0

  -- what an entry takes away, by its rules: what a read or a get gives, what a flush or a close takes, and what goes on its way;
  -- and what is made on the way
  abbrev pub gone : Behaviour → Cells C → State C → PlainEntry → List (Fate C)
  gone K cells s (Called caller asked answer) = (called K cells caller asked s).gone
  gone K cells s (Turned name turn) = (turned K cells name turn s).gone

  -- what entries let go, one after the other, told by its rules, and what they make
  abbrev pub told_by : Behaviour → Cells C → State C → List PlainEntry → Fates → Fates
  told_by K cells s [] fates = fates
  told_by K cells s (entry ∷ entries) fates = told_by K cells (after K cells s entry) entries (tallied (gone K cells s entry) fates)
