-- Where the cells are that ldterm holds: on its queues and in its unfinished line, and in a turn of its read queue also in the
-- message in work, as the byte that has begun, and among those that wait to go up together. Those on its queues are its stream's.
use Rattle.std.specs.Prelude.{ℕ, ◌≡◌, ◌+◌, ◌*◌, ◌≤◌, Bool, true, false, [], ◌∷◌, count_by, Option, None, Some, unwrap_or}
use Rattle.strm_laws.specs.Prelude.{Dir, Side, Way, Up, Down, Cells, Acted, stages_done, to_treat, Discipline, Stage, Between, Begun, Answered}
use Rattle.strm_laws.specs.Prelude.{Message, weight_of, direction_at, weight, is_none_left}
use Rattle.strm_types.specs.Ldterms.{Ldterm}
use Rattle.strm_laws.specs.Places.{weight_sent, weight_gone, weight_made}

-- how many cells of a message, if there is one, pass a test
abbrev pub weight_in_work : {C : Type 0} → (C → Bool) → Option (Message C) → ℕ
weight_in_work p None = 0
weight_in_work p (Some m) = weight_of p m

-- Tests on the cells of each direction: on a side's stream input comes up and output goes down.
module _ {C : Type 0} (p : Dir → C → Bool) (side : Side) where
  abbrev up_test : C → Bool
  up_test = p (direction_at Up side)

  -- how many cells of the byte that has begun pass a test
  abbrev pub weight_begun : Stage C → ℕ
  weight_begun Between = 0
  weight_begun (Begun started c) = count_by up_test (c ∷ [])
  weight_begun (Answered echo) = 0

  -- how many of those that are its own
  abbrev pub own_weight : Ldterm C → ℕ
  own_weight l = weight_begun l.stage + (count_by up_test l.line + (count_by up_test l.gathered + weight_in_work up_test l.in_work))

  -- of all but the byte that has begun
  abbrev pub weight_beside : Discipline C → ℕ
  weight_beside l =
      weight up_test l.read_queue.messages
      + (count_by up_test l.line + (count_by up_test l.gathered + (weight_in_work up_test l.in_work + weight (p (direction_at Down side)) l.write_queue.messages)))

  abbrev pub ldterm_weight : Discipline C → ℕ
  ldterm_weight l = weight_begun l.stage + weight_beside l

  -- What ldterm does where it holds so many cells, with those that come to it, loses none, and makes none but those that it tells.
  abbrev pub ActedKeeps : Acted C (Discipline C) → ℕ → Type 0
  ActedKeeps t n = ldterm_weight t.state + (weight_sent p t.sent + weight_gone p t.gone) ≡ n + weight_made p t.gone

-- tests that say the same of a cell with another byte
abbrev pub IgnoresMapping : {C : Type 0} → Cells C → (Dir → C → Bool) → Type 0
IgnoresMapping {C} cells p = (direction : Dir) (b : ℕ) (c : C) → p direction (cells.mapped b c) ≡ p direction c

module _ {C : Type 0} where
  -- the turn's echo is a message of the write queue
  abbrev pub EchoStands : Discipline C → Type 0
  EchoStands l = l.echoing ≡ true → is_none_left l.write_queue.messages ≡ false

  -- A call of the service procedure of a queue: where a turn of the read queue begins, no message is in work and no byte has begun.
  -- Where it goes on, the byte that has begun is among those that it may treat.
  abbrev pub MayServe : Way → Bool → Option ℕ → Discipline C → Type 0
  MayServe Down again stop l = Unit {0}
  MayServe Up false stop l = (l.in_work ≡ None) × (l.stage ≡ Between)
  MayServe Up true stop l = stages_done l.stage ≤ 3 * unwrap_or stop (to_treat l)
