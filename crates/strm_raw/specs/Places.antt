-- Where on a list a message of a rank belongs.
use Rattle.std.specs.Prelude.{ℕ, ◌≡◌, ◌≤◌, ◌<◌, if◌then◌else◌, List, ◌++◌, Option, None, MatchOption}
use Rattle.std.specs.List.{AllByRecursion}
use Rattle.strm_types.specs.Ranked as ranked
use Rattle.strm_types.specs.Message.{is_high_priority}
use Rattle.strm_types.specs.declared.kinds.MsgKind.{MsgKind}
use Rattle.strm_raw.specs.Numbered.{Row, row_at}
use Rattle.strm_raw.specs.Roster.{Msg}
use Rattle.strm_raw.specs.Lists.{end_of, begin_of, pick}
use Rattle.strm_raw.specs.declared.neighbours.Course.{Course}
use Rattle.strm_raw.specs.declared.neighbours.Course.TheVariants.{On, Back}

-- 256 for high priority, else the band
abbrev pub rank_by : MsgKind → ℕ → ℕ
rank_by kind band = if is_high_priority kind then 256 else band

-- the rank of the message that begins with a block, and of a message
abbrev pub rank_at : List Row → ℕ → ℕ
rank_at rows i = rank_by (row_at i rows).kind (row_at i rows).band

abbrev pub msg_rank : List Row → Msg → ℕ
msg_rank rows m = rank_at rows m.head

-- what a walk in a course has passed of a list, what is left of it, and the place between the two
abbrev pub passed_in : Course → List Msg → List Msg → List Msg
passed_in c front rear = pick c front rear

abbrev pub left_in : Course → List Msg → List Msg → List Msg
left_in c front rear = pick c rear front

abbrev pub place_in : Course → List Msg → List Msg → Option ℕ
place_in c front rear = pick c (begin_of rear) (end_of None front)

-- A place, or the end of the list, before which in a course each message passes a test, where the message that stands there stops.
pub record StopsAt (c : Course) (passes stops : ℕ → Type 0) (q : List Msg) (p : Option ℕ) : Type 0 where
  pub front : List Msg
  pub rear : List Msg
  pub joined : q ≡ front ++ rear
  pub place : p ≡ place_in c front rear
  pub passed : AllByRecursion (λ m. passes m.head) (passed_in c front rear)
  pub stopped : MatchOption p (Unit {0}) stops

-- On a walk on, a new message passes those of a higher rank, and on a walk back those of a lower one.
abbrev pub Passes : Course → ℕ → ℕ → Type 0
Passes On r rank = r < rank
Passes Back r rank = rank < r

abbrev pub Stops : Course → ℕ → ℕ → Type 0
Stops On r rank = rank ≤ r
Stops Back r rank = r ≤ rank

abbrev pub RanksAt : Course → List Row → ℕ → List Msg → Option ℕ → Type 0
RanksAt c rows r q p = StopsAt c (λ i. Passes c r (rank_at rows i)) (λ i. Stops c r (rank_at rows i)) q p

-- a list with a new member at the place of its rank, as a walk in a course comes to it
abbrev pub put_by : {A : Type 0} → Course → (A → ℕ) → A → List A → List A
put_by On = ranked.put_back
put_by Back = ranked.put
