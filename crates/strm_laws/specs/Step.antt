-- Steps of a pair, and the replay of a journal.
use Rattle.std.specs.Prelude.{◌≡◌, true, List, [], ◌∷◌, None}
use Rattle.strm_laws.specs.Prelude.{Caller, QueueName, Turn, Called, Turned, Cells, is_enabled, Request, Reply, PlainEntry, or_else}
use Rattle.strm_laws.specs.Behaviours.{Behaviour}
use Rattle.strm_laws.specs.State.{State}
use Rattle.strm_laws.specs.Turns.{turned}
use Rattle.strm_laws.specs.Calls.{called}
use Rattle.strm_laws.specs.Refusals.{in_range, refused_at_once, refused_by_state}

module _ {C : Type 0} (K : Behaviour) (cells : Cells C) where
  -- a call that nothing but the journal's room or the pool could refuse, with this answer, from one state to another
  pub record IsCall (old : State C) (caller : Caller) (asked : Request) (answer : Reply) (new : State C) : Type 0 where
    pub allowed : or_else (refused_at_once old caller asked) (refused_by_state K old caller asked) ≡ None
    pub answered : (called K cells caller asked old).answer ≡ answer
    pub leads : (called K cells caller asked old).state ≡ new

  -- a turn of an enabled queue while no book is full, with this answer, from one state to another
  pub record IsTurn (old : State C) (name : QueueName) (turn : Turn) (new : State C) : Type 0 where
    pub enabled : is_enabled name old.enabled ≡ true
    pub in_range : in_range old ≡ true
    pub answered : (turned K cells name turn old).turn ≡ turn
    pub leads : (turned K cells name turn old).state ≡ new

  -- an entry leads from one state to another
  abbrev pub Step : State C → PlainEntry → State C → Type 0
  Step old (Called caller asked answer) new = IsCall old caller asked answer new
  Step old (Turned name turn) new = IsTurn old name turn new

  -- the state behind an entry
  abbrev pub after : State C → PlainEntry → State C
  after s (Called caller asked answer) = (called K cells caller asked s).state
  after s (Turned name turn) = (turned K cells name turn s).state

  -- the state to which entries lead
  abbrev pub replay : State C → List PlainEntry → State C
  replay s [] = s
  replay s (entry ∷ entries) = replay (after s entry) entries

  -- each entry is a step with the answer that it stores
  abbrev pub IsLegal : State C → List PlainEntry → Type 0
  IsLegal s [] = Unit {0}
  IsLegal s (entry ∷ entries) = Step s entry (after s entry) × IsLegal (after s entry) entries
