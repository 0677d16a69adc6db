-- The queue of a stream head behind a getmsg(2) or getpmsg(2), and what goes by it.
use Rattle.std.specs.Prelude.{ℕ, Bool, true, false, not, ◌&&◌, if◌then◌else◌, List, [], ◌∷◌, ◌++◌}
use Rattle.strm_types.specs.declared.modes.Wanted.{Wanted}
use Rattle.strm_types.specs.declared.names.Dir.{Dir}
use Rattle.strm_types.specs.declared.rules.Fates.{Fates}
use Rattle.strm_types.specs.declared.rules.Rule.TheVariants as rules
use Rattle.strm_types.specs.Deliver.{Fate, Goes, tallied}
use Rattle.strm_types.specs.Gets.{Got, is_wanted, head_get}
use Rattle.strm_types.specs.Message.{Message, part}
use Rattle.strm_types.specs.Queue.{Queue, left_with, relieved, relieves}
use Rattle.strm_types.specs.Reads.{no_cells}

module _ {C : Type 0} where
  -- whether a get has nothing to take, and so changes nothing: there is no message, or the first isn't the one that is asked for
  abbrev pub gets_none : Wanted → List (Message C) → Bool
  gets_none wanted [] = true
  gets_none wanted (m ∷ q) = not (is_wanted wanted m)

  -- the cells that a get gives: those of the control part, then those of the data part
  abbrev pub cells_got : Got C → List C
  cells_got g = part g.control ++ part g.body

  -- whether no byte goes by a get
  abbrev pub none_got : Got C → Bool
  none_got g = no_cells (part g.control) && no_cells (part g.body)

  -- the head's queue behind a get that took a message: where bytes went, its waiting writers are let go
  abbrev pub queue_got : Got C → Queue C → Queue C
  queue_got g q = if none_got g then left_with g.left q else relieved (left_with g.left q)

  abbrev pub get_queue : Wanted → ℕ → ℕ → Queue C → Queue C
  get_queue wanted cmax dmax q = if gets_none wanted q.messages then q else queue_got (head_get wanted cmax dmax q.messages) q

  -- whether a get lets a writer go
  abbrev pub writer_let_go : Got C → Queue C → Bool
  writer_let_go g q = if none_got g then false else relieves (left_with g.left q)

  abbrev pub get_lets_go : Wanted → ℕ → ℕ → Queue C → Bool
  get_lets_go wanted cmax dmax q = if gets_none wanted q.messages then false else writer_let_go (head_get wanted cmax dmax q.messages) q

  -- what goes by a get, which a reader has then: nothing where it has nothing to take
  abbrev pub get_gone : Dir → Wanted → ℕ → ℕ → List (Message C) → List (Fate C)
  get_gone dir wanted cmax dmax q =
      if gets_none wanted q then [] else Goes dir rules.Read (cells_got (head_get wanted cmax dmax q)) ∷ []

  abbrev pub get_told : Dir → Wanted → ℕ → ℕ → List (Message C) → Fates → Fates
  get_told dir wanted cmax dmax q fates = tallied (get_gone dir wanted cmax dmax q) fates
