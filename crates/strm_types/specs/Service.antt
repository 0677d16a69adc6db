-- Service procedures of modules, the ends of their turns, and what a module lets go that is taken off its stream (srv(9E);
-- getq(9F); STREAMS Programming Guide, "Service Procedures"; streamio(7I): I_POP; close(2)).
use Rattle.std.specs.Prelude.{ℕ, ◌+◌, ◌*◌, Bool, ◌&&◌, false, not, if◌then◌else◌, List, [], ◌∷◌, ◌++◌, Option, None, Some}
use Rattle.strm_types.specs.declared.names.Side.{Side}
use Rattle.strm_types.specs.declared.names.Way.{Way}
use Rattle.strm_types.specs.declared.names.Way.TheVariants.{Up, Down}
use Rattle.strm_types.specs.declared.rules.Rule.{Rule}
use Rattle.strm_types.specs.declared.spots.Note.TheVariants.{Room}
use Rattle.strm_types.specs.Deliver.{Acted, Fate, Goes}
use Rattle.strm_types.specs.Emptied.{of_all, cells_gone, queue_behind, writer_goes}
use Rattle.strm_types.specs.Names.{direction_at}
use Rattle.strm_types.specs.Queue.{Queue, relieved, relieves}
use Rattle.strm_types.specs.Queue.{is_none_left}
use Rattle.strm_types.specs.Standings.{QueuePair, Standing, messages_at, way_queue, with_way_queue}

-- What one call of a service procedure does: what a put does, how many bytes of the first message were treated, and
-- whether it is to be called again in the same turn, once what it sent is delivered.
pub record Serving (C S : Type 0) : Type 0 where
  pub acted : Acted C S
  pub bytes : ℕ
  pub again : Bool

-- how many bytes an echo has at most: KILL rubs out 255 TABs of 8 columns, by three bytes a column
abbrev pub echo_most : ℕ
echo_most = 6120

-- how many bytes a call makes at most that treats so many: an echo for each stage of these
abbrev pub most_made : ℕ → ℕ
most_made bytes = echo_most * (3 * bytes + 2)

-- a call of a service procedure where there is none: nothing is done
abbrev pub unserved : {C P : Type 0} → P → Serving C P
unserved p = record { acted = record { state = p; notes = []; sent = []; gone = [] }; bytes = 0; again = false }

module _ {C : Type 0} where
  -- The queue at the end of a turn: it wants to be read where nothing stands there, and where bytes were taken its waiting
  -- writers are let go. A turn that may not treat the first message ends so too.
  abbrev pub turn_ended : Bool → Queue C → Queue C
  turn_ended took q =
      let after = record q { want_read = is_none_left q.messages } in
      if took then relieved after else after

  -- whether that lets a writer go
  abbrev pub turn_relieves : Bool → Queue C → Bool
  turn_relieves took q = took && relieves q

module _ {P C : Type 0} where
  -- whether the end of a turn of a module's queue lets a writer go
  abbrev pub end_relieves : Bool → Way → Standing P C → Bool
  end_relieves took way x = by x.queues
    where
      by : Option (QueuePair C) → Bool
      by None = false
      by (Some pair) = turn_relieves took (way_queue way pair)

  -- whether messages stand on a module's queue
  abbrev pub has_more : Way → Standing P C → Bool
  has_more way x = not (is_none_left (messages_at way x))

-- the cells of an unfinished line of input, where there are any; it came up
abbrev pub line_gone : {C : Type 0} → Side → Rule → List C → List (Fate C)
line_gone side rule [] = []
line_gone side rule cells = Goes (direction_at Up side) rule cells ∷ []

-- what a module of one kind does, as a module of any kind does it
abbrev pub done_by : {C P Q : Type 0} → (P → Q) → Acted C P → Acted C Q
done_by made t = record { state = made t.state; notes = t.notes; sent = t.sent; gone = t.gone }

abbrev pub served_by : {C P Q : Type 0} → (P → Q) → Serving C P → Serving C Q
served_by made t = record { acted = done_by made t.acted; bytes = t.bytes; again = t.again }

-- what a module without queues does, where it stands
abbrev pub acts_alone : {P C : Type 0} → (P → Acted C P) → Standing P C → Acted C (Standing P C)
acts_alone act x = done_by (λ p. record { part = p; queues = x.queues }) (act x.part)

module _ {C : Type 0} where
  -- queues without what stood on the one of a way, where there are any
  abbrev pub queues_cleared : Side → Rule → Way → Option (QueuePair C) → Acted C (Option (QueuePair C))
  queues_cleared side rule way None = record { state = None; notes = []; sent = []; gone = [] }
  queues_cleared side rule way (Some pair) =
      let q = way_queue way pair in
      record {
        state = Some (with_way_queue way (queue_behind of_all q) pair);
        notes = if writer_goes of_all q then Room way ∷ [] else [];
        sent = [];
        gone = Goes (direction_at way side) rule (cells_gone of_all q.messages) ∷ [];
      }

module _ {P C : Type 0} (line_of : P → List C) (without_line : P → P) where
  -- A module that is taken off a side's stream: what stands on its read queue goes, then its unfinished line, then what
  -- stands on its write queue. Queues before them have room again where that lets a writer go.
  abbrev pub cleared : Side → Rule → Standing P C → Acted C (Standing P C)
  cleared side rule x =
      let above = queues_cleared side rule Up x.queues in
      let below = queues_cleared side rule Down above.state in
      record {
        state = record { part = without_line x.part; queues = below.state };
        notes = above.notes ++ below.notes;
        sent = [];
        gone = above.gone ++ (line_gone side rule (line_of x.part) ++ below.gone);
      }
