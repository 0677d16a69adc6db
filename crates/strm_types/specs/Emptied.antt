-- What flushes and closes take from one queue: which messages go, what stays, and whether a waiting writer is let go (flushq(9F),
-- flushband(9F), streamio(7I): I_FLUSH; close(2); STREAMS Programming Guide, "Flush Handling").
use Rattle.std.specs.Prelude.{ℕ, Bool, true, false, not, ◌||◌, ◌==◌, if◌then◌else◌, List, [], ◌∷◌, ◌++◌, filter, Option, None, option_map}
use Rattle.strm_types.specs.declared.kinds.Band.{Band}
use Rattle.strm_types.specs.declared.kinds.MsgKind.{MsgKind}
use Rattle.strm_types.specs.Message.{Message, cells_of}
use Rattle.strm_types.specs.Queue.{Queue, bytes_of, is_none_left, relieved, relieves}
use Rattle.strm_types.specs.Flush.{is_flushed}

-- which messages go, by their kind and their band
abbrev pub Choice : Type 0
Choice = MsgKind → ℕ → Bool

-- those that a flush takes, of one band or of all: FLUSHDATA
abbrev pub of_data : Option Band → Choice
of_data band = is_flushed false (option_map (λ b. b.0) band)

-- all messages: FLUSHALL
abbrev pub of_all : Choice
of_all = is_flushed true None

module _ {C : Type 0} where
  -- what stays of some messages
  abbrev pub stayed : Choice → List (Message C) → List (Message C)
  stayed chosen ms = filter (λ m. not (chosen m.kind m.band)) ms

  -- the cells of those that go
  abbrev pub cells_gone : Choice → List (Message C) → List C
  cells_gone chosen [] = []
  cells_gone chosen (m ∷ ms) = (if chosen m.kind m.band then cells_of m else []) ++ cells_gone chosen ms

  -- the queue without those that go: it wants to be read where it is empty now
  abbrev pub emptied : Choice → Queue C → Queue C
  emptied chosen q =
      let rest = stayed chosen q.messages in
      record q { messages = rest; want_read = q.want_read || is_none_left rest }

  -- whether no byte goes
  abbrev pub none_goes : Choice → Queue C → Bool
  none_goes chosen q = bytes_of (stayed chosen q.messages) == bytes_of q.messages

  -- the queue behind that: where bytes went, its waiting writers are let go
  abbrev pub queue_behind : Choice → Queue C → Queue C
  queue_behind chosen q = if none_goes chosen q then emptied chosen q else relieved (emptied chosen q)

  -- whether that lets a writer go
  abbrev pub writer_goes : Choice → Queue C → Bool
  writer_goes chosen q = if none_goes chosen q then false else relieves (emptied chosen q)
