-- The module ldterm on a stream: its queues, its unfinished line, and what it does with what is put at it (ldterm(7M); STREAMS
-- Programming Guide, "Flush Handling").
use Rattle.std.specs.Prelude.{ℕ, ◌≡◌, Bool, true, false, ◌&&◌, ◌==◌, nat_lt, not, if◌then◌else◌, List, [], ◌∷◌, ◌++◌, Option, None, Some}
use Rattle.strm_types.specs.declared.flushing.FlushAsked.{FlushAsked}
use Rattle.strm_types.specs.declared.kinds.Band.{Band}
use Rattle.strm_types.specs.declared.kinds.MsgKind.{MsgKind}
use Rattle.strm_types.specs.declared.kinds.MsgKind.TheVariants.{Data, Proto}
use Rattle.strm_types.specs.declared.names.Way.{Way}
use Rattle.strm_types.specs.declared.names.Way.TheVariants.{Up, Down}
use Rattle.strm_types.specs.declared.rules.Rule.TheVariants.{Flushed}
use Rattle.strm_types.specs.declared.spots.Note.TheVariants.{Enable, Room}
use Rattle.strm_types.specs.declared.spots.Spot.{Spot}
use Rattle.strm_types.specs.declared.termios.Termios.{Termios}
use Rattle.strm_types.specs.Deliver.{Acted, Parcel, Goes, onward}
use Rattle.strm_types.specs.Emptied.{of_data, cells_gone, queue_behind, writer_goes}
use Rattle.strm_types.specs.Flushing.{asked_by}
use Rattle.strm_types.specs.Message.{Message}
use Rattle.strm_types.specs.Names.{direction_at}
use Rattle.strm_types.specs.Queue.{Queue, put_on, put_enables}
use Rattle.strm_types.specs.Service.{line_gone}
use Rattle.strm_types.specs.Standings.{QueuePair, way_queue, with_way_queue}
use Rattle.strm_types.specs.Termios.{first_termios}

-- How far a turn has come with a byte: it is between two bytes; or a byte has begun, and it has started output (true) or hasn't; or
-- what the byte sends has gone, and these bytes are its echo.
pub data Stage (C : Type 0) : Type 0 where
  Between : Stage C
  Begun : Bool → C → Stage C
  Answered : List ℕ → Stage C

-- whether nothing of a turn is under way: no message in work, nothing that waits to go up, no echo that grows, and no byte that has begun
abbrev pub is_between : {C : Type 0} → Stage C → Bool
is_between Between = true
is_between _ = false

-- What it is set to; whether its output is stopped, and whether the next byte stands behind LNEXT; the column of its output; the unfinished line. In a turn
-- of its read queue also what is left of the message in work, the bytes that wait to go up together, whether the turn's echo stands last on the write queue,
-- and how far the turn has come.
pub record Ldterm (C : Type 0) : Type 0 where
  pub termios : Termios
  pub stopped : Bool
  pub after_lnext : Bool
  pub column : ℕ
  pub line : List C
  pub in_work : Option (Message C)
  pub gathered : List C
  pub echoing : Bool
  pub stage : Stage C

-- The line discipline: the module with the queues that its stream gives it, as its procedures act on both.
pub record Discipline (C : Type 0) : Type 0 where
  pub termios : Termios
  pub stopped : Bool
  pub after_lnext : Bool
  pub column : ℕ
  pub line : List C
  pub read_queue : Queue C
  pub write_queue : Queue C
  pub in_work : Option (Message C)
  pub gathered : List C
  pub echoing : Bool
  pub stage : Stage C

-- whether a flush takes band 0
abbrev pub takes_band_0 : Option Band → Bool
takes_band_0 None = true
takes_band_0 (Some band) = band.0 == 0

-- the kinds that wait on its queues: M_DATA and M_PROTO
abbrev pub waits_there : MsgKind → Bool
waits_there Data = true
waits_there Proto = true
waits_there _ = false

module _ {C : Type 0} where
  -- one as it is pushed
  abbrev pub new_ldterm : Ldterm C
  new_ldterm = record {
    termios = first_termios;
    stopped = false;
    after_lnext = false;
    column = 0;
    line = [];
    in_work = None;
    gathered = [];
    echoing = false;
    stage = Between;
  }

  -- the module with its queues, and each of both again
  abbrev pub discipline : Ldterm C → QueuePair C → Discipline C
  discipline l pair = record {
    termios = l.termios;
    stopped = l.stopped;
    after_lnext = l.after_lnext;
    column = l.column;
    line = l.line;
    read_queue = pair.read;
    write_queue = pair.write;
    in_work = l.in_work;
    gathered = l.gathered;
    echoing = l.echoing;
    stage = l.stage;
  }

  abbrev pub by_itself : Discipline C → Ldterm C
  by_itself p = record {
    termios = p.termios;
    stopped = p.stopped;
    after_lnext = p.after_lnext;
    column = p.column;
    line = p.line;
    in_work = p.in_work;
    gathered = p.gathered;
    echoing = p.echoing;
    stage = p.stage;
  }

  abbrev pub pair_of : Discipline C → QueuePair C
  pair_of p = record { read = p.read_queue; write = p.write_queue }

  -- Nothing of a turn is under way: no message is in work, nothing waits to go up, no echo grows, and no byte has begun.
  abbrev pub Rests : Ldterm C → Type 0
  Rests l = (l.in_work ≡ None) × (l.gathered ≡ []) × (l.echoing ≡ false) × (l.stage ≡ Between)

  abbrev pub IsIdle : Discipline C → Type 0
  IsIdle p = Rests (by_itself p)

  -- its queues
  abbrev pub queue_at : Way → Discipline C → Queue C
  queue_at way p = way_queue way (pair_of p)

  abbrev pub with_queue_at : Way → Queue C → Discipline C → Discipline C
  with_queue_at way q p = discipline (by_itself p) (with_way_queue way q (pair_of p))

  -- without its unfinished line
  abbrev pub lineless : Ldterm C → Ldterm C
  lineless l = record l { line = [] }

  abbrev pub without_line : Discipline C → Discipline C
  without_line p = discipline (lineless (by_itself p)) (pair_of p)

  -- nothing happens but that messages are sent on
  abbrev pub sends : List (Parcel C) → Discipline C → Acted C (Discipline C)
  sends sent p = record { state = p; notes = []; sent = sent; gone = [] }

  -- A message of band 0 that waits to go down stands behind the turn's echo, so that a new one begins.
  abbrev pub echo_behind : Way → Message C → Discipline C → Discipline C
  echo_behind Up m p = p
  echo_behind Down m p = record p { echoing = p.echoing && nat_lt 0 m.band }

  -- a message that waits on a queue, which it enables as putq(9F) says
  abbrev pub queued_at : Way → Message C → Discipline C → Acted C (Discipline C)
  queued_at way m p =
      let q = queue_at way p in
      record {
        state = with_queue_at way (put_on m q) (echo_behind way m p);
        notes = if put_enables m q then Enable way ∷ [] else [];
        sent = [];
        gone = [];
      }

  -- one after the other; what the first one sends goes first
  abbrev pub both : Acted C (Discipline C) → (Discipline C → Acted C (Discipline C)) → Acted C (Discipline C)
  both t next =
      let u = next t.state in
      record { state = u.state; notes = t.notes ++ u.notes; sent = t.sent ++ u.sent; gone = t.gone ++ u.gone }

  -- A queue is flushed. The echo of a turn under way goes with band 0 of the write queue, so that a new one begins.
  abbrev pub queue_flushed : Way → Spot → Option Band → Discipline C → Acted C (Discipline C)
  queue_flushed way here band p =
      let q = queue_at way p in
      let chosen = of_data band in
      record {
        state = with_queue_at way (queue_behind chosen q) p;
        notes = if writer_goes chosen q then Room way ∷ [] else [];
        sent = [];
        gone = Goes (direction_at way here.side) Flushed (cells_gone chosen q.messages) ∷ [];
      }

  -- the unfinished line goes, where a flush takes band 0
  abbrev pub line_flushed : Spot → Option Band → Discipline C → Acted C (Discipline C)
  line_flushed here band p =
      if takes_band_0 band then record (sends [] (without_line p)) { gone = line_gone here.side Flushed p.line } else sends [] p

  -- FLUSHR: what waits to go up, with the line. FLUSHW: what waits to go down, with the echo.
  abbrev pub read_flushed : Spot → FlushAsked → Discipline C → Acted C (Discipline C)
  read_flushed here asked p =
      if asked.for_read then both (queue_flushed Up here asked.band p) (line_flushed here asked.band) else sends [] p

  abbrev pub write_flushed : Spot → FlushAsked → Discipline C → Acted C (Discipline C)
  write_flushed here asked p =
      if asked.for_write
      then queue_flushed Down here asked.band (record p { echoing = p.echoing && not (takes_band_0 asked.band) })
      else sends [] p

  -- An M_FLUSH is obeyed, and goes on.
  abbrev pub flush_passes : Spot → Message C → Discipline C → Acted C (Discipline C)
  flush_passes here m p =
      let asked = asked_by m.plain in
      both (both (read_flushed here asked p) (write_flushed here asked)) (sends (onward here.way here m ∷ []))
