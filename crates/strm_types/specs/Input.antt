-- Turns of ldterm's queues (ldterm(7M); srv(9E); STREAMS Programming Guide, "Service Procedures").
use Rattle.std.specs.Prelude.{ℕ, zero, suc, ◌+◌, ◌-◌, ◌*◌, Bool, true, false, if◌then◌else◌, List, [], ◌∷◌, ◌++◌, length, Option, None, Some, is_some, unwrap_or, option_map}
use Rattle.strm_types.specs.declared.kinds.MsgKind.{MsgKind}
use Rattle.strm_types.specs.declared.kinds.MsgKind.TheVariants.{Data}
use Rattle.strm_types.specs.declared.names.Way.{Way}
use Rattle.strm_types.specs.declared.names.Way.TheVariants.{Up, Down}
use Rattle.strm_types.specs.declared.spots.Spot.{Spot}
use Rattle.strm_types.specs.Cells.{Cells}
use Rattle.strm_types.specs.Deliver.{Acted, Fate, Goes, Comes, onward}
use Rattle.strm_types.specs.Ldterms.{Discipline, Stage, Between, Begun, Answered, queue_at, with_queue_at, sends}
use Rattle.strm_types.specs.Message.{Message, cells_of, size_of}
use Rattle.strm_types.specs.Queue.{Queue, is_none_left, left_with, put_back}
use Rattle.strm_types.specs.Service.{Serving}
use Rattle.strm_types.specs.Typing.{begins, struck, echoed, gathered_up}

abbrev pub is_data : MsgKind → Bool
is_data Data = true
is_data _ = false

-- how many cells were made, of what is told
abbrev pub made_of : {C : Type 0} → List (Fate C) → ℕ
made_of [] = 0
made_of (Comes dir cells ∷ told) = length cells + made_of told
made_of (Goes dir rule cells ∷ told) = made_of told

module _ {C : Type 0} where
  -- One thing after another, as long as nothing is sent: what is sent is delivered first. Each is told how many cells were made before.
  abbrev pub then_on : ℕ → Acted C (Discipline C) → (ℕ → Discipline C → Acted C (Discipline C)) → Acted C (Discipline C)
  then_on made t next = if is_none_left t.sent then joined (next (made + made_of t.gone) t.state) else t
    where
      joined : Acted C (Discipline C) → Acted C (Discipline C)
      joined u = record { state = u.state; notes = t.notes ++ u.notes; sent = u.sent; gone = t.gone ++ u.gone }

  -- what is left of a message that is taken byte by byte
  abbrev pub left_of : List C → Message C → Message C
  left_of rest m = record m { control = None; body = Some rest }

  -- the message in work with less left of it
  abbrev pub with_left : List C → Discipline C → Discipline C
  with_left rest p = record p { in_work = option_map (left_of rest) p.in_work }

  -- what is left of the message in work, once a turn ends, goes back to the front of its queue
  abbrev pub back_on : Option (Message C) → Queue C → Queue C
  back_on None q = q
  back_on (Some m) q = if is_none_left (cells_of m) then q else record q { messages = put_back m q.messages }

  -- the cells of the message in work
  abbrev pub cells_left : Discipline C → List C
  cells_left p = cells_in p.in_work
    where
      cells_in : Option (Message C) → List C
      cells_in None = []
      cells_in (Some m) = cells_of m

  -- how many bytes of it are still to be treated, the one that has begun among them
  abbrev pub to_treat : Discipline C → ℕ
  to_treat p = length (cells_left p) + begun p.stage
    where
      begun : Stage C → ℕ
      begun Between = 0
      begun _ = 1

  -- how many of the three stages of a byte are done
  abbrev pub stages_done : Stage C → ℕ
  stages_done Between = 0
  stages_done (Begun started c) = 1
  stages_done (Answered echo) = 2

module _ {C : Type 0} (cells : Cells C) (here : Spot) where
  -- the end of a turn: what was gathered goes up, and what is left of the message goes back
  abbrev pub finished : Discipline C → Acted C (Discipline C)
  finished p =
      sends (gathered_up cells here p.gathered) (record p {
        gathered = [];
        echoing = false;
        stage = Between;
        in_work = None;
        read_queue = back_on p.in_work p.read_queue;
      })

  -- The next stage of a turn: the next byte of the message begins, or the byte that has begun does what its key does, or it is echoed.
  -- So many cells were made before in the direction of the echo.
  abbrev pub begins_next : List C → Discipline C → Acted C (Discipline C)
  begins_next [] p = sends [] p
  begins_next (c ∷ rest) p = begins cells here c (with_left rest p)

  abbrev pub stage_at : Stage C → ℕ → Discipline C → Acted C (Discipline C)
  stage_at Between made p = begins_next (cells_left p) p
  stage_at (Begun started c) made p = struck cells here started c p
  stage_at (Answered echo) made p = echoed cells here made echo (record p { stage = Between })

  abbrev pub next_stage : ℕ → Discipline C → Acted C (Discipline C)
  next_stage made p = stage_at p.stage made p

  -- So many stages, and then the end of the turn; up to the first one that sends something.
  abbrev pub stages : ℕ → ℕ → Discipline C → Acted C (Discipline C)
  stages zero made p = finished p
  stages (suc more) made p = then_on made (next_stage made p) (stages more)

  -- A call of the service procedure, which treats so many bytes more at most, the one that has begun among them. It ends as soon as
  -- something is sent, to be called again once that is delivered.
  abbrev pub treats : ℕ → ℕ → Discipline C → Serving C (Discipline C)
  treats bytes made p =
      let t = stages (3 * bytes - stages_done p.stage) made p in
      let again = is_some t.state.in_work in
      record { acted = t; bytes = if again then to_treat p - to_treat t.state else bytes; again = again }

  -- a message that passes whole
  abbrev pub passes : Way → Message C → List (Message C) → Discipline C → Serving C (Discipline C)
  passes way m rest p = record {
    acted = sends (onward way here m ∷ []) (with_queue_at way (left_with rest (queue_at way p)) p);
    bytes = size_of m;
    again = false;
  }

  -- nothing stands there
  abbrev pub nothing_served : Discipline C → Serving C (Discipline C)
  nothing_served p = record { acted = sends [] p; bytes = 0; again = false }

  -- A turn of the read queue begins: M_DATA is treated byte by byte, as far as the turn goes, and all else goes up whole.
  abbrev pub input_begins : Option ℕ → ℕ → List (Message C) → Discipline C → Serving C (Discipline C)
  input_begins stop made [] p = nothing_served p
  input_begins stop made (m ∷ rest) p =
      if is_data m.kind
      then treats (unwrap_or stop (length (cells_of m))) made (record p { read_queue = left_with rest p.read_queue; in_work = Some m })
      else passes Up m rest p

  -- What stands first on the write queue goes down whole.
  abbrev pub output_passes : List (Message C) → Discipline C → Serving C (Discipline C)
  output_passes [] p = nothing_served p
  output_passes (m ∷ rest) p = passes Down m rest p
