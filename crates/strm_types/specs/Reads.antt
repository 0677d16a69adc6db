-- What a read takes from a stream head, in each read mode and control mode (read(2); streamio(7I): I_SRDOPT with RNORM, RMSGN,
-- RMSGD, RPROTNORM, RPROTDAT, RPROTDIS).
use Rattle.std.specs.Prelude.{ℕ, ◌≡◌, Bool, true, false, ◌==◌, ◌||◌, ◌&&◌, ◌-◌, nat_lt, if◌then◌else◌, List, [], ◌∷◌, ◌++◌, length, map, take, drop, Option, None, Some}
use Rattle.strm_types.specs.declared.kinds.MsgKind.TheVariants as kinds
use Rattle.strm_types.specs.declared.modes.ReadMode.{ReadMode}
use Rattle.strm_types.specs.declared.modes.ReadMode.TheVariants.{ByteStream, MessageKeep, MessageDiscard}
use Rattle.strm_types.specs.declared.modes.ControlMode.{ControlMode}
use Rattle.strm_types.specs.declared.modes.ControlMode.TheVariants.{Refuse, Data, Discard}
use Rattle.strm_types.specs.declared.refusals.Refusal.{Refusal}
use Rattle.strm_types.specs.declared.refusals.Refusal.TheVariants.{Eagain, Ebadmsg}
use Rattle.strm_types.specs.Message.{Message, part, cells_of, band_of}
use Rattle.strm_types.specs.Queue.{Queue, put_back, left_with, relieved, relieves, map_messages}
use Rattle.strm_types.specs.declared.names.Dir.{Dir}
use Rattle.strm_types.specs.declared.rules.Rule.TheVariants as rules
use Rattle.strm_types.specs.Deliver.{Fate, Goes, tallied}
use Rattle.strm_types.specs.declared.rules.Fates.{Fates}

-- what a read takes: the cells that it gives, those of a message's rest that it discards, those of control parts that it drops,
-- and the messages that it leaves
pub record Drawn (C : Type 0) : Type 0 where
  pub given : List C
  pub discarded : List C
  pub dropped : List C
  pub left : List (Message C)

-- whether there is something
abbrev pub is_there : {A : Type 0} → Option A → Bool
is_there None = false
is_there (Some x) = true

-- some cells as a part, which is absent where there are none
abbrev pub part_left : {C : Type 0} → List C → Option (List C)
part_left [] = None
part_left (c ∷ cells) = Some (c ∷ cells)

-- whether there are no cells
abbrev pub no_cells : {C : Type 0} → List C → Bool
no_cells [] = true
no_cells (c ∷ cells) = false

-- how many bytes a read still wants behind a message of this size: a read of messages ends with its message
abbrev pub wanted_after : ReadMode → ℕ → ℕ → ℕ
wanted_after ByteStream n size = n - size
wanted_after MessageKeep n size = 0
wanted_after MessageDiscard n size = 0

module _ {C : Type 0} where
  -- all cells of some messages
  abbrev pub all_cells : List (Message C) → List C
  all_cells [] = []
  all_cells (m ∷ q) = cells_of m ++ all_cells q

  -- What is left of a message with these cells of its control part and of its data part. A part without cells is absent. Where
  -- no control part is left it is M_DATA, of band 0 where it was of high priority.
  abbrev pub rest_with : List C → List C → Message C → Message C
  rest_with [] body m = record m { kind = kinds.Data; band = band_of m; control = None; body = Some body }
  rest_with (c ∷ control) body m = record m { control = Some (c ∷ control); body = part_left body }

  -- what is left of a message whose first cells were given
  abbrev pub rest_after : ℕ → Message C → Message C
  rest_after n m = rest_with (drop n (part m.control)) (drop (n - length (part m.control)) (part m.body)) m

  -- the message as a read has it: under RPROTDIS without its control part
  abbrev pub shown : ControlMode → Message C → Message C
  shown Refuse m = m
  shown Data m = m
  shown Discard m = record m { kind = kinds.Data; band = band_of m; control = None }

  -- the cells that a read could give of a message
  abbrev pub offered : ControlMode → Message C → List C
  offered control m = cells_of (shown control m)

  -- the cells of a message's control part that go where it is read under RPROTDIS
  abbrev pub control_gone : ControlMode → Message C → List C
  control_gone Refuse m = []
  control_gone Data m = []
  control_gone Discard m = part m.control

  -- whether a read fails at a message, or stops before it: under RPROTNORM it has a control part
  abbrev pub is_refused : ControlMode → Message C → Bool
  is_refused Refuse m = is_there m.control
  is_refused Data m = false
  is_refused Discard m = false

  -- whether a read passes a message over: under RPROTDIS it has no data part
  abbrev pub is_passed : ControlMode → Message C → Bool
  is_passed Refuse m = false
  is_passed Data m = false
  is_passed Discard m = if is_there m.body then false else true

  -- nothing more is taken, and these messages are left
  abbrev pub stopped : List (Message C) → Drawn C
  stopped q = record { given = []; discarded = []; dropped = []; left = q }

  -- a zero-length message is taken away, and nothing is given
  abbrev pub emptied_of : List C → List (Message C) → Drawn C
  emptied_of dropped q = record { given = []; discarded = []; dropped = dropped; left = q }

  -- the front of a message is given: its rest is put back, or discarded
  abbrev pub front_of : ReadMode → ℕ → List C → Message C → List (Message C) → Drawn C
  front_of ByteStream n dropped m q = record { given = take n (cells_of m); discarded = []; dropped = dropped; left = put_back (rest_after n m) q }
  front_of MessageKeep n dropped m q = record { given = take n (cells_of m); discarded = []; dropped = dropped; left = put_back (rest_after n m) q }
  front_of MessageDiscard n dropped m q = record { given = take n (cells_of m); discarded = drop n (cells_of m); dropped = dropped; left = q }

  -- a message is given whole, and then what is drawn behind it
  abbrev pub and_more : List C → List C → Drawn C → Drawn C
  and_more cells dropped more = record { given = cells ++ more.given; discarded = more.discarded; dropped = dropped ++ more.dropped; left = more.left }

  -- Up to n cells from the first messages on. Those that were passed over on the way stay where no message is read behind them,
  -- and go with the one that is. A zero-length message ends the read: it stays where the read has begun to give, else it goes.
  abbrev pub drawn : ReadMode → ControlMode → Bool → ℕ → List (Message C) → List (Message C) → Drawn C
  drawn read control begun n passed [] = stopped passed
  drawn read control begun n passed (m ∷ q) =
      if n == 0 || is_refused control m then stopped (passed ++ m ∷ q)
      else (if is_passed control m then drawn read control begun n (passed ++ m ∷ []) q
      else (if no_cells (offered control m) then (if begun then stopped (passed ++ m ∷ q) else emptied_of (all_cells passed ++ control_gone control m) q)
      else (if nat_lt n (length (offered control m)) then front_of read n (all_cells passed ++ control_gone control m) (shown control m) q
      else and_more (offered control m) (all_cells passed ++ control_gone control m) (drawn read control true (wanted_after read n (length (offered control m))) [] q))))

  -- what a read of up to n cells takes
  abbrev pub head_draw : ReadMode → ControlMode → ℕ → List (Message C) → Drawn C
  head_draw read control n q = drawn read control false n [] q

  -- whether a read finds nothing: no message, and under RPROTDIS none that has a data part
  abbrev pub finds_none : ControlMode → List (Message C) → Bool
  finds_none control [] = true
  finds_none control (m ∷ q) = is_passed control m && finds_none control q

  -- whether the first message has a control part under RPROTNORM
  abbrev pub starts_refused : ControlMode → List (Message C) → Bool
  starts_refused control [] = false
  starts_refused control (m ∷ q) = is_refused control m

  -- What a read is refused for, before it takes anything: a read of none for nothing; EAGAIN where it finds nothing and the
  -- input isn't at its end; EBADMSG for a control part.
  abbrev pub read_refusal : ControlMode → Bool → ℕ → List (Message C) → Option Refusal
  read_refusal control at_end n q =
      if n == 0 then None
      else (if finds_none control q then (if at_end then None else Some Eagain)
      else (if starts_refused control q then Some Ebadmsg else None))

  -- whether a read has nothing to take, and so changes nothing
  abbrev pub takes_none : ControlMode → ℕ → List (Message C) → Bool
  takes_none control n q = n == 0 || (finds_none control q || starts_refused control q)

  -- whether no byte goes by a read
  abbrev pub none_went : Drawn C → Bool
  none_went d = no_cells d.given && (no_cells d.discarded && no_cells d.dropped)

  -- the head's queue behind a read: where bytes went, its waiting writers are let go
  abbrev pub queue_drawn : Drawn C → Queue C → Queue C
  queue_drawn d q = if none_went d then left_with d.left q else relieved (left_with d.left q)

  abbrev pub read_queue : ReadMode → ControlMode → ℕ → Queue C → Queue C
  read_queue read control n q = if takes_none control n q.messages then q else queue_drawn (head_draw read control n q.messages) q

  -- whether a read lets a writer go
  abbrev pub writer_goes : Drawn C → Queue C → Bool
  writer_goes d q = if none_went d then false else relieves (left_with d.left q)

  abbrev pub read_lets_go : ReadMode → ControlMode → ℕ → Queue C → Bool
  read_lets_go read control n q = if takes_none control n q.messages then false else writer_goes (head_draw read control n q.messages) q

  -- by which rules cells of a direction go by a read
  abbrev pub read_fates : Dir → Drawn C → List (Fate C)
  read_fates dir d =
      Goes dir rules.Read d.given
      ∷ Goes dir rules.RestDiscarded d.discarded
      ∷ Goes dir rules.ControlDropped d.dropped ∷ []

  -- what goes by a read of up to n cells: nothing where it has nothing to take
  abbrev pub read_gone : Dir → ReadMode → ControlMode → ℕ → List (Message C) → List (Fate C)
  read_gone dir read control n q = if takes_none control n q then [] else read_fates dir (head_draw read control n q)

  abbrev pub read_told : Dir → ReadMode → ControlMode → ℕ → List (Message C) → Fates → Fates
  read_told dir read control n q fates = tallied (read_gone dir read control n q) fates

  -- these cells are the first ones of what one of the messages offers
  pub record OfOneMessage (control : ControlMode) (n : ℕ) (q : List (Message C)) (given : List C) : Type 0 where
    pub before : List (Message C)
    pub message : Message C
    pub behind : List (Message C)
    pub stands : q ≡ before ++ message ∷ behind
    pub front : given ≡ take n (offered control message)

  -- an M_DATA message, as queues hold it
  pub record IsData (m : Message C) : Type 0 where
    pub kind : m.kind ≡ kinds.Data
    pub control : m.control ≡ None
    pub plain : m.plain ≡ []

-- what is taken of other cells
abbrev pub map_drawn : {C D : Type 0} → (C → D) → Drawn C → Drawn D
map_drawn f d = record { given = map f d.given; discarded = map f d.discarded; dropped = map f d.dropped; left = map_messages f d.left }
