-- Modules that are pushed on a side's stream and taken off it: what is told the head, which queue is let come, and what goes with a
-- module (streamio(7I): I_PUSH, I_POP, I_LOOK; STREAMS Programming Guide, "Modules"; ldterm(7M)).
use Rattle.std.specs.Prelude.{Bool, true, false, not, if◌then◌else◌, List, [], ◌∷◌, ◌++◌, flat_map, Option, None, Some}
use Rattle.strm_laws.specs.Prelude.{ReadMode, ByteStream, MessageKeep, ModuleName, Place, Driver, QueueName, Side, Way, Up, Down, Rule}
use Rattle.strm_laws.specs.Prelude.{ModulePopped, Spot, Acted, Carried, slot_dropped, new_ldterm, Message, may_push, top_name, without_module}
use Rattle.strm_laws.specs.Prelude.{enable_if, have_queues, place_of, same_module, mode_message, is_none_left, cleared, QueuePair, has_queues}
use Rattle.strm_laws.specs.Prelude.{messages_at, new_pair}
use Rattle.strm_types.specs.declared.names.ModuleName.TheVariants as names
use Rattle.strm_types.specs.declared.names.Place.TheVariants.{Head}
use Rattle.strm_types.specs.declared.names.Place.TheVariants as places
use Rattle.strm_laws.specs.Behaviours.{Behaviour, fresh_own}
use Rattle.strm_laws.specs.Earlier.{before_at}
use Rattle.strm_types.specs.Pckts.{new_pckt}
use Rattle.strm_types.specs.Ptems.{new_ptem}
use Rattle.strm_laws.specs.Puts.{earlier_at, noted, put_at_head}
use Rattle.strm_laws.specs.Stacked.{Module, Standing, OfLdterm, OfOwn, OfPtem, OfPckt, module_name, without_kind_line, kind_line}
use Rattle.strm_laws.specs.State.{State, Stream, stream, with_ioctl, with_stream}

-- the read mode that a head is given where a module is pushed below it, and where one is taken off: ldterm makes lines
abbrev pub mode_on_push : ModuleName → Option ReadMode
mode_on_push names.Ldterm = Some MessageKeep
mode_on_push names.Ptem = None
mode_on_push names.Pckt = None
mode_on_push (names.Own n) = None

abbrev pub mode_on_pop : ModuleName → Option ReadMode
mode_on_pop names.Ldterm = Some ByteStream
mode_on_pop names.Ptem = None
mode_on_pop names.Pckt = None
mode_on_pop (names.Own n) = None

-- the same where a module of this name stands on top, if one stands there
abbrev pub mode_behind : Option ModuleName → Option ReadMode
mode_behind None = None
mode_behind (Some name) = mode_on_pop name

-- the place of a side's head, as what comes up reaches it
abbrev pub head_above : Side → Spot
head_above side = record { side = side; at = 0; way = Up }

-- whether there are modules of a name: of those of a user's own there are some of the numbers that the behaviour knows
abbrev pub is_known : Behaviour → ModuleName → Bool
is_known K (names.Own n) = K.knows n
is_known K _ = true

module _ {C : Type 0} where
  -- the module that a name makes, as it is pushed, with the queues that it is given then, where modules of its name have any
  abbrev pub kind_named : Behaviour → ModuleName → Module C
  kind_named K names.Ldterm = OfLdterm new_ldterm
  kind_named K names.Ptem = OfPtem new_ptem
  kind_named K names.Pckt = OfPckt new_pckt
  kind_named K (names.Own n) = OfOwn (fresh_own K n)

  abbrev pub queues_named : ModuleName → Option (QueuePair C)
  queues_named name = if have_queues name then Some new_pair else None

  abbrev pub module_named : Behaviour → ModuleName → Standing C
  module_named K name = record { part = kind_named K name; queues = queues_named name }

  -- none, where there are no modules of the name
  abbrev pub named_by : Behaviour → Option ModuleName → Option (Standing C)
  named_by K None = None
  named_by K (Some name) = if is_known K name then Some (module_named K name) else None

  -- a module may be pushed on these: there is room, and none of its name stands there
  abbrev pub may_stand : Option (Standing C) → List (Standing C) → Bool
  may_stand None ps = false
  may_stand (Some p) ps = may_push module_name p ps

  -- a side's head is told its read mode, and that TOSTOP isn't set, where there is a mode to tell
  abbrev pub mode_put : Side → Option ReadMode → State C → Carried C (State C)
  mode_put side None s = record { state = s; gone = [] }
  mode_put side (Some mode) s =
      let t = put_at_head side (head_above side) (mode_message mode false) s in
      record { state = t.state; gone = t.gone }

  abbrev pub with_modules : Side → List (Standing C) → State C → State C
  with_modules side ps s = with_stream side (record (stream side s) { modules = ps }) s

  -- what stands on a module's queue of a way, where the module has this name
  abbrev pub messages_of : ModuleName → Way → Standing C → List (Message C)
  messages_of name way p = if same_module (module_name p) name then messages_at way p else []

  -- what stands on a queue of a stream, by its place
  abbrev pub messages_there : Place → Way → Stream C → List (Message C)
  messages_there Head way t = t.head.queue.messages
  messages_there Driver way t = t.driver.queue.messages
  messages_there (places.Module name) way t = flat_map (messages_of name way) t.modules

  abbrev pub messages_on : QueueName → State C → List (Message C)
  messages_on name s = messages_there name.place name.way (stream name.side s)

  -- the enabled queues with one more, where messages wait there
  abbrev pub enable_waiting : Option QueueName → State C → List QueueName
  enable_waiting None s = s.enabled
  enable_waiting (Some name) s = enable_if (not (is_none_left (messages_on name s))) name s.enabled

  -- what waits before the read queue of the module on top may come
  abbrev pub let_come : Bool → Side → State C → State C
  let_come false side s = s
  let_come true side s = record s { enabled = enable_waiting (before_at side Up 1 s) s }

  -- A module is pushed: it stands on top, the head is told its read mode, and what waits for a read queue of it may come.
  abbrev pub pushed : Side → Standing C → State C → Carried C (State C)
  pushed side p s =
      let t = mode_put side (mode_on_push (module_name p)) (with_modules side (p ∷ (stream side s).modules) s) in
      record { state = let_come (has_queues p) side t.state; gone = t.gone }

  abbrev pub pushed_named : Side → Option (Standing C) → State C → Carried C (State C)
  pushed_named side None s = record { state = s; gone = [] }
  pushed_named side (Some p) s = pushed side p s

  -- a side's stream with these modules, where one of this name was taken off from above them
  abbrev pub without_top : Side → ModuleName → List (Standing C) → Acted C (Standing C) → State C → Carried C (State C)
  without_top side name ps t s = record {
    state = record (with_modules side ps s) { enabled = without_module side name (noted side (place_of name) (earlier_at side 1 s) t.notes s.enabled) };
    gone = t.gone;
  }

  -- The module on top is taken off: what it has goes by a rule, and queues before its own have room again where that lets a writer go.
  abbrev pub top_taken : Rule → Side → List (Standing C) → State C → Carried C (State C)
  top_taken rule side [] s = record { state = s; gone = [] }
  top_taken rule side (p ∷ ps) s =
      without_top side (module_name p) ps (cleared kind_line without_kind_line side rule p) s

  -- all modules, from the top
  abbrev pub all_taken : Rule → Side → List (Standing C) → State C → Carried C (State C)
  all_taken rule side [] s = record { state = s; gone = [] }
  all_taken rule side (p ∷ ps) s =
      let t = top_taken rule side (p ∷ ps) s in
      let u = all_taken rule side ps t.state in
      record { state = u.state; gone = t.gone ++ u.gone }

  abbrev pub modules_emptied : Rule → Side → State C → Carried C (State C)
  modules_emptied rule side s = all_taken rule side (stream side s).modules s

  -- the name of the module on top of a side's stream
  abbrev pub top_on : Side → State C → Option ModuleName
  top_on side s = top_name module_name (stream side s).modules

  -- what stands on the write queue of the module on top
  abbrev pub below_top : List (Standing C) → List (Message C)
  below_top [] = []
  below_top (p ∷ ps) = messages_at Down p

  -- a side's head, once these messages have gone
  abbrev pub ioctl_dropped : Side → List (Message C) → State C → State C
  ioctl_dropped side ms s = with_ioctl side (slot_dropped ms (stream side s).head.ioctl) s

  -- The module on top is taken off: its bytes go, and the head is told its read mode.
  abbrev pub taken_off : Side → State C → Carried C (State C)
  taken_off side s =
      let t = top_taken ModulePopped side (stream side s).modules s in
      let u = mode_put side (mode_behind (top_on side s)) t.state in
      record { state = u.state; gone = t.gone ++ u.gone }

  -- A pop: the ioctl under way ends with its M_IOCTL, where that stood in the module.
  abbrev pub popped : Side → State C → Carried C (State C)
  popped side s =
      let t = taken_off side s in
      record { state = ioctl_dropped side (below_top (stream side s).modules) t.state; gone = t.gone }
