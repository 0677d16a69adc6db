-- What an image of a pair may hold. A checkpoint is refused for what no pair can have: each field here is one such reason turned round. What is
-- said of the message in work and of options isn't stored: by it calls and turns keep the rest.
use Rattle.std.specs.Prelude.{◌≡◌, ◌≤◌, ◌<◌, ◌^◌, ◌&&◌, ◌||◌, Bool, true, false, List, [], ◌∷◌, ◌++◌, map, length, Option, None, Some}
use Rattle.std.specs.List.{AllByRecursion, list_any}
use Rattle.strm_laws.specs.Prelude.{Put, Called, Turned, MsgKind, BANDS, IOCTL_END, MODULES, LINE_MAX}
use Rattle.strm_laws.specs.Prelude.{COLUMN_MAX, Prio, High, ModuleName, Place, Driver, QueueName, Side, Master, Slave, Way, Up, Down, Free, Termios}
use Rattle.strm_laws.specs.Prelude.{driver_of}
use Rattle.strm_laws.specs.Prelude.{AllSides, crosses, Request, Head as TheHead, is_data, PlainEntry, is_ioctl}
use Rattle.strm_laws.specs.Prelude.{waits_there, Message, is_master, is_open, have_queues, same_module, Flow}
use Rattle.strm_laws.specs.Prelude.{IsOrdered, Queue}
use Rattle.strm_laws.specs.Prelude.{QueuePair, has_queues}
use Rattle.strm_types.specs.declared.modes.Prio.TheVariants.{Band}
use Rattle.strm_types.specs.declared.names.ModuleName.TheVariants as names
use Rattle.strm_types.specs.declared.names.Place.TheVariants.{Head}
use Rattle.strm_types.specs.declared.names.Place.TheVariants as places
use Rattle.strm_types.specs.Ldterms.{Ldterm as TheLdterm}
use Rattle.strm_types.specs.Names.{IsOnce}
use Rattle.strm_types.specs.OwnStands.{may_wait}
use Rattle.strm_laws.specs.Behaviours.{GoodOwn}
use Rattle.strm_laws.specs.GoodMessages.{GoodMessage, is_part_kind}
use Rattle.strm_laws.specs.Kept.{AreIdle}
use Rattle.strm_laws.specs.StackCosts.{EachOnce, Stands, stands_of, stands_on}
use Rattle.strm_laws.specs.Within.{AreWithin}
use Rattle.strm_laws.specs.Stacked.{Module, OfLdterm, OfOwn, OfPtem, OfPckt, Standing, module_name}
use Rattle.strm_laws.specs.State.{State, Stream}

-- the kinds that stand on a module's write queue: M_DATA, M_PROTO, and M_IOCTL behind them (ldterm(7M); termio(7I): TCSETSW)
abbrev pub goes_out : MsgKind → Bool
goes_out kind = may_wait Down kind

-- the kinds that stand on a driver's queue: what crosses, and M_IOCTL (ptm(7D), pts(7D))
abbrev pub stands_below : MsgKind → Bool
stands_below kind = crosses kind || is_ioctl kind

-- one that stands on a queue is of a kind that stands there
pub record StandsOn {C : Type 0} (stands : MsgKind → Bool) (m : Message C) : Type 0 where
  pub good : GoodMessage m
  pub kind : stands m.kind ≡ true

-- A high-water mark is above 0, and a low-water mark no higher than it (STREAMS Programming Guide, "Flow Control"); both have 32 bits.
pub record AreMarks (flow : Flow) : Type 0 where
  pub some : 1 ≤ flow.high
  pub order : flow.low ≤ flow.high
  pub bits : flow.high < 2 ^ 32

-- a queue, by the kinds that stand there; its messages are in order of rank (putq(9F))
pub record GoodQueue {C : Type 0} (stands : MsgKind → Bool) (q : Queue C) : Type 0 where
  pub messages : AllByRecursion (λ m. StandsOn stands m) q.messages
  pub order : IsOrdered q.messages
  pub marks : AllByRecursion AreMarks q.flows

abbrev pub is_ldterm : ModuleName → Bool
is_ldterm name = same_module name names.Ldterm

-- a queue with a service procedure is a driver's, or one of a module that stands on its side and has queues (srv(9E))
abbrev pub is_there_among : Place → Way → List ModuleName → Bool
is_there_among Head way on = false
is_there_among (places.Module name) way on = have_queues name && list_any (λ n. same_module n name) on
is_there_among Driver Up on = false
is_there_among Driver Down on = true

abbrev pub IsThere : Stands → QueueName → Type 0
IsThere all name = is_there_among name.place name.way (stands_on name.side all) ≡ true

-- enabled queues, where modules of these names stand: each is there, and none is enabled twice (qenable(9F))
pub record AreEnabled (all : Stands) (enabled : List QueueName) : Type 0 where
  pub once : IsOnce enabled
  pub there : AllByRecursion (λ name. IsThere all name) enabled

-- the queues of modules of these names on a side's stream, and with a driver's on each side all that may be enabled
abbrev pub queues_on : Side → List ModuleName → List QueueName
queues_on side [] = []
queues_on side (name ∷ on) =
    record { side = side; place = places.Module name; way = Up } ∷ record { side = side; place = places.Module name; way = Down } ∷ queues_on side on

abbrev pub queues_there : Stands → List QueueName
queues_there all = driver_of Master ∷ driver_of Slave ∷ (queues_on Master (stands_on Master all) ++ queues_on Slave (stands_on Slave all))

-- a termios has 19 control bytes (termio(7I): c_cc)
abbrev pub IsWhole : Termios → Type 0
IsWhole t = length t.control ≡ 19

module _ {C : Type 0} where
  -- in a turn of ldterm's read queue the message in work is M_DATA
  abbrev pub IsWork : Option (Message C) → Type 0
  IsWork None = Unit {0}
  IsWork (Some m) = StandsOn is_data m

  -- ldterm: columns up to 65,535, and a line of 255 bytes at most (ldterm(7M); termio(7I))
  pub record GoodLdterm (l : TheLdterm C) : Type 0 where
    pub termios : IsWhole l.termios
    pub column : l.column ≤ COLUMN_MAX
    pub line : length l.line ≤ LINE_MAX
    pub work : IsWork l.in_work

  -- ptem has a termios too, pckt nothing, and one of a user's own its number and settings
  abbrev pub GoodKind : Module C → Type 0
  GoodKind (OfLdterm l) = GoodLdterm l
  GoodKind (OfPtem p) = IsWhole p.termios
  GoodKind (OfPckt p) = Unit {0}
  GoodKind (OfOwn o) = GoodOwn o

  -- what stands on the queues of a module
  abbrev pub GoodPair : Option (QueuePair C) → Type 0
  GoodPair None = Unit {0}
  GoodPair (Some pair) = GoodQueue waits_there pair.read × GoodQueue goes_out pair.write

  -- a module, which has queues where those of its name have
  pub record GoodModule (x : Standing C) : Type 0 where
    pub kind : GoodKind x.part
    pub queues : GoodPair x.queues
    pub has : has_queues x ≡ have_queues (module_name x)

  -- three modules at most, and none twice (streamio(7I): I_PUSH)
  pub record GoodModules (ps : List (Standing C)) : Type 0 where
    pub each : AllByRecursion GoodModule ps
    pub few : length ps ≤ MODULES
    pub once : EachOnce (map module_name ps)

  -- a head: what stands for its readers has parts, and the slave's alone has a foreground group (termio(7I): TIOCSPGRP)
  pub record GoodHead (side : Side) (h : TheHead C) : Type 0 where
    pub queue : GoodQueue is_part_kind h.queue
    pub group : is_master side ≡ true → h.group ≡ 0

  -- a side that isn't open: no module, no signal that waits, no ioctl under way, and nothing to read (close(2))
  pub record IsShut (t : Stream C) : Type 0 where
    pub modules : t.modules ≡ []
    pub signals : t.head.signals ≡ []
    pub ioctl : t.head.ioctl ≡ Free
    pub unread : t.head.queue.messages ≡ []

  pub record GoodStream (side : Side) (t : Stream C) : Type 0 where
    pub head : GoodHead side t.head
    pub modules : GoodModules t.modules
    pub driver : GoodQueue stands_below t.driver.queue
    pub shut : is_open t.opened ≡ false → IsShut t

  -- A pair that an image may hold. Enabled queues exist, have a service procedure, and are enabled once each. What heads keep is bounded, no
  -- turn is under way, and the number of the next ioctl is above 0, one of 32 bits.
  pub record Restorable (s : State C) : Type 0 where
    pub streams : AllSides GoodStream s.ends
    pub heads : AreWithin s
    pub idle : AreIdle s
    pub enabled : AreEnabled (stands_of s) s.enabled
    pub numbered : 1 ≤ s.next_ioctl
    pub last : s.next_ioctl ≤ IOCTL_END

-- a putmsg whose band is one that queues have, as each is that a caller can make; and such entries
abbrev pub IsBanded : Prio → Type 0
IsBanded High = Unit {0}
IsBanded (Band band) = band.0 < BANDS

abbrev pub IsWithinCall : Request → Type 0
IsWithinCall (Put prio control body) = IsBanded prio
IsWithinCall _ = Unit {0}

abbrev pub IsWithinEntry : PlainEntry → Type 0
IsWithinEntry (Called caller asked answer) = IsWithinCall asked
IsWithinEntry (Turned name turn) = Unit {0}

abbrev pub AreWithinEntries : List PlainEntry → Type 0
AreWithinEntries entries = AllByRecursion IsWithinEntry entries
