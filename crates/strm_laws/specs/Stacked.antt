-- What a module is to the stream on which it stands: its name, its queues, its unfinished line, and what it does (streamio(7I): I_PUSH;
-- STREAMS Programming Guide, "Modules"). There are three kinds of modules, and those of a user's own, which do what a behaviour says. Of what is said
-- here only what a module does differs by its kind; its queues are the stream's, and what is said of them is said once for all kinds.
use Rattle.std.specs.Prelude.{ℕ, ◌+◌, Bool, true, List, [], ◌∷◌, sum_by, flat_map, Option, None, Some}
use Rattle.strm_laws.specs.Prelude.{ModuleName, Dir, Side, Way, Up, Down, Asks, Spot, Cells, Acted, Discipline, Rests, Message, direction_at, Pckt}
use Rattle.strm_laws.specs.Prelude.{pckt_puts, Ptem, ptem_puts, Queue, weight, Serving, done_by, served_by, QueuePair}
use Rattle.strm_types.specs.declared.names.ModuleName.TheVariants as names
use Rattle.strm_types.specs.declared.spots.Asks.TheVariants.{Empty}
use Rattle.strm_types.specs.LdtermStands.{as_stands, asks_there, puts_there, serves_there}
use Rattle.strm_types.specs.Ldterms.{Ldterm, lineless}
use Rattle.strm_types.specs.Service.{acts_alone, unserved}
use Rattle.strm_types.specs.OwnStands.{OwnActs, own_asks, own_puts, own_serves}
use Rattle.strm_types.specs.Owns.{Own}
use Rattle.strm_types.specs.Standings as standings
use Rattle.strm_types.specs.Standings.{map_standing}
use Rattle.strm_laws.specs.Behaviours.{Behaviour, own_by}
use Rattle.strm_laws.specs.LdtermOrigins.{map_own}
use Rattle.strm_laws.specs.LdtermTurns.{ldterm_rests}
use Rattle.strm_laws.specs.LdtermWeights.{own_weight}

-- a module by itself
pub data Module (C : Type 0) : Type 0 where
  OfLdterm : Ldterm C → Module C
  OfPtem : Ptem → Module C
  OfPckt : Pckt → Module C
  OfOwn : Own → Module C

-- and as it stands on a stream
abbrev pub Standing : Type 0 → Type 0
Standing C = standings.Standing (Module C) C

-- the same module of other cells
abbrev pub map_kind : {C D : Type 0} → (C → D) → Module C → Module D
map_kind f (OfLdterm l) = OfLdterm (map_own f l)
map_kind f (OfPtem p) = OfPtem p
map_kind f (OfPckt p) = OfPckt p
map_kind f (OfOwn o) = OfOwn o

abbrev pub map_module : {C D : Type 0} → (C → D) → Standing C → Standing D
map_module f x = map_standing (map_kind f) f x

-- the name of a kind
abbrev pub kind_name : {C : Type 0} → Module C → ModuleName
kind_name (OfLdterm l) = names.Ldterm
kind_name (OfPtem p) = names.Ptem
kind_name (OfPckt p) = names.Pckt
kind_name (OfOwn o) = names.Own o.number

-- its unfinished line, and the same module without it
abbrev pub kind_line : {C : Type 0} → Module C → List C
kind_line (OfLdterm l) = l.line
kind_line (OfPtem p) = []
kind_line (OfPckt p) = []
kind_line (OfOwn o) = []

abbrev pub without_kind_line : {C : Type 0} → Module C → Module C
without_kind_line (OfLdterm l) = OfLdterm (lineless l)
without_kind_line (OfPtem p) = OfPtem p
without_kind_line (OfPckt p) = OfPckt p
without_kind_line (OfOwn o) = OfOwn o

-- what stands as a module of one kind, as one of any kind
abbrev pub of_kind : {C P : Type 0} → (P → Module C) → standings.Standing P C → Standing C
of_kind made x = record { part = made x.part; queues = x.queues }

-- a line discipline, as it stands
abbrev pub ldterm_stands : {C : Type 0} → Discipline C → Standing C
ldterm_stands p = of_kind OfLdterm (as_stands p)

module _ {C : Type 0} where
  abbrev pub module_name : Standing C → ModuleName
  module_name x = kind_name x.part

  -- its queues: the read queue, then the write queue
  abbrev pub module_queues : Standing C → List (Queue C)
  module_queues x = by x.queues
    where
      by : Option (QueuePair C) → List (Queue C)
      by None = []
      by (Some pair) = pair.read ∷ pair.write ∷ []

  abbrev pub module_line : Standing C → List C
  module_line x = kind_line x.part

  -- how many cells that stand on its queues on a side's stream pass the test of their direction, how many that it has itself, and how many in all
  abbrev pub queues_weight : (Dir → C → Bool) → Side → Option (QueuePair C) → ℕ
  queues_weight p side None = 0
  queues_weight p side (Some pair) = weight (p (direction_at Up side)) pair.read.messages + weight (p (direction_at Down side)) pair.write.messages

  abbrev pub kind_weight : (Dir → C → Bool) → Side → Module C → ℕ
  kind_weight p side (OfLdterm l) = own_weight p side l
  kind_weight p side (OfPtem q) = 0
  kind_weight p side (OfPckt q) = 0
  kind_weight p side (OfOwn o) = 0

  abbrev pub module_weight : (Dir → C → Bool) → Side → Standing C → ℕ
  module_weight p side x = kind_weight p side x.part + queues_weight p side x.queues

  -- A message that is put at it, where so many cells were made before in the direction of what goes up; only pckt makes more. What those of a user's
  -- own do is said beside.
  abbrev pub puts_by : OwnActs C → Cells C → ℕ → Spot → Message C → Standing C → Acted C (Standing C)
  puts_by own cells made here m x = by x.part
    where
      by : Module C → Acted C (Standing C)
      by (OfLdterm l) = done_by (of_kind OfLdterm) (puts_there here m (record { part = l; queues = x.queues }))
      by (OfPtem p) = done_by (of_kind OfPtem) (acts_alone (ptem_puts here m) (record { part = p; queues = x.queues }))
      by (OfPckt p) = done_by (of_kind OfPckt) (acts_alone (λ q. pckt_puts cells made here m) (record { part = p; queues = x.queues }))
      by (OfOwn o) = done_by (of_kind OfOwn) (own_puts own here m (record { part = o; queues = x.queues }))

  -- and by a behaviour
  abbrev pub module_puts : Behaviour → Cells C → ℕ → Spot → Message C → Standing C → Acted C (Standing C)
  module_puts K cells made here m x = puts_by (own_by K cells) cells made here m x

  -- what the first message of its queue of a way asks before it goes on
  abbrev pub asks_by : OwnActs C → Way → Standing C → Asks
  asks_by own way x = by x.part
    where
      by : Module C → Asks
      by (OfLdterm l) = asks_there way (record { part = l; queues = x.queues })
      by (OfPtem p) = Empty
      by (OfPckt p) = Empty
      by (OfOwn o) = own_asks own way (record { part = o; queues = x.queues })

  abbrev pub module_asks : Behaviour → Cells C → Way → Standing C → Asks
  module_asks K cells way x = asks_by (own_by K cells) way x

  -- whether nothing of a turn is under way in it
  abbrev pub kind_rests : Module C → Bool
  kind_rests (OfLdterm l) = ldterm_rests l
  kind_rests (OfPtem p) = true
  kind_rests (OfPckt p) = true
  kind_rests (OfOwn o) = true

  abbrev pub module_rests : Standing C → Bool
  module_rests x = kind_rests x.part

  abbrev pub KindRests : Module C → Type 0
  KindRests (OfLdterm l) = Rests l
  KindRests (OfPtem p) = Unit {0}
  KindRests (OfPckt p) = Unit {0}
  KindRests (OfOwn o) = Unit {0}

  abbrev pub IsAtRest : Standing C → Type 0
  IsAtRest x = KindRests x.part

  -- a call of the service procedure of its queue: so many cells were made before, the turn begins or goes on, and it stops or not
  -- when so many bytes are treated
  abbrev pub serves_by : OwnActs C → Cells C → Spot → ℕ → Bool → Option ℕ → Standing C → Serving C (Standing C)
  serves_by own cells here made again stop x = by x.part
    where
      by : Module C → Serving C (Standing C)
      by (OfLdterm l) = served_by (of_kind OfLdterm) (serves_there cells here made again stop (record { part = l; queues = x.queues }))
      by (OfPtem p) = unserved x
      by (OfPckt p) = unserved x
      by (OfOwn o) = served_by (of_kind OfOwn) (own_serves own here (record { part = o; queues = x.queues }))

  abbrev pub module_serves : Behaviour → Cells C → Spot → ℕ → Bool → Option ℕ → Standing C → Serving C (Standing C)
  module_serves K cells here made again stop x = serves_by (own_by K cells) cells here made again stop x

  -- the same of all modules of a stream: their queues, and how many cells that they hold pass the test of their direction
  abbrev pub queues_of_modules : List (Standing C) → List (Queue C)
  queues_of_modules xs = flat_map module_queues xs

  abbrev pub modules_weight : (Dir → C → Bool) → Side → List (Standing C) → ℕ
  modules_weight p side xs = sum_by (module_weight p side) xs
