-- What a put does at most at each kind of module, at a head and at a driver, by the way and the shape of what is put: a table a kind. What passes goes on as
-- it is, and so may what waits on a queue.
use Rattle.std.specs.Prelude.{ℕ, Bool, true, false, List, [], ◌∷◌}
use Rattle.strm_types.specs.declared.names.ModuleName.{ModuleName}
use Rattle.strm_types.specs.declared.names.ModuleName.TheVariants as names
use Rattle.strm_types.specs.declared.names.Way.{Way}
use Rattle.strm_types.specs.declared.names.Way.TheVariants.{Up, Down}
use Rattle.strm_types.specs.Budgets.{Does, Table}
use Rattle.strm_types.specs.Message.{Message}
use Rattle.strm_types.specs.Shapes.{Shape, Held, Asking, Acking, FlushR, FlushW, FlushRW, FlushMixed, Packed, Passing, shape_of}

abbrev pub does_nothing : Does
does_nothing = record { own = 0; makes = 0; emits = [] }

abbrev pub passes_on : Table
passes_on way shape = record { own = 0; makes = 0; emits = (way, shape) ∷ [] }

-- ldterm: an M_IOCACK on its way up may be obeyed. Then an M_FLUSH goes up or an unfinished line, what the head is told, and the answer.
abbrev pub ldterm_does : Table
ldterm_does Up Acking = record { own = 2; makes = 0; emits = (Up, FlushR) ∷ (Up, Held) ∷ (Up, Passing) ∷ (Up, Acking) ∷ [] }
ldterm_does way shape = passes_on way shape

-- ptem: an M_IOCTL on its way down is answered, sent on anew and told of by a signal, or goes on. Above one on its way up a signal may tell of it, and it is
-- answered, or goes on.
abbrev pub ptem_does : Table
ptem_does Down Asking = record { own = 3; makes = 0; emits = (Up, Acking) ∷ (Down, Asking) ∷ (Up, Passing) ∷ [] }
ptem_does Up Asking = record { own = 2; makes = 0; emits = (Up, Passing) ∷ (Down, Acking) ∷ (Down, Passing) ∷ (Up, Asking) ∷ [] }
ptem_does way shape = passes_on way shape

-- pckt: what comes up becomes a packet, and an M_FLUSH with FLUSHW is passed up behind it without FLUSHR
abbrev pub packs : Does
packs = record { own = 1; makes = 1; emits = (Up, Held) ∷ [] }

abbrev pub packs_flush : Does
packs_flush = record { own = 2; makes = 1; emits = (Up, Held) ∷ (Up, FlushW) ∷ [] }

abbrev pub pckt_does : Table
pckt_does Up Held = packs
pckt_does Up Packed = packs
pckt_does Up Asking = packs
pckt_does Up FlushR = packs
pckt_does Up FlushW = packs_flush
pckt_does Up FlushRW = packs_flush
pckt_does Up FlushMixed = packs_flush
pckt_does way shape = passes_on way shape

-- A module of a user's own: an M_IOCTL on its way down is changed into its answer, M_IOCACK or M_IOCNAK, or goes on. No put takes a block.
abbrev pub own_does : Table
own_does Down Asking = record { own = 0; makes = 0; emits = (Up, Acking) ∷ (Up, Passing) ∷ (Down, Asking) ∷ [] }
own_does way shape = passes_on way shape

-- a module of a name
abbrev pub name_does : ModuleName → Table
name_does names.Ldterm = ldterm_does
name_does names.Ptem = ptem_does
name_does names.Pckt = pckt_does
name_does (names.Own n) = own_does

-- whether modules of a name hand an M_DATA or M_PROTO on in all its blocks, or have it wait: those of a user's own may free some
abbrev pub name_holds : ModuleName → Bool
name_holds (names.Own n) = false
name_holds name = true

-- a head: an M_FLUSH with FLUSHW goes down again without FLUSHR, and an M_IOCTL is answered
abbrev pub head_does : Shape → Does
head_does FlushW = record { own = 1; makes = 0; emits = (Down, FlushW) ∷ [] }
head_does FlushRW = record { own = 1; makes = 0; emits = (Down, FlushW) ∷ [] }
head_does Asking = record { own = 1; makes = 0; emits = (Down, Passing) ∷ [] }
head_does _ = does_nothing

-- An M_FLUSH with FLUSHR that a driver sends across: to the readers of the other side, or to the driver there.
pub data Crossing : Type 0 where
  ToReaders : Crossing
  ToDriver : Crossing

-- What a put at a driver does at most: how many blocks of each kind it takes, the shapes of what it sends up, and what it sends across.
pub record Drives : Type 0 where
  pub own : ℕ
  pub ups : List Shape
  pub across : List Crossing

-- Of what comes down: an M_FLUSH goes across, to the readers with FLUSHW and to the driver with FLUSHR, and an M_IOCTL may be answered. Of what was sent
-- across: it goes on to the readers across.
abbrev pub driver_does : Way → Shape → Drives
driver_does Down FlushW = record { own = 2; ups = []; across = ToReaders ∷ [] }
driver_does Down FlushR = record { own = 2; ups = []; across = ToDriver ∷ [] }
driver_does Down FlushRW = record { own = 2; ups = []; across = ToReaders ∷ ToDriver ∷ [] }
driver_does Down Asking = record { own = 1; ups = Passing ∷ []; across = [] }
driver_does Down _ = record { own = 0; ups = []; across = [] }
driver_does Up shape = record { own = 1; ups = []; across = ToReaders ∷ [] }

-- what it takes of a message
abbrev pub driver_own : {C : Type 0} → Way → Message C → ℕ
driver_own way m = (driver_does way (shape_of m)).own
