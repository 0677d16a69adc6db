-- What puts do at most by their tables, how many blocks a delivery takes by them, and a put at pckt itself, case by case.
use Rattle.strm_rows.proofs.Prelude.{ℕ, ◌≡◌, List, [], ◌∷◌, map, refl, Some, Flush, Ioctl, Iocack, Iocnak, Sig, Side, Master, Slave, Way, Up, Down}
use Rattle.strm_rows.proofs.Prelude.{Spot, Message, header, options, ordinary, proto, urgent, without_parts}
use Rattle.strm_types.specs.declared.names.ModuleName.TheVariants as names
use Rattle.strm_types.specs.Budgets.{Table, budget, most, own_at}
use Rattle.strm_types.specs.Costs.{head_takes, pckt_takes, up_takes}
use Rattle.strm_types.specs.Shapes.{Shape, Held, Asking, Acking, FlushR, FlushW, FlushRW, FlushMixed, Packed, Passing, shape_of}
use Rattle.strm_types.specs.Tables.{ToDriver, ToReaders, driver_does, head_does, ldterm_does, name_does, own_does, pckt_does, ptem_does}
use Rattle.strm_laws.specs.SideCosts.{costs}
use Rattle.strm_laws.specs.StackCosts.{Stands}

-- at the head, at each of three modules, and behind them
abbrev at_each : (Spot → ℕ) → Way → List ℕ
at_each count way = map (λ at. count (record { side = Slave; at = at; way = way })) (0 ∷ 1 ∷ 2 ∷ 3 ∷ 4 ∷ [])

-- an M_IOCACK, an M_FLUSH with FLUSHR, with FLUSHW, and with both
abbrev answers : Message ℕ
answers = without_parts Iocack (header 1 7 0)

abbrev reads : Message ℕ
reads = without_parts Flush (1 ∷ [])

abbrev writes : Message ℕ
writes = without_parts Flush (2 ∷ [])

abbrev both : Message ℕ
both = without_parts Flush (3 ∷ [])

-- the same message with a data part
abbrev parted : Message ℕ → Message ℕ
parted m = record m { body = Some (97 ∷ []) }

abbrev shapes : List Shape
shapes = Held ∷ Asking ∷ Acking ∷ FlushR ∷ FlushW ∷ FlushRW ∷ FlushMixed ∷ Packed ∷ Passing ∷ []

-- the shapes of messages

pub bare-shapes : map shape_of (ordinary (97 ∷ []) ∷ ordinary [] ∷ proto ∷ without_parts Ioctl (header 1 7 0) ∷ answers ∷ reads ∷ writes ∷ both ∷ without_parts Flush [] ∷ [])
    ≡ Held ∷ Held ∷ Held ∷ Asking ∷ Acking ∷ FlushR ∷ FlushW ∷ FlushRW ∷ FlushR ∷ []
bare-shapes = refl

pub other-shapes : map shape_of (urgent ∷ options ∷ without_parts Iocnak (header 1 7 1) ∷ without_parts Sig (2 ∷ []) ∷ []) ≡ Packed ∷ Passing ∷ Passing ∷ Passing ∷ []
other-shapes = refl

pub parted-shapes : map (λ m. shape_of (parted m)) (without_parts Ioctl [] ∷ answers ∷ reads ∷ writes ∷ both ∷ [])
    ≡ Packed ∷ Passing ∷ Packed ∷ FlushMixed ∷ FlushMixed ∷ []
parted-shapes = refl

-- what each takes, makes and sends on

abbrev owns : Table → Way → List ℕ
owns table way = map (λ shape. (table way shape).own) shapes

pub ldterm-takes : map (owns ldterm_does) (Up ∷ Down ∷ []) ≡ (0 ∷ 0 ∷ 2 ∷ 0 ∷ 0 ∷ 0 ∷ 0 ∷ 0 ∷ 0 ∷ []) ∷ (0 ∷ 0 ∷ 0 ∷ 0 ∷ 0 ∷ 0 ∷ 0 ∷ 0 ∷ 0 ∷ []) ∷ []
ldterm-takes = refl

pub ptem-takes : map (owns ptem_does) (Up ∷ Down ∷ []) ≡ (0 ∷ 2 ∷ 0 ∷ 0 ∷ 0 ∷ 0 ∷ 0 ∷ 0 ∷ 0 ∷ []) ∷ (0 ∷ 3 ∷ 0 ∷ 0 ∷ 0 ∷ 0 ∷ 0 ∷ 0 ∷ 0 ∷ []) ∷ []
ptem-takes = refl

pub pckt-takes : map (owns pckt_does) (Up ∷ Down ∷ []) ≡ (1 ∷ 1 ∷ 0 ∷ 1 ∷ 2 ∷ 2 ∷ 2 ∷ 1 ∷ 0 ∷ []) ∷ (0 ∷ 0 ∷ 0 ∷ 0 ∷ 0 ∷ 0 ∷ 0 ∷ 0 ∷ 0 ∷ []) ∷ []
pckt-takes = refl

pub own-takes : map (owns own_does) (Up ∷ Down ∷ []) ≡ (0 ∷ 0 ∷ 0 ∷ 0 ∷ 0 ∷ 0 ∷ 0 ∷ 0 ∷ 0 ∷ []) ∷ (0 ∷ 0 ∷ 0 ∷ 0 ∷ 0 ∷ 0 ∷ 0 ∷ 0 ∷ 0 ∷ []) ∷ []
own-takes = refl

pub packets-are-made : map (λ name. map (λ shape. (name_does name Up shape).makes) shapes) (names.Ldterm ∷ names.Ptem ∷ names.Pckt ∷ names.Own 5 ∷ [])
    ≡ (0 ∷ 0 ∷ 0 ∷ 0 ∷ 0 ∷ 0 ∷ 0 ∷ 0 ∷ 0 ∷ []) ∷ (0 ∷ 0 ∷ 0 ∷ 0 ∷ 0 ∷ 0 ∷ 0 ∷ 0 ∷ 0 ∷ []) ∷ (1 ∷ 1 ∷ 0 ∷ 1 ∷ 1 ∷ 1 ∷ 1 ∷ 1 ∷ 0 ∷ [])
    ∷ (0 ∷ 0 ∷ 0 ∷ 0 ∷ 0 ∷ 0 ∷ 0 ∷ 0 ∷ 0 ∷ []) ∷ []
packets-are-made = refl

pub heads-and-drivers-take : map (λ shape. (head_does shape).own) shapes ∷ map (λ shape. (driver_does Up shape).own) shapes ∷ map (λ shape. (driver_does Down shape).own) shapes ∷ []
    ≡ (0 ∷ 1 ∷ 0 ∷ 0 ∷ 1 ∷ 1 ∷ 0 ∷ 0 ∷ 0 ∷ []) ∷ (1 ∷ 1 ∷ 1 ∷ 1 ∷ 1 ∷ 1 ∷ 1 ∷ 1 ∷ 1 ∷ []) ∷ (0 ∷ 1 ∷ 0 ∷ 2 ∷ 2 ∷ 2 ∷ 0 ∷ 0 ∷ 0 ∷ []) ∷ []
heads-and-drivers-take = refl

pub what-drivers-do : map (driver_does Down) (FlushR ∷ FlushW ∷ FlushRW ∷ Asking ∷ []) ∷ map (driver_does Up) (FlushR ∷ []) ∷ []
    ≡ (record { own = 2; ups = []; across = ToDriver ∷ [] } ∷ record { own = 2; ups = []; across = ToReaders ∷ [] } ∷ record { own = 2; ups = []; across = ToReaders ∷ ToDriver ∷ [] }
    ∷ record { own = 1; ups = Passing ∷ []; across = [] } ∷ [])
    ∷ (record { own = 1; ups = []; across = ToReaders ∷ [] } ∷ []) ∷ []
what-drivers-do = refl

pub what-goes-on : (ldterm_does Up Acking).emits ∷ (ptem_does Down Asking).emits ∷ (pckt_does Up FlushRW).emits ∷ (pckt_does Down FlushRW).emits ∷ (head_does FlushRW).emits ∷ []
    ≡ ((Up, FlushR) ∷ (Up, Held) ∷ (Up, Passing) ∷ (Up, Acking) ∷ []) ∷ ((Up, Acking) ∷ (Down, Asking) ∷ (Up, Passing) ∷ []) ∷ ((Up, Held) ∷ (Up, FlushW) ∷ [])
    ∷ ((Down, FlushRW) ∷ []) ∷ ((Down, FlushW) ∷ []) ∷ []
what-goes-on = refl

pub own-answers-or-passes : (own_does Down Asking).emits ∷ (own_does Up Asking).emits ∷ (own_does Down FlushRW).emits ∷ (own_does Up Held).emits ∷ []
    ≡ ((Up, Acking) ∷ (Up, Passing) ∷ (Down, Asking) ∷ []) ∷ ((Up, Asking) ∷ []) ∷ ((Down, FlushRW) ∷ []) ∷ ((Up, Held) ∷ []) ∷ []
own-answers-or-passes = refl

-- How many blocks a delivery takes at most by them: where ldterm stands above ptem on the slave's stream, and pckt on the master's, and where each
-- place has the same module.

abbrev terminal : Stands
terminal = record { master = names.Pckt ∷ []; slave = names.Ldterm ∷ names.Ptem ∷ [] }

abbrev repeated : Stands
repeated = record { master = names.Pckt ∷ names.Pckt ∷ names.Pckt ∷ []; slave = names.Ptem ∷ names.Ptem ∷ names.Ptem ∷ [] }

abbrev budgets : Stands → Side → ℕ → Way → List ℕ
budgets all side at way = map (λ shape. budget (costs all) 16 (record { to = record { side = side; at = at; way = way }; shape = shape })) shapes

pub slave-budgets : budgets terminal Slave 1 Down ∷ budgets terminal Slave 3 Up ∷ budgets terminal Slave 4 Up ∷ [] ≡ (0 ∷ 6 ∷ 0 ∷ 3 ∷ 3 ∷ 4 ∷ 0 ∷ 0 ∷ 0 ∷ []) ∷ (0 ∷ 3 ∷ 2 ∷ 0 ∷ 4 ∷ 4 ∷ 0 ∷ 0 ∷ 0 ∷ []) ∷ (0 ∷ 3 ∷ 2 ∷ 2 ∷ 2 ∷ 2 ∷ 0 ∷ 0 ∷ 0 ∷ []) ∷ []
unfolding budget
slave-budgets = refl

pub master-budgets : budgets terminal Master 1 Down ∷ budgets terminal Master 3 Up ∷ budgets terminal Master 4 Up ∷ [] ≡ (0 ∷ 1 ∷ 0 ∷ 4 ∷ 2 ∷ 4 ∷ 0 ∷ 0 ∷ 0 ∷ []) ∷ (1 ∷ 1 ∷ 0 ∷ 1 ∷ 5 ∷ 5 ∷ 5 ∷ 1 ∷ 0 ∷ []) ∷ (1 ∷ 1 ∷ 0 ∷ 1 ∷ 1 ∷ 1 ∷ 5 ∷ 1 ∷ 0 ∷ []) ∷ []
unfolding budget
master-budgets = refl

pub repeated-budgets : budgets repeated Slave 1 Down ∷ budgets repeated Slave 3 Up ∷ budgets repeated Master 1 Down ∷ budgets repeated Master 3 Up ∷ [] ≡ (0 ∷ 10 ∷ 0 ∷ 3 ∷ 5 ∷ 6 ∷ 0 ∷ 0 ∷ 0 ∷ []) ∷ (0 ∷ 7 ∷ 0 ∷ 0 ∷ 6 ∷ 6 ∷ 0 ∷ 0 ∷ 0 ∷ []) ∷ (0 ∷ 1 ∷ 0 ∷ 6 ∷ 2 ∷ 6 ∷ 0 ∷ 0 ∷ 0 ∷ []) ∷ (3 ∷ 3 ∷ 0 ∷ 3 ∷ 12 ∷ 12 ∷ 12 ∷ 3 ∷ 0 ∷ []) ∷ []
unfolding budget
repeated-budgets = refl

-- where modules of a user's own stand between ldterm and ptem, and alone, whatever their numbers
abbrev between : ℕ → Stands
between n = record { master = names.Pckt ∷ names.Own n ∷ []; slave = names.Ldterm ∷ names.Own n ∷ names.Ptem ∷ [] }

abbrev alone : ℕ → ℕ → ℕ → Stands
alone a b c = record { master = []; slave = names.Own a ∷ names.Own b ∷ names.Own c ∷ [] }

pub between-budgets : (n : ℕ) → budgets (between n) Slave 1 Down ∷ budgets (between n) Slave 4 Up ∷ budgets (between n) Master 1 Down ∷ []
    ≡ (0 ∷ 8 ∷ 0 ∷ 3 ∷ 3 ∷ 4 ∷ 0 ∷ 0 ∷ 0 ∷ []) ∷ (0 ∷ 3 ∷ 2 ∷ 2 ∷ 2 ∷ 2 ∷ 0 ∷ 0 ∷ 0 ∷ []) ∷ (0 ∷ 1 ∷ 0 ∷ 4 ∷ 2 ∷ 4 ∷ 0 ∷ 0 ∷ 0 ∷ []) ∷ []
unfolding budget
between-budgets n = refl

pub alone-budgets : (a b c : ℕ) → budgets (alone a b c) Slave 1 Down ∷ budgets (alone a b c) Slave 4 Up ∷ []
    ≡ (0 ∷ 1 ∷ 0 ∷ 3 ∷ 2 ∷ 3 ∷ 0 ∷ 0 ∷ 0 ∷ []) ∷ (0 ∷ 1 ∷ 0 ∷ 1 ∷ 1 ∷ 1 ∷ 0 ∷ 0 ∷ 0 ∷ []) ∷ []
unfolding budget
alone-budgets a b c = refl

-- with too few hops left that is beyond what any call asks
pub budgets-of-few-hops : map (λ hops. budget (costs terminal) hops (record { to = record { side = Slave; at = 1; way = Down }; shape = Asking })) (0 ∷ 1 ∷ 5 ∷ 6 ∷ 7 ∷ [])
    ≡ 1000 ∷ 1000 ∷ 1000 ∷ 6 ∷ 6 ∷ []
unfolding budget
budgets-of-few-hops = refl

-- how many blocks each shape takes at most, wherever each module stands on a side once
pub most-blocks : map (λ way. map (λ shape. most (record { to = record { side = Slave; at = 1; way = way }; shape = shape })) shapes) (Up ∷ Down ∷ [])
    ≡ (1 ∷ 3 ∷ 4 ∷ 2 ∷ 6 ∷ 6 ∷ 6 ∷ 1 ∷ 0 ∷ []) ∷ (0 ∷ 8 ∷ 0 ∷ 4 ∷ 4 ∷ 5 ∷ 0 ∷ 0 ∷ 0 ∷ []) ∷ []
most-blocks = refl

-- what a head takes itself, and what is taken of what comes up behind it and was sent across

pub heads-take : map head_takes (without_parts Ioctl (header 1 7 0) ∷ answers ∷ reads ∷ writes ∷ both ∷ []) ≡ 1 ∷ 0 ∷ 0 ∷ 1 ∷ 1 ∷ []
heads-take = refl

pub reads-take : map (λ m. at_each (λ here. up_takes here m) Up) (reads ∷ parted reads ∷ []) ≡ (0 ∷ 0 ∷ 0 ∷ 0 ∷ 1 ∷ []) ∷ (0 ∷ 0 ∷ 0 ∷ 0 ∷ 0 ∷ []) ∷ []
reads-take = refl

-- pckt itself, which its table says no less of

pub packets-take : map (at_each (λ here. pckt_takes here both)) (Up ∷ Down ∷ []) ∷ map (at_each (λ here. pckt_takes here reads)) (Up ∷ Down ∷ []) ∷ map (at_each (λ here. pckt_takes here answers)) (Up ∷ Down ∷ []) ∷ []
    ≡ ((2 ∷ 2 ∷ 2 ∷ 2 ∷ 2 ∷ []) ∷ (0 ∷ 0 ∷ 0 ∷ 0 ∷ 0 ∷ []) ∷ []) ∷ ((1 ∷ 1 ∷ 1 ∷ 1 ∷ 1 ∷ []) ∷ (0 ∷ 0 ∷ 0 ∷ 0 ∷ 0 ∷ []) ∷ []) ∷ ((0 ∷ 0 ∷ 0 ∷ 0 ∷ 0 ∷ []) ∷ (0 ∷ 0 ∷ 0 ∷ 0 ∷ 0 ∷ []) ∷ []) ∷ []
packets-take = refl

pub tables-of-messages : map (at_each (λ here. own_at pckt_does here both)) (Up ∷ Down ∷ []) ≡ (2 ∷ 2 ∷ 2 ∷ 2 ∷ 2 ∷ []) ∷ (0 ∷ 0 ∷ 0 ∷ 0 ∷ 0 ∷ []) ∷ []
tables-of-messages = refl
