-- What a put in a pair does at most, by tables: at each place of a side's stream, and what goes across. Budgets are reckoned a side at a time, with a
-- number for what goes across.
use Rattle.std.specs.Prelude.{ℕ, zero, suc, ◌+◌, ◌-◌, ◌==◌, nat_le, min, Bool, not, ◌&&◌, ◌||◌, if◌then◌else◌, List, [], ◌∷◌, ◌++◌, length, map, sum_by, count_by, take}
use Rattle.std.specs.List.{list_all}
use Rattle.strm_laws.specs.Prelude.{HOPS, MODULES, ModuleName, Side, Way, Up, Down, Costs, Does, beyond, other, same_module, At, Shape, Held, Asking}
use Rattle.strm_laws.specs.Prelude.{Acking, FlushR, FlushW, FlushRW, FlushMixed, Packed, Passing, is_flushing, Crossing, ToDriver, ToReaders}
use Rattle.strm_laws.specs.Prelude.{driver_does, head_does, name_does}
use Rattle.strm_types.specs.declared.names.ModuleName.TheVariants as names
use Rattle.strm_types.specs.Budgets.{Table, most_on}
use Rattle.strm_types.specs.Tables.{Drives, does_nothing}
use Rattle.strm_laws.specs.StackCosts.{Stands, stands_on}

-- a message of a shape at a place of a side's stream
pub record SideAt : Type 0 where
  pub place : ℕ
  pub way : Way
  pub shape : Shape

-- What a put there does at most: how many blocks of each kind it takes, what it sends on, and what it sends across.
pub record SideCosts : Type 0 where
  pub own : ℕ
  pub emits : List SideAt
  pub across : List Crossing

abbrev pub side_next : ℕ → Way × Shape → SideAt
side_next at r = by r.0
  where
    by : Way → SideAt
    by Up = record { place = at - 1; way = Up; shape = r.1 }
    by Down = record { place = at + 1; way = Down; shape = r.1 }

abbrev pub side_does : ℕ → Does → SideCosts
side_does at d = record { own = d.own; emits = map (side_next at) d.emits; across = [] }

-- a driver behind so many modules
abbrev pub rises : ℕ → Shape → SideAt
rises count shape = record { place = count; way = Up; shape = shape }

abbrev pub side_drives : ℕ → Drives → SideCosts
side_drives count d = record { own = d.own; emits = map (rises count) d.ups; across = d.across }

-- one of several modules, counted from the top, from 0
abbrev pub does_among : ℕ → List ModuleName → Table
does_among i [] way shape = does_nothing
does_among zero (n ∷ ns) way shape = name_does n way shape
does_among (suc i) (n ∷ ns) way shape = does_among i ns way shape

-- below so many modules: the driver takes what comes down, and what was sent across to it; all else goes on up
abbrev pub behind_costs : ℕ → Way → ℕ → Shape → SideCosts
behind_costs count Down place shape = side_drives count (driver_does Down shape)
behind_costs count Up place shape =
    if is_flushing shape && place == suc MODULES then side_drives count (driver_does Up shape)
    else record { own = 0; emits = rises count shape ∷ []; across = [] }

-- at a place of a stream with modules of these names, of which so many have a place
abbrev pub place_costs : List ModuleName → ℕ → SideAt → SideCosts
place_costs on count a =
    if a.place == 0 then side_does 0 (head_does a.shape)
    else (if nat_le a.place count then side_does a.place (does_among (a.place - 1) on a.way a.shape) else behind_costs count a.way a.place a.shape)

-- as no more than three are pushed
abbrev pub fronts : List ModuleName → List ModuleName
fronts on = take MODULES on

abbrev pub side_costs : List ModuleName → SideAt → SideCosts
side_costs on a = place_costs on (length on) a

-- the same of both sides: what goes across comes to the place above the driver there, behind so many modules, or to that driver
abbrev pub whole : Side → SideAt → At
whole side a = record { to = record { side = side; at = a.place; way = a.way }; shape = a.shape }

abbrev pub crossed : Side → ℕ → Crossing → At
crossed side bottom ToReaders = record { to = record { side = other side; at = bottom; way = Up }; shape = FlushR }
crossed side bottom ToDriver = record { to = record { side = other side; at = suc MODULES; way = Up }; shape = FlushR }

abbrev pub both_costs : Side → ℕ → SideCosts → Costs
both_costs side bottom c = record { own = c.own; emits = map (whole side) c.emits ++ map (crossed side bottom) c.across }

abbrev pub front_on : Side → Stands → List ModuleName
front_on side all = fronts (stands_on side all)

abbrev pub costs : Stands → At → Costs
costs all a =
    both_costs a.to.side (length (front_on (other a.to.side) all))
    (side_costs (front_on a.to.side all) (record { place = a.to.at; way = a.to.way; shape = a.shape }))

-- How many blocks of each kind a delivery takes at most, where what goes across takes so many with so many hops left.
unfoldable pub side_budget : (ℕ → Crossing → ℕ) → List ModuleName → ℕ → SideAt → ℕ
side_budget over on zero a = beyond
side_budget over on (suc hops) a =
    let d = side_costs on a in
    min beyond (d.own + (sum_by (side_budget over on hops) d.emits + sum_by (over hops) d.across))

-- What goes across may take nothing, or so much with four hops left for the readers there, and with five for the driver, which sends it back to the readers.
abbrev pub nowhere : ℕ → Crossing → ℕ
nowhere hops c = beyond

abbrev pub in_time : ℕ → ℕ → ℕ → ℕ
in_time least most hops = if nat_le least hops then most else beyond

abbrev pub to_readers : ℕ → ℕ → Crossing → ℕ
to_readers readers hops ToReaders = in_time 4 readers hops
to_readers readers hops ToDriver = beyond

abbrev pub to_both : ℕ → ℕ → ℕ → Crossing → ℕ
to_both readers driver hops ToReaders = in_time 4 readers hops
to_both readers driver hops ToDriver = in_time 5 driver hops

abbrev pub arrives : List ModuleName → Crossing → SideAt
arrives on ToReaders = rises (length on) FlushR
arrives on ToDriver = rises (suc MODULES) FlushR

-- how much that is, where each module stands once at most (true), and where any stand (false)
abbrev pub readers_most : Bool → ℕ
readers_most once = if once then 1 else 3

abbrev pub driver_most : Bool → ℕ
driver_most once = if once then 2 else 4

abbrev pub place_most : Bool → Way → Shape → ℕ
place_most once way shape = if once then most_on way shape else 15

-- so many numbers, from one up
abbrev pub counted : ℕ → ℕ → List ℕ
counted from zero = []
counted from (suc k) = from ∷ counted (suc from) k

abbrev pub ways : List Way
ways = Up ∷ Down ∷ []

abbrev pub shapes : List Shape
shapes = Held ∷ Asking ∷ Acking ∷ FlushR ∷ FlushW ∷ FlushRW ∷ FlushMixed ∷ Packed ∷ Passing ∷ []

abbrev pub crossings_fit : Bool → List ModuleName → Bool
crossings_fit once on =
    nat_le (side_budget nowhere on 4 (arrives on ToReaders)) (readers_most once)
    && nat_le (side_budget (to_readers (readers_most once)) on 5 (arrives on ToDriver)) (driver_most once)

abbrev pub spot_fits : Bool → List ModuleName → ℕ → Way → Shape → Bool
spot_fits once on place way shape =
    nat_le (side_budget (to_both (readers_most once) (driver_most once)) on HOPS (record { place = place; way = way; shape = shape })) (place_most once way shape)

-- from the head's place, 0, to one behind the driver's
abbrev pub places_fit : Bool → List ModuleName → Bool
places_fit once on = list_all (λ place. list_all (λ way. list_all (λ shape. spot_fits once on place way shape) shapes) ways) (counted 0 6)

-- each name of the three stands once at most
abbrev pub is_once : ModuleName → List ModuleName → Bool
is_once name on = nat_le (count_by (λ n. same_module n name) on) 1

abbrev pub are_once : List ModuleName → Bool
are_once on = is_once names.Ldterm on && (is_once names.Ptem on && is_once names.Pckt on)

abbrev pub stack_fits : Bool → List ModuleName → Bool
stack_fits once on = (once && not (are_once on)) || (crossings_fit once on && places_fit once on)

-- A test of all stacks of at most as many modules as these numbers, one for each place from the top, which is that of a user's own module that stands
-- there. What a module costs doesn't depend on its number.
abbrev pub all_stacks : List ℕ → (List ModuleName → Bool) → Bool
all_stacks [] test = test []
all_stacks (n ∷ ns) test =
    test []
    && (all_stacks ns (λ on. test (names.Ldterm ∷ on))
    && (all_stacks ns (λ on. test (names.Ptem ∷ on))
    && (all_stacks ns (λ on. test (names.Pckt ∷ on)) && all_stacks ns (λ on. test (names.Own n ∷ on)))))
