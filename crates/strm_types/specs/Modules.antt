-- The modules of a stream, from the top down (streamio(7I): I_PUSH, I_POP, I_LOOK, I_FIND).
use Rattle.std.specs.Prelude.{ℕ, zero, suc, Bool, ◌&&◌, not, nat_lt, List, [], ◌∷◌, length, Option, None, Some}
use Rattle.std.specs.List.{list_any}
use Rattle.strm_types.specs.declared.limits.TheConstants.{MODULES}
use Rattle.strm_types.specs.declared.names.ModuleName.{ModuleName}
use Rattle.strm_types.specs.declared.names.Place.TheVariants.{Module}
use Rattle.strm_types.specs.declared.names.QueueName.{QueueName}
use Rattle.strm_types.specs.declared.names.Side.{Side}
use Rattle.strm_types.specs.declared.names.Way.TheVariants.{Up, Down}
use Rattle.strm_types.specs.declared.spots.Spot.{Spot}
use Rattle.strm_types.specs.Message.{Message}
use Rattle.strm_types.specs.Names.{same_module, without}
use Rattle.strm_types.specs.Deliver.{Acted}

-- the names of queues without those of a module that is taken off a side's stream: its read queue and its write queue
abbrev pub without_module : Side → ModuleName → List QueueName → List QueueName
without_module side name names =
    without (record { side = side; place = Module name; way = Down }) (without (record { side = side; place = Module name; way = Up }) names)

module _ {P : Type 0} (name_of : P → ModuleName) where
  -- a module of this name stands there
  abbrev pub stands : ModuleName → List P → Bool
  stands name ps = list_any (λ p. same_module (name_of p) name) ps

  -- a module may be pushed where there is room and none of its name stands
  abbrev pub may_push : P → List P → Bool
  may_push p ps = nat_lt (length ps) MODULES && not (stands (name_of p) ps)

  -- the name of the module on top, if there is one
  abbrev pub top_name : List P → Option ModuleName
  top_name [] = None
  top_name (p ∷ ps) = Some (name_of p)

-- One of several modules changes, counted from the top, from 0. The others stay.
abbrev pub change_among : {P : Type 0} → (P → P) → ℕ → List P → List P
change_among change i [] = []
change_among change zero (p ∷ ps) = change p ∷ ps
change_among change (suc i) (p ∷ ps) = p ∷ change_among change i ps

module _ {C P : Type 0} (acts : P → Acted C P) where
  -- One of several modules acts, counted from the top, from 0. The others stay.
  abbrev pub act_among : ℕ → List P → Acted C (List P)
  act_among i [] = record { state = []; notes = []; sent = []; gone = [] }
  act_among zero (p ∷ ps) =
      let t = acts p in
      record { state = t.state ∷ ps; notes = t.notes; sent = t.sent; gone = t.gone }
  act_among (suc i) (p ∷ ps) =
      let t = act_among i ps in
      record { state = p ∷ t.state; notes = t.notes; sent = t.sent; gone = t.gone }

module _ {C P : Type 0} (puts : Spot → Message C → P → Acted C P) where
  -- a message put at one of the modules
  abbrev pub put_among : ℕ → Spot → Message C → List P → Acted C (List P)
  put_among i to m ps = act_among (puts to m) i ps
