-- What a module owes the stream on which it stands, of whatever kind it is: what it does loses no cell, keeps within the table of its name, and is
-- the same where the origins of cells are forgotten. LawfulKinds says that each kind is so, and of a put for any behaviour of a user's own modules.
use Rattle.strm_laws.proofs.Prelude.{ℕ, ◌≡◌, ◌≤◌, ◌+◌, ◌-◌, ◌*◌, Bool, true, false, length, map, Option, Some, count_by, None}
use Rattle.strm_laws.specs.Prelude.{Dir, ModuleName, Side, Way, Up, Spot, emits_at, Within, AreCells, Cells, plain, Tagged, Acted, made_of}
use Rattle.strm_laws.specs.Prelude.{stages_done, Begins, Ends, disciplined, map_message, Message, weight_of, direction_at, other, map_acted, Serving}
use Rattle.strm_laws.specs.Prelude.{shape_of, QueuePair, name_does}
use Rattle.strm_laws.specs.Based.{number, number_kind}
use Rattle.strm_laws.specs.Behaviours.{Behaviour, MayTestOwn}
use Rattle.strm_laws.specs.LdtermOrigins.{map_serving}
use Rattle.strm_laws.specs.LdtermWeights.{IgnoresMapping}
use Rattle.strm_laws.specs.Places.{weight_gone, weight_made, weight_sent}
use Rattle.strm_laws.specs.Pushes.{is_known, module_named}
use Rattle.strm_laws.specs.GoodMessages.{AreGood, GoodMessage}
use Rattle.strm_laws.specs.Restorable.{GoodModule}
use Rattle.strm_laws.specs.Spares.{module_packs, packet_most}
use Rattle.strm_laws.specs.Stacked.{IsAtRest, kind_weight, KindRests, map_kind, map_module, Module, module_asks, module_line, module_name, module_puts, module_rests, module_serves, module_weight, OfLdterm, Standing, without_kind_line}
use Rattle.strm_laws.specs.TurnCalls.{discipline_of}
use Rattle.strm_laws.proofs.LdtermServes.{IsReady}
use Rattle.strm_laws.proofs.LdtermStops.{GoesOn}
use Rattle.strm_laws.proofs.TurnOrder.{TurnOrder}

-- What a call of its service procedure wants of it, where so many bytes are left of the turn; of one without a turn of its own it wants nothing.
abbrev pub IsReadyWith : {C : Type 0} → Bool → Way → ℕ → Option (QueuePair C) → Module C → Type 0
IsReadyWith again way left queues (OfLdterm l) = IsReady again way left (disciplined l queues)
IsReadyWith again way left queues part = Unit {0}

abbrev pub IsReadyAt : {C : Type 0} → Bool → Way → ℕ → Standing C → Type 0
IsReadyAt again way left x = IsReadyWith again way left x.queues x.part

-- what it leaves and sends can be in an image
pub record GoodActed {C : Type 0} (t : Acted C (Standing C)) : Type 0 where
  pub state : GoodModule t.state
  pub sent : AreGood GoodMessage t.sent

module _ {C : Type 0} (x : Standing C) where
  -- where the origins of its cells are changed, or forgotten
  module _ {D : Type 0} (f : C → D) where
    pub record LawfulImage : Type 0 where
      pub name : module_name (map_module f x) ≡ module_name x
      pub line : module_line (map_module f x) ≡ map f (module_line x)
      pub lineless : without_kind_line (map_kind f x.part) ≡ map_kind f (without_kind_line x.part)
      pub rests : module_rests (map_module f x) ≡ module_rests x

  -- a put at it, where so many cells were made before in the direction of what goes up, and modules of a user's own do what a behaviour says
  module _ (K : Behaviour) (cells : Cells C) (made : ℕ) (here : Spot) (m : Message C) where
    abbrev put : Acted C (Standing C)
    put = module_puts K cells made here m x

    pub record LawfulPut : Type 0 where
      -- it leaves the name, and begins no turn
      pub name : module_name put.state ≡ module_name x
      pub rests : IsAtRest x → IsAtRest put.state
      pub ready : (again : Bool) (way : Way) (left : ℕ) → IsReadyAt again way left x → IsReadyAt again way left put.state
      -- it loses no cell, and makes none but the next of the direction in which it sends up
      pub once : (p : Dir → C → Bool) → MayTestOwn K cells p → module_weight p here.side put.state + (weight_sent p put.sent + weight_gone p put.gone)
          ≡ module_weight p here.side x + weight_of (p (direction_at here.way here.side)) m + weight_made p put.gone
      pub order : TurnOrder cells (other here.side) made put.gone
      -- it keeps within the table of its name: what it sends, and how much it makes
      pub within : Within put.sent (emits_at here (name_does (module_name x) here.way (shape_of m)))
      pub makes : length m.plain ≤ 16777216 → made_of put.gone ≤ module_packs here m x * packet_most
      pub forgets : AreCells cells
          → module_puts K plain made here (map_message cells.byte m) (map_module cells.byte x) ≡ map_acted cells.byte (map_module cells.byte) put
      pub good : GoodMessage m → GoodModule x → GoodActed put

  -- a call of its service procedure
  module _ (K : Behaviour) (cells : Cells C) (here : Spot) (made : ℕ) (again : Bool) where
    abbrev call : Option ℕ → Serving C (Standing C)
    call stop = module_serves K cells here made again stop x

    pub record LawfulCall : Type 0 where
      pub name : (stop : Option ℕ) → module_name (call stop).acted.state ≡ module_name x
      -- where it is ready, the turn goes on behind it, or nothing of one is under way
      pub goes : (left : ℕ) → IsReadyAt again here.way left x → (call (Some left)).again ≡ true
          → IsReadyAt true here.way (left - (call (Some left)).bytes) (call (Some left)).acted.state
      pub ends : (left : ℕ) → IsReadyAt again here.way left x → (call (Some left)).again ≡ false → IsAtRest (call (Some left)).acted.state
      -- it loses no cell, and makes none but the next of the direction in which it sends down
      pub once : (p : Dir → C → Bool) → IgnoresMapping cells p → (left : ℕ) → IsReadyAt again here.way left x → let t = (call (Some left)).acted in
          module_weight p here.side t.state + (weight_sent p t.sent + weight_gone p t.gone) ≡ module_weight p here.side x + weight_made p t.gone
      pub order : (stop : Option ℕ) → TurnOrder cells here.side made (call stop).acted.gone
      pub forgets : AreCells cells → (left : ℕ)
          → module_serves K plain here made again (Some left) (map_module cells.byte x)
          ≡ map_serving cells.byte (map_module cells.byte) (call (Some left))
      pub good : (stop : Option ℕ) → GoodModule x → GoodActed (call stop).acted

  pub record IsLawful : Type 1 where
    pub image : {D : Type 0} (f : C → D) → LawfulImage f
    -- where nothing of a turn is under way it has nothing itself but its line, which comes up, and is ready for a turn's first call
    pub weighs : (p : Dir → C → Bool) (side : Side) → IsAtRest x → kind_weight p side x.part ≡ count_by (p (direction_at Up side)) (module_line x)
    pub ready : (way : Way) (left : ℕ) → IsAtRest x → IsReadyAt false way left x

-- what it owes besides over plain bytes, as a store has them
pub record IsPlainPut (K : Behaviour) (x : Standing ℕ) : Type 0 where
  -- whatever was made before, a put does the same; and it leaves what is under way
  pub put_same : (a b : ℕ) (here : Spot) (m : Message ℕ) → module_puts K plain a here m x ≡ module_puts K plain b here m x
  pub put_stays : (made : ℕ) (here : Spot) (m : Message ℕ) → let q = discipline_of (module_puts K plain made here m x).state in
      (q.stage ≡ (discipline_of x).stage) × (q.in_work ≡ (discipline_of x).in_work)

pub record IsPlainCall (K : Behaviour) (x : Standing ℕ) : Type 0 where
  -- and so does a call
  pub call_same : (here : Spot) (again : Bool) (stop : Option ℕ) (made : ℕ)
      → module_serves K plain here made again stop x ≡ module_serves K plain here 0 again stop x
  -- a call that goes as far as it may asks for another one, or has come to an end; it does the same where no more bytes may be treated than it treats
  pub goes : (here : Spot) (again : Bool) → Begins here.way again (discipline_of x) → let t = module_serves K plain here 0 again None x in
      t.again ≡ true → GoesOn here.way again (discipline_of x) t.bytes (discipline_of t.acted.state)
  pub alike : (here : Spot) (again : Bool) → let t = module_serves K plain here 0 again None x in
      t.again ≡ true → (left made : ℕ) → stages_done (discipline_of t.acted.state).stage + 3 * t.bytes ≤ 3 * left
      → module_serves K plain here made again (Some left) x ≡ t
  pub ends : (here : Spot) (again : Bool) → Begins here.way again (discipline_of x) → let t = module_serves K plain here 0 again None x in
      t.again ≡ false → Ends here.way again (discipline_of x) t.bytes × ((made : ℕ) → module_serves K plain here made again (Some t.bytes) x ≡ t)

pub record IsPlain (x : Standing ℕ) : Type 0 where
  -- numbered from so many on, as at the base of a journal, it has the cells of its line, and is as it was where nothing of a turn is under way
  pub counted : (p : Dir → Tagged → Bool) (side : Side) (up : ℕ) → let into = direction_at Up side in
      kind_weight p side (number_kind side up x.part) ≡ count_by (p into) (number into up (module_line x))
  pub numbered : (side : Side) (up : ℕ) → IsAtRest x → KindRests (number_kind side up x.part)
  pub forgets : (side : Side) (up : ℕ) → IsAtRest x → map_kind (λ c. c.byte) (number_kind side up x.part) ≡ x.part

-- A module as its name is pushed has no cell, rests, and can be in an image, where there are modules of the name.
pub record IsNew (C : Type 0) (K : Behaviour) (name : ModuleName) : Type 1 where
  pub forgets : {D : Type 0} (f : C → D) → module_named K name ≡ map_module f (module_named K name)
  pub weighs : (p : Dir → C → Bool) (side : Side) → module_weight p side (module_named K name) ≡ 0
  pub rests : IsAtRest (module_named {C = C} K name)
  pub good : is_known K name ≡ true → GoodModule (module_named {C = C} K name)
