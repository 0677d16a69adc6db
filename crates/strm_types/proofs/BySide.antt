-- Gets and sets of what there is once for each side.
use Rattle.std.proofs.Common.{◌≡◌, refl, ap, ◌∙◌}
use Rattle.strm_types.specs.declared.names.Side.{Side}
use Rattle.strm_types.specs.declared.names.Side.TheVariants.{Master, Slave}
use Rattle.strm_types.specs.declared.both.Both.{Both}
use Rattle.strm_types.specs.Both.{get, set, AllSides, map_both}
use Rattle.strm_types.specs.Names.{other}

module _ {A : Type 0} where
  pub get-set-same : (side : Side) (x : A) (b : Both A) → get side (set side x b) ≡ x
  get-set-same Master x b = refl
  get-set-same Slave x b = refl

  pub get-set-other : (side : Side) (x : A) (b : Both A) → get (other side) (set side x b) ≡ get (other side) b
  get-set-other Master x b = refl
  get-set-other Slave x b = refl

  -- it hides what stood there
  pub set-same : (side : Side) (x : A) (a b : Both A) → get (other side) a ≡ get (other side) b → set side x a ≡ set side x b
  set-same Master x a b same = ap (λ slave. record { master = x; slave = slave }) same
  set-same Slave x a b same = ap (λ master. record { master = master; slave = x }) same

  -- what holds of each, told for both or of one and the other
  pub each-side : (P : Side → A → Type 0) (b : Both A) → P Master b.master → P Slave b.slave → AllSides P b
  each-side P b m s Master = m
  each-side P b m s Slave = s

  pub side-and-other : (P : Side → A → Type 0) (side : Side) (b : Both A) → P side (get side b) → P (other side) (get (other side) b) → AllSides P b
  side-and-other P Master b here there = each-side P b here there
  side-and-other P Slave b here there = each-side P b there here

  -- and behind one that is set
  pub set-all : (P : Side → A → Type 0) (side : Side) (x : A) (b : Both A) → P side x → AllSides P b → AllSides P (set side x b)
  set-all P Master x b good all = each-side P (set Master x b) good (all Slave)
  set-all P Slave x b good all = each-side P (set Slave x b) (all Master) good

module _ {A B : Type 0} (f : A → B) where
  pub get-map : (side : Side) (b : Both A) → get side (map_both f b) ≡ f (get side b)
  get-map Master b = refl
  get-map Slave b = refl

  pub map-set : (side : Side) (x : A) (b : Both A) → map_both f (set side x b) ≡ set side (f x) (map_both f b)
  map-set Master x b = refl
  map-set Slave x b = refl

pub map-same : {A B : Type 0} (f g : A → B) (b : Both A) → ((side : Side) → f (get side b) ≡ g (get side b)) → map_both f b ≡ map_both g b
map-same f g b same = ap (λ master. record { master = master; slave = f b.slave }) (same Master) ∙ ap (λ slave. record { master = g b.master; slave = slave }) (same Slave)
