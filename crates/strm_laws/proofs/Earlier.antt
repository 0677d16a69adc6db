-- The nearest earlier queue is the same where the origins of cells are forgotten, and where no module stands it is the one by name.
use Rattle.strm_laws.proofs.Prelude.{ℕ, suc, arith, ◌≡◌, ◌-◌, false, cond, List, [], ◌∷◌, length, map, take, drop, refl, ap, ◌∙◌, min, nat_le, Option}
use Rattle.strm_laws.proofs.Prelude.{None, Some, is_some, option_map, nat_tests, take-map, drop-map, length-map}
use Rattle.strm_laws.specs.Prelude.{MODULES, Side, Master, Slave, Way, Up, Down, place_before, place_past, has_queues, QueuePair, map_pair, place_of}
use Rattle.strm_laws.specs.Earlier.{NoModules, before_among, before_at, before_driver, before_head, modules_on, places_of}
use Rattle.strm_types.specs.ModuleQueues.{first_place, last_place}
use Rattle.strm_laws.specs.Stacked.{Standing, map_module, module_name}
use Rattle.strm_laws.specs.State.{State, stream, map_state}
use Rattle.strm_laws.proofs.LawfulKinds.{lawful}

module _ {C D : Type 0} (f : C → D) where
  abbrev images : List (Standing C) → List (Standing D)
  images ps = map (map_module f) ps

  some-forgets : (queues : Option (QueuePair C)) → is_some (option_map (map_pair f) queues) ≡ is_some queues
  some-forgets None = refl
  some-forgets (Some pair) = refl

  pub queue-forgets : (p : Standing C) → has_queues (map_module f p) ≡ has_queues p
  queue-forgets p = some-forgets p.queues

  pub name-forgets : (p : Standing C) → module_name (map_module f p) ≡ module_name p
  name-forgets p = ((lawful p).image f).name

  first-forgets : (place : ℕ) (ps : List (Standing C)) → first_place place (images ps) ≡ first_place place ps
  first-forgets place [] = refl
  first-forgets place (p ∷ ps) =
      rw (queue-forgets p, first-forgets (suc place) ps) refl

  last-forgets : (place : ℕ) (last : Option ℕ) (ps : List (Standing C)) → last_place place last (images ps) ≡ last_place place last ps
  last-forgets place last [] = refl
  last-forgets place last (p ∷ ps) =
      ap (λ b. last_place (suc place) (cond b (Some place) last) (images ps)) (queue-forgets p)
      ∙ last-forgets (suc place) (cond (has_queues p) (Some place) last) ps

  place-forgets : (way : Way) (at : ℕ) (ps : List (Standing C)) → place_before way at (images ps) ≡ place_before way at ps
  place-forgets Down at ps = ap (λ qs. last_place 1 None qs) (take-map (map_module f) (at - 1) ps) ∙ last-forgets 1 None (take (at - 1) ps)
  place-forgets Up at ps = ap (λ qs. first_place (suc at) qs) (drop-map (map_module f) at ps) ∙ first-forgets (suc at) (drop at ps)

  pub place_past-forgets : (way : Way) (at : ℕ) (ps : List (Standing C)) → place_past way at (images ps) ≡ place_past way at ps
  place_past-forgets Down at ps = ap (λ qs. first_place (suc at) qs) (drop-map (map_module f) at ps) ∙ first-forgets (suc at) (drop at ps)
  place_past-forgets Up at ps = ap (λ qs. last_place 1 None qs) (take-map (map_module f) (at - 1) ps) ∙ last-forgets 1 None (take (at - 1) ps)

  pub places-forget : (ps : List (Standing C)) → places_of (images ps) ≡ places_of ps
  places-forget [] = refl
  places-forget (p ∷ ps) = ap (λ name. place_of name ∷ places_of (images ps)) (name-forgets p) ∙ ap (λ qs. place_of (module_name p) ∷ qs) (places-forget ps)

  before_among-forgets : (side : Side) (way : Way) (at : ℕ) (ps : List (Standing C)) → before_among side way at (images ps) ≡ before_among side way at ps
  before_among-forgets side way at ps =
      rw (places-forget ps, place-forgets way at ps) refl

  pub before_at-forgets : (side : Side) (way : Way) (at : ℕ) (s : State C) → before_at side way at (map_state f s) ≡ before_at side way at s
  before_at-forgets Master way at s = before_among-forgets Master way at s.ends.master.modules
  before_at-forgets Slave way at s = before_among-forgets Slave way at s.ends.slave.modules

  pub modules_on-forgets : (side : Side) (s : State C) → modules_on side (map_state f s) ≡ modules_on side s
  modules_on-forgets Master s = ap (λ n. min MODULES n) (length-map s.ends.master.modules (map_module f))
  modules_on-forgets Slave s = ap (λ n. min MODULES n) (length-map s.ends.slave.modules (map_module f))

  pub before_head-forgets : (side : Side) (s : State C) → before_head side (map_state f s) ≡ before_head side s
  before_head-forgets side s = before_at-forgets side Up 0 s

  pub before_driver-forgets : (side : Side) (s : State C) → before_driver side (map_state f s) ≡ before_driver side s
  before_driver-forgets side s =
      ap (λ n. before_at side Down (suc n) (map_state f s)) (modules_on-forgets side s)
      ∙ before_at-forgets side Down (suc (modules_on side s)) s

-- where no module stands on a pair
module _ {C : Type 0} where
  pub none-among : (side : Side) (s : State C) → NoModules s → (stream side s).modules ≡ []
  none-among side s none = none side

  pub none-on : (side : Side) (s : State C) → NoModules s → modules_on side s ≡ 0
  none-on side s none = ap (λ (ps : List (Standing C)). min MODULES (length ps)) (none-among side s none)

-- no module's place is behind that of three
few-among : (count : ℕ) → nat_le (suc MODULES) (min MODULES count) ≡ false
few-among count = grind (arith, nat_tests)

pub few-behind : {C : Type 0} (side : Side) (s : State C) → nat_le (suc MODULES) (modules_on side s) ≡ false
few-behind side s = few-among (length (stream side s).modules)
