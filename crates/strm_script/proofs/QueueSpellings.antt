-- The names of queues are read where they are spelled, and only there.
use Rattle.strm_script.proofs.Prelude.{◌≡◌, ℕ, true, List, ◌∷◌, ◌++◌, Some, option_map, refl, sym, ap, subst, ◌∙◌, inl, inr}
use Rattle.strm_script.specs.Prelude.{Side, Master, Slave, Place, Head, Driver, Way, Up, Down, QueueName}
use Rattle.strm_types.specs.declared.names.ModuleName.TheVariants as modules
use Rattle.strm_types.specs.declared.names.Place.TheVariants as places
use Rattle.std.proofs.Common.{codes}
use Rattle.strm_script.specs.Script.{side_name, has_name, place_name, way_name, queue_name}
use Rattle.strm_script.specs.Named.{and_then, after}
use Rattle.strm_script.specs.ScriptReading.{Front, before, side_at, place_at, way_in, queue_in, placed_in, dotted_in}
use Rattle.strm_script.proofs.Grammar.{and_then-found, option_map-found, after-found}
use Rattle.strm_script.proofs.Fronts.{either-found, whole-found, Stands, before-found, side-found}

place-found : (line : List ℕ) (found : Front Place) → place_at line ≡ Some found → Stands place_name line found
unfolding place_at
place-found line found h = elim (either-found _ _ found h) [
  | inl a ↦ before-found place_name Head line found a
  | inr b ↦ elim (either-found _ _ found b) [
    | inl c ↦ before-found place_name (places.Module modules.Ldterm) line found c
    | inr d ↦ before-found place_name Driver line found d
  ]
]

-- it is one whose queues have a name
value-of : (word : List ℕ) (x : Place) (line : List ℕ) (found : Front Place) → before word x line ≡ Some found → x ≡ found.value
value-of word x line found h =
    let m = option_map-found (λ rest. record { value = x; rest = rest }) (after word line) found h in
    ap (λ (f : Front Place). f.value) m.second

place-has : (line : List ℕ) (found : Front Place) → place_at line ≡ Some found → has_name found.value ≡ true
unfolding place_at
place-has line found h = elim (either-found _ _ found h) [
  | inl a ↦ subst (λ p. has_name p ≡ true) (value-of (codes "head") Head line found a) refl
  | inr b ↦ elim (either-found _ _ found b) [
    | inl c ↦ subst (λ p. has_name p ≡ true) (value-of (codes "ldterm") (places.Module modules.Ldterm) line found c) refl
    | inr d ↦ subst (λ p. has_name p ≡ true) (value-of (codes "drv") Driver line found d) refl
  ]
]

way-found : (line : List ℕ) (way : Way) → way_in line ≡ Some way → line ≡ way_name way
unfolding way_in
way-found line way h = elim (either-found _ _ way h) [
  | inl a ↦ let w = whole-found (codes "r") Up way line a in w.1 ∙ ap way_name w.0
  | inr b ↦ let w = whole-found (codes "w") Down way line b in w.1 ∙ ap way_name w.0
]

placed-found : (side : Side) (place : Place) (line : List ℕ) (name : QueueName) → placed_in side place line ≡ Some name
    → (way : Way) × (line ≡ 46 ∷ way_name way) × (name ≡ record { side = side; place = place; way = way })
placed-found side place line name h =
    let last = and_then-found (λ rest. option_map (λ way. record { side = side; place = place; way = way }) (way_in rest)) (after (codes ".") line) name h in
    let way = option_map-found (λ way. record { side = side; place = place; way = way }) (way_in last.value) name last.second in
    (way.value, after-found (codes ".") line last.value last.first ∙ ap (λ k. 46 ∷ k) (way-found last.value way.value way.first), sym way.second)

sided-found : (side : Side) (line : List ℕ) (name : QueueName) → dotted_in side line ≡ Some name
    → (place : Place) × (way : Way) × (line ≡ 46 ∷ place_name place ++ 46 ∷ way_name way) × (name ≡ record { side = side; place = place; way = way })
    × (has_name place ≡ true)
sided-found side line name h =
    let dot = and_then-found (λ rest. and_then (λ (place : Front Place). placed_in side place.value place.rest) (place_at rest)) (after (codes ".") line) name h in
    let place = and_then-found (λ (place : Front Place). placed_in side place.value place.rest) (place_at dot.value) name dot.second in
    let last = placed-found side place.value.value place.value.rest name place.second in (
      place.value.value,
      last.0,
      after-found (codes ".") line dot.value dot.first
          ∙ ap (λ k. 46 ∷ k) ((place-found dot.value place.value place.first).line_is ∙ ap (λ k. place_name place.value.value ++ k) last.1),
      last.2,
      place-has dot.value place.value place.first,
    )

pub queue-found : (line : List ℕ) (name : QueueName) → queue_in line ≡ Some name → (line ≡ queue_name name) × (has_name name.place ≡ true)
unfolding queue_in
queue-found line name h =
    let side = and_then-found (λ (side : Front Side). dotted_in side.value side.rest) (side_at line) name h in
    let rest = sided-found side.value.value side.value.rest name side.second in (
      (side-found line side.value side.first).line_is ∙ ap (λ k. side_name side.value.value ++ k) rest.2 ∙ ap queue_name (sym rest.3),
      ap (λ (n : QueueName). has_name n.place) rest.3 ∙ rest.4,
    )

-- every name of a queue of a place whose queues have one is read
ldterm-only : (side : Side) (way : Way)
    → let name : QueueName = record { side = side; place = places.Module modules.Ldterm; way = way } in queue_in (queue_name name) ≡ Some name
unfolding queue_in side_at place_at way_in
ldterm-only Master Up = refl
ldterm-only Master Down = refl
ldterm-only Slave Up = refl
ldterm-only Slave Down = refl

parts-only : (side : Side) (place : Place) (way : Way) → has_name place ≡ true
    → queue_in (queue_name (record { side = side; place = place; way = way })) ≡ Some (record { side = side; place = place; way = way })
unfolding queue_in side_at place_at way_in
parts-only Master Head Up has = refl
parts-only Master Head Down has = refl
parts-only Master Driver Up has = refl
parts-only Master Driver Down has = refl
parts-only Slave Head Up has = refl
parts-only Slave Head Down has = refl
parts-only Slave Driver Up has = refl
parts-only Slave Driver Down has = refl
parts-only side (places.Module modules.Ldterm) way has = ldterm-only side way
parts-only side (places.Module modules.Ptem) way has = absurd (cc)
parts-only side (places.Module modules.Pckt) way has = absurd (cc)
parts-only side (places.Module (modules.Own n)) way has = absurd (cc)

pub queue-only : (name : QueueName) → has_name name.place ≡ true → queue_in (queue_name name) ≡ Some name
queue-only name has = parts-only name.side name.place name.way has
