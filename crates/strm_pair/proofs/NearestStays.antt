-- The nearest earlier queue goes by the names of the modules and by which have queues, so it is the same behind what a module does.
use Rattle.strm_pair.proofs.Prelude.{ℕ, zero, suc, ◌≡◌, ◌-◌, Bool, cond, List, [], ◌∷◌, map, take, drop, refl, sym, ap, ◌∙◌, Option, None, Some}
use Rattle.strm_pair.proofs.Prelude.{is_some, option_map, queue-names}
use Rattle.strm_pair.specs.Prelude.{Side, Way, Up, Down, first_place, change_among, Queue, has_queues, have_queues, place_of, turn_ended, Master}
use Rattle.strm_pair.specs.Prelude.{Slave, Spot}
use Rattle.strm_pair.specs.Prelude.{queue_ended, State, stream, with_stream, before_among, before_at, before_by, places_of, Standing, module_name}
use Rattle.strm_pair.specs.Prelude.{StoreValue}
use Rattle.std.specs.List.{AllByRecursion}
use Rattle.std.proofs.lemmas.List.{take-map, drop-map}
use Rattle.strm_types.specs.ModuleQueues.{last_place, place_before}
use Rattle.strm_types.specs.Standings.{QueuePair, pair_changed, queue_changed}
use Rattle.strm_pair.specs.declared.streams.Streams.{Streams}
use Rattle.strm_pair.specs.AnyModules.{HasAsNamed, all-have}
use Rattle.strm_pair.specs.Pairs.{state_in, end_at}
use Rattle.strm_pair.specs.Stacks.{IsStackHeld, modules_in}
use Rattle.strm_pair.proofs.ModuleSteps.{SameNames}
use Rattle.strm_pair.proofs.Sides.{modules-are}

-- the first place of one that has queues, and the last one, where so far it was this
abbrev first_of : ℕ → List Bool → Option ℕ
first_of place [] = None
first_of place (has ∷ more) = cond has (Some place) (first_of (suc place) more)

abbrev last_of : ℕ → Option ℕ → List Bool → Option ℕ
last_of place last [] = last
last_of place last (has ∷ more) = last_of (suc place) (cond has (Some place) last) more

-- the nearest one before a place
abbrev nearest_before : Way → ℕ → List Bool → Option ℕ
nearest_before Down at all = last_of 1 None (take (at - 1) all)
nearest_before Up at all = first_of (suc at) (drop at all)

abbrev all_have : List (Standing ℕ) → List Bool
all_have ps = map has_queues ps

first-is : (place : ℕ) (ps : List (Standing ℕ)) → first_place place ps ≡ first_of place (all_have ps)
first-is place [] = refl
first-is place (p ∷ ps) = ap (λ o. cond (has_queues p) (Some place) o) (first-is (suc place) ps)

last-is : (place : ℕ) (last : Option ℕ) (ps : List (Standing ℕ)) → last_place place last ps ≡ last_of place last (all_have ps)
last-is place last [] = refl
last-is place last (p ∷ ps) = last-is (suc place) (cond (has_queues p) (Some place) last) ps

place-is : (way : Way) (at : ℕ) (ps : List (Standing ℕ)) → place_before way at ps ≡ nearest_before way at (all_have ps)
place-is Down at ps = last-is 1 None (take (at - 1) ps) ∙ ap (last_of 1 None) (sym (take-map has_queues (at - 1) ps))
place-is Up at ps = first-is (suc at) (drop at ps) ∙ ap (first_of (suc at)) (sym (drop-map has_queues at ps))

places-named : (ps : List (Standing ℕ)) → places_of ps ≡ map place_of (map module_name ps)
places-named [] = refl
places-named (p ∷ ps) = ap (λ qs. place_of (module_name p) ∷ qs) (places-named ps)

before-named : (side : Side) (way : Way) (at : ℕ) (ps : List (Standing ℕ))
    → before_among side way at ps ≡ before_by side way at (map place_of (map module_name ps)) (nearest_before way at (all_have ps))
before-named side way at ps = rw (places-named ps, place-is way at ps) refl

-- before modules of the same names that have queues or not
before-same : (side : Side) (way : Way) (at : ℕ) (ps qs : List (Standing ℕ)) → SameNames ps qs → all_have ps ≡ all_have qs → before_among side way at ps ≡ before_among side way at qs
before-same side way at ps qs same has =
    before-named side way at ps
    ∙ ap (λ ns. before_by side way at (map place_of ns) (nearest_before way at (all_have ps))) same
    ∙ ap (λ all. before_by side way at (map place_of (map module_name qs)) (nearest_before way at all)) has
    ∙ sym (before-named side way at qs)

-- modules that stand in a store have queues where those of their names have
named-have : (ps : List (Standing ℕ)) → AllByRecursion HasAsNamed ps → all_have ps ≡ map have_queues (map module_name ps)
named-have [] has = refl
named-have (p ∷ ps) has = ap (λ b. b ∷ all_have ps) has.0 ∙ ap (λ all. have_queues (module_name p) ∷ all) (named-have ps has.1)

-- on streams whose modules of a side have the names that they had
pub before-stays : (s t : StoreValue) (p q : Streams) (side : Side) (way : Way) (at : ℕ) → IsStackHeld s (end_at side p).stack → IsStackHeld t (end_at side q).stack
    → SameNames (modules_in t (end_at side q).stack) (modules_in s (end_at side p).stack) → before_at side way at (state_in t q) ≡ before_at side way at (state_in s p)
before-stays s t p q side way at before behind same =
    let ps = modules_in t (end_at side q).stack in
    let qs = modules_in s (end_at side p).stack in
    let has =
    named-have ps (all-have t (end_at side q).stack.modules.items behind.each)
    ∙ ap (map have_queues) same
    ∙ sym (named-have qs (all-have s (end_at side p).stack.modules.items before.each)) in
    ap (before_among side way at) (modules-are t q side)
    ∙ before-same side way at ps qs same has
    ∙ ap (before_among side way at) (sym (modules-are s p side))

-- a queue that changes is still there
change-has : (way : Way) (change : Queue ℕ → Queue ℕ) (p : Standing ℕ) → has_queues (queue_changed way change p) ≡ has_queues p
change-has way change p = by p.queues
  where
    by : (queues : Option (QueuePair ℕ)) → is_some (option_map (pair_changed way change) queues) ≡ is_some queues
    by None = refl
    by (Some pair) = refl

changes-have : (way : Way) (change : Queue ℕ → Queue ℕ) (i : ℕ) (ps : List (Standing ℕ)) → all_have (change_among (queue_changed way change) i ps) ≡ all_have ps
changes-have way change i [] = refl
changes-have way change zero (p ∷ ps) = ap (λ b. b ∷ all_have ps) (change-has way change p)
changes-have way change (suc i) (p ∷ ps) = ap (λ all. has_queues p ∷ all) (changes-have way change i ps)

-- behind the end of a turn of a module's queue
pub before-ended : (side : Side) (way : Way) (at : ℕ) (here : Spot) (took : Bool) (st : State ℕ)
    → before_at side way at (with_stream side (queue_ended here took (stream side st)) st) ≡ before_at side way at st
before-ended Master way at here took st =
    before-same Master way at _ _ (queue-names here.way (turn_ended took) (here.at - 1) (stream Master st).modules) (changes-have here.way (turn_ended took) (here.at - 1) (stream Master st).modules)
before-ended Slave way at here took st =
    before-same Slave way at _ _ (queue-names here.way (turn_ended took) (here.at - 1) (stream Slave st).modules) (changes-have here.way (turn_ended took) (here.at - 1) (stream Slave st).modules)
