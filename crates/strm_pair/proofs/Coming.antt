-- What waits before the read queue of the module on top: what stands on the read queue of the nearest module below it that has queues, or on the
-- other side's driver's.
use Rattle.strm_pair.proofs.Prelude.{ℕ, zero, suc, ◌≡◌, ◌≤◌, ◌<◌, ◌-◌, Bool, true, false, cond, List, [], ◌∷◌, ◌++◌, length, map, refl, sym, ap}
use Rattle.strm_pair.proofs.Prelude.{subst, ◌∙◌, arith, not, nat_le, nat_lt, nat_tests, slice_index_or, min, Option, None, Some, IfSome, index-map}
use Rattle.strm_pair.proofs.Prelude.{append-nil, option_map}
use Rattle.strm_pair.specs.Prelude.{MODULES, ModuleName, Place, QueueName, Side, Master, Slave, Way, Up, State, stream, Standing, module_name, Message}
use Rattle.strm_pair.specs.Prelude.{messages_at, at_place, none_there, have_queues, has_queues, same_module, driver_of, other, is_none_left, first_place}
use Rattle.strm_pair.specs.Prelude.{before_among, before_by, before_at, places_of, place_of, with_modules, enable_if, enable_some, EachOnce}
use Rattle.std.specs.Prelude.{flat_map}
use Rattle.strm_types.specs.declared.names.Place.TheVariants as places
use Rattle.strm_types.proofs.EnabledNames.{same_module-self}
use Rattle.strm_laws.specs.Earlier.{before_modules, queue_named}
use Rattle.strm_laws.specs.Pushes.{enable_waiting, let_come, messages_of, messages_on}
use Rattle.strm_laws.specs.StackCosts.{stands_at, times_there}
use Rattle.strm_laws.proofs.StackOnce.{pop-once, top-times}
use Rattle.strm_pair.specs.Streams.{AreApart}
use Rattle.strm_pair.proofs.Enabling.{found-long}

-- where modules of a name are nowhere, none of them has messages
none-named : (name : ModuleName) (way : Way) (ps : List (Standing ℕ)) → ((at : ℕ) → times_there name (map module_name ps) at ≡ 0)
    → flat_map (messages_of name way) ps ≡ []
none-named name way [] none = refl
none-named name way (p ∷ ps) none = by (same_module (module_name p) name) (none-named name way ps) refl
  where
    ns : List ModuleName
    ns = map module_name ps

    by : (same : Bool) → (((at : ℕ) → times_there name ns at ≡ 0) → flat_map (messages_of name way) ps ≡ [])
        → same_module (module_name p) name ≡ same → cond same (messages_at way p) [] ++ flat_map (messages_of name way) ps ≡ []
    by true rest is = absurd (omega (arith, none 1, top-times name (module_name p) ns 0, ap (λ (b : Bool). cond {A = ℕ} b 1 0) is))
    by false rest is = rest (λ at. omega (arith, none (suc at), top-times name (module_name p) ns at))

-- one stands at the place where its name does
stands-there : (name : ModuleName) (i : ℕ) (ps : List (Standing ℕ)) → i < length ps → module_name (slice_index_or ps i none_there) ≡ name
    → stands_at name (map module_name ps) i ≡ true
stands-there name i [] low is = absurd (omega (arith, low))
stands-there name zero (p ∷ ps) low is = subst (λ n. same_module (module_name p) n ≡ true) is (same_module-self (module_name p))
stands-there name (suc i) (p ∷ ps) low is = stands-there name i ps (omega (arith, low)) is

-- what all modules of a name have is what that one has
only-named : (name : ModuleName) (way : Way) (i : ℕ) (ps : List (Standing ℕ)) → i < length ps → module_name (slice_index_or ps i none_there) ≡ name
    → EachOnce (map module_name ps) → flat_map (messages_of name way) ps ≡ messages_at way (slice_index_or ps i none_there)
only-named name way i [] low is once = absurd (omega (arith, low))
only-named name way zero (p ∷ ps) low is once =
    let ns = map module_name ps in
    let same : same_module (module_name p) name ≡ true = subst (λ n. same_module (module_name p) n ≡ true) is (same_module-self (module_name p)) in
    let one = ap (λ (b : Bool). cond {A = ℕ} b 1 0) same in
    let none = none-named name way ps (λ at. omega (arith, once.once name (suc at), top-times name (module_name p) ns at, one)) in
    ap (λ b. cond b (messages_at way p) [] ++ flat_map (messages_of name way) ps) same
    ∙ ap (λ ms. messages_at way p ++ ms) none
    ∙ append-nil (messages_at way p)
only-named name way (suc i) (p ∷ ps) low is once =
    by (same_module (module_name p) name) (only-named name way i ps (omega (arith, low)) is (pop-once (module_name p) (map module_name ps) once)) refl
  where
    ns : List ModuleName
    ns = map module_name ps

    by : (same : Bool) → flat_map (messages_of name way) ps ≡ messages_at way (slice_index_or ps i none_there) → same_module (module_name p) name ≡ same
        → cond same (messages_at way p) [] ++ flat_map (messages_of name way) ps ≡ messages_at way (slice_index_or ps i none_there)
    by true more same =
        let there = ap (λ (b : Bool). cond {A = ℕ} b 1 0) (stands-there name i ps (omega (arith, low)) is) in
        let one = ap (λ (b : Bool). cond {A = ℕ} b 1 0) same in
        absurd (omega (arith, once.once name (suc (suc i)), top-times name (module_name p) ns (suc i), one, there))
    by false more same = more

some-left : (ms : List (Message ℕ)) → nat_lt 0 (length ms) ≡ not (is_none_left ms)
some-left [] = refl
some-left (m ∷ ms) = grind (arith, nat_tests)

module _ (side : Side) (s : State ℕ) where
  abbrev on : List (Standing ℕ)
  on = (stream side s).modules

  -- messages wait there where the module's queue has any
  pub module-waits : (place : ℕ) → AreApart on → 0 < place → place ≤ length on
      → IfSome (queue_named side Up (slice_index_or (places_of on) (place - 1) None))
      (λ name. nat_lt 0 (length (at_place (messages_at Up) [] place on)) ≡ not (is_none_left (messages_on name s)))
  module-waits place apart inside within =
      subst (λ o. IfSome (queue_named side Up o) (λ name. nat_lt 0 (length (at_place (messages_at Up) [] place on)) ≡ not (is_none_left (messages_on name s))))
      (sym (index-map none_there (λ q. place_of (module_name q)) None i on low)) (by (have_queues n))
    where
      i : ℕ
      i = place - 1

      low : i < length on
      low = omega (arith, inside, within)

      p : Standing ℕ
      p = slice_index_or on i none_there

      n : ModuleName
      n = module_name p

      by : (has : Bool) → IfSome (queue_named side Up (cond has (Some (places.Module n)) None))
          (λ name. nat_lt 0 (length (at_place (messages_at Up) [] place on)) ≡ not (is_none_left (messages_on name s)))
      by false = tt
      by true =
          ap (λ ms. nat_lt 0 (length ms)) (index-map none_there (messages_at Up) [] i on low)
          ∙ some-left (messages_at Up p)
          ∙ ap (λ ms. not (is_none_left ms)) (sym (only-named n Up i on low refl apart))

  -- and before all modules where the other side's driver's has
  pub driver-waits : IfSome (before_modules side Up (min MODULES (length (places_of on))) 1)
      (λ name. not (is_none_left (stream (other side) s).driver.queue.messages) ≡ not (is_none_left (messages_on name s)))
  driver-waits = by (nat_le 1 (min MODULES (length (places_of on))))
    where
      by : (b : Bool) → IfSome (cond b (Some (driver_of (other side))) None)
          (λ name. not (is_none_left (stream (other side) s).driver.queue.messages) ≡ not (is_none_left (messages_on name s)))
      by true = refl
      by false = tt

-- a module more above the others counts one more
first-next : (k : ℕ) (ps : List (Standing ℕ)) → first_place (suc k) ps ≡ option_map (λ n. suc n) (first_place k ps)
first-next k [] = refl
first-next k (p ∷ ps) = by (has_queues p) (first-next (suc k) ps)
  where
    by : (has : Bool) → first_place (suc (suc k)) ps ≡ option_map (λ n. suc n) (first_place (suc k) ps)
        → cond has (Some (suc k)) (first_place (suc (suc k)) ps) ≡ option_map (λ n. suc n) (cond has (Some k) (first_place (suc k) ps))
    by true rest = refl
    by false rest = rest

low : (n : ℕ) → nat_le 1 (min MODULES (suc n)) ≡ true
low n = grind (arith, nat_tests)

from-none : (n : ℕ) → nat_le 0 n ≡ true
from-none n = grind (arith, nat_tests)

before-more : (side : Side) (x : Option Place) (xs : List (Option Place)) (o : Option ℕ)
    → before_by side Up 1 (x ∷ xs) (option_map (λ n. suc n) (option_map (λ n. suc n) o)) ≡ before_by side Up 0 xs (option_map (λ n. suc n) o)
before-more side x xs None = ap (λ b. cond b (Some (driver_of (other side))) None) (low (length xs) ∙ sym (from-none (min MODULES (length xs))))
before-more side x xs (Some i) =
    let above : suc (suc i) - 1 ≡ suc i = omega arith in
    let there : suc i - 1 ≡ i = omega arith in
    ap (λ k. queue_named side Up (slice_index_or (x ∷ xs) k None)) above ∙ ap (λ k. queue_named side Up (slice_index_or xs k None)) (sym there)

before-top : (side : Side) (p : Standing ℕ) (ps : List (Standing ℕ)) → before_among side Up 1 (p ∷ ps) ≡ before_among side Up 0 ps
before-top side p ps =
    let one = first-next 0 ps in
    let two = first-next 1 ps ∙ ap (option_map (λ n. suc n)) one in
    ap (before_by side Up 1 (places_of (p ∷ ps))) two
    ∙ before-more side (place_of (module_name p)) (places_of ps) (first_place 0 ps)
    ∙ ap (before_by side Up 0 (places_of ps)) (sym one)

-- so the queue before that of a module that is pushed is the one that was before the head's
pub before-pushed : (side : Side) (p : Standing ℕ) (s : State ℕ)
    → before_at side Up 1 (with_modules side (p ∷ (stream side s).modules) s) ≡ before_at side Up 0 s
before-pushed Master p s = before-top Master p (stream Master s).modules
before-pushed Slave p s = before-top Slave p (stream Slave s).modules

-- what comes goes by what waits there
pub comes-where : (s : State ℕ) (o : Option QueueName) (waits : Bool) → IfSome o (λ name. waits ≡ not (is_none_left (messages_on name s)))
    → enable_some waits o s.enabled ≡ enable_waiting o s
comes-where s None waits is = by waits
  where
    by : (waits : Bool) → enable_some waits None s.enabled ≡ s.enabled
    by true = refl
    by false = refl
comes-where s (Some name) waits is = ap (λ b. enable_if b name s.enabled) is

-- no more is enabled than where it comes
pub comes-few : (waits : Bool) (o : Option QueueName) (names : List QueueName) → length (enable_some true o names) ≤ 14
    → length (enable_some waits o names) ≤ 14
comes-few true o names few = few
comes-few false o names few = omega (arith, few, found-long o names)

-- nothing else of the streams changes by it
pub comes-only : (comes : Bool) (side : Side) (s : State ℕ) → record s { enabled = (let_come comes side s).enabled } ≡ let_come comes side s
comes-only true side s = refl
comes-only false side s = refl
