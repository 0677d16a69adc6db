-- A turn of an enabled queue leaves less work, and so turns come to rest.
use Rattle.strm_laws.proofs.Prelude.{ℕ, zero, suc, ◌≡◌, ◌≤◌, ◌<◌, ◌+◌, ◌-◌, ◌⊎◌, inl, inr, Bool, true, false, cond, List, [], ◌∷◌, length, map, take}
use Rattle.strm_laws.proofs.Prelude.{refl, sym, ap, subst, ◌∙◌, arith, ◌&&◌, ◌||◌, not, nat_le, count_by, Option, None, Some, nat_tests, sum_by-cons}
use Rattle.strm_laws.proofs.Prelude.{same_queue-sound}
use Rattle.strm_laws.specs.Prelude.{Turn, Moved, Blocked, Idle, MODULES, ModuleName, Place, Driver, QueueName, Side, Master, Slave, Way, Up}
use Rattle.strm_laws.specs.Prelude.{Down, EndClosed, Spot, Cells, Goes, Took, Message, cells_of, direction_at, driver_put, head_put, is_open}
use Rattle.strm_laws.specs.Prelude.{has_queues_at, have_queues, is_enabled, other, same_place, same_queue, without, place_of}
use Rattle.std.specs.List.{list_any}
use Rattle.std.proofs.lemmas.List.Sums.{count_by-le-length}
use Rattle.strm_types.specs.declared.names.ModuleName.TheVariants as names
use Rattle.strm_types.specs.declared.names.Place.TheVariants.{Head}
use Rattle.strm_types.specs.declared.names.Place.TheVariants as places
use Rattle.strm_laws.specs.Behaviours.{Behaviour}
use Rattle.strm_laws.specs.Earlier.{driver_place, places_of}
use Rattle.strm_laws.specs.ModuleTurns.{module_turned, named_from, place_named, turned_named, turned_there}
use Rattle.strm_laws.specs.Puts.{across_of, earlier_at, noted}
use Rattle.strm_laws.specs.Rest.{EchoesOnce, NoOwnQueues, NoneQueues, count_enabled, count_others, echoes, is_pckt, moves, own_queues, packs_below}
use Rattle.strm_laws.specs.Rest.{queue_names, work}
use Rattle.strm_laws.specs.Restorable.{is_ldterm}
use Rattle.strm_laws.specs.StackCosts.{Stands, stands_of, stands_on}
use Rattle.strm_laws.specs.Stacked.{Standing, module_name}
use Rattle.strm_laws.specs.State.{State, stream, with_stream}
use Rattle.strm_laws.specs.Step.{IsTurn}
use Rattle.strm_laws.specs.Turns.{turned, turned_at}
use Rattle.strm_types.proofs.EnabledNames.{same_queue-flip}
use Rattle.strm_laws.proofs.GoodStreams.{AreStreams}
use Rattle.strm_laws.proofs.NamesAdded.{one-other, others-keep, without-adds}
use Rattle.strm_laws.proofs.NamesKept.{turn-kept}
use Rattle.strm_laws.proofs.RestStates.{Fit, FitNames, names-on}
use Rattle.strm_laws.proofs.RestTurns.{Answers, Leaves, driver-leaves, there-leaves}

-- Enabled queues: one that is taken off the list is no longer among them, and each other one is there as before.
gone : (name : QueueName) (names : List QueueName) → is_enabled name (without name names) ≡ false
gone name [] = refl
gone name (x ∷ names) = at (same_queue x name) refl (gone name names)
  where
    at : (same : Bool) → same_queue x name ≡ same → is_enabled name (without name names) ≡ false → is_enabled name (cond (not same) (x ∷ without name names) (without name names)) ≡ false
    at true is ih = ih
    at false is ih = ap (λ b. b || is_enabled name (without name names)) is ∙ ih

kept : (a name : QueueName) (names : List QueueName) → is_enabled a (without name names) ≡ true → is_enabled a names ≡ true
kept a name [] is = is
kept a name (x ∷ names) is = at (not (same_queue x name)) (same_queue x a) refl is (kept a name names)
  where
    at : (stays same : Bool) → same_queue x a ≡ same → (let ns = without name names in is_enabled a (cond stays (x ∷ ns) ns)) ≡ true → (is_enabled a (without name names) ≡ true → is_enabled a names ≡ true) → (same || is_enabled a names) ≡ true
    at stays true same is ih = refl
    at true false same is ih = ih (sym (ap (λ b. b || is_enabled a (without name names)) same) ∙ is)
    at false false same is ih = ih is

module _ (name : QueueName) (names : List QueueName) (enabled : is_enabled name names ≡ true) where
  one-less : (a : QueueName) → cond (is_enabled a (without name names)) 1 0 + cond (same_queue name a) 1 0 ≤ cond {A = ℕ} (is_enabled a names) 1 0
  one-less a = at (same_queue name a) refl (is_enabled a (without name names)) refl (is_enabled a names) refl
    where
      at : (same : Bool) → same_queue name a ≡ same → (behind : Bool) → is_enabled a (without name names) ≡ behind → (before : Bool) → is_enabled a names ≡ before
          → cond behind 1 0 + cond same 1 0 ≤ cond {A = ℕ} before 1 0
      at true is true behind before was = absurd (cc (subst (λ n. is_enabled n (without name names) ≡ false) (same_queue-sound name a is) (gone name names), behind))
      at true is false behind true was = omega arith
      at true is false behind false was = absurd (cc (subst (λ n. is_enabled n names ≡ true) (same_queue-sound name a is) enabled, was))
      at false is true behind true was = omega arith
      at false is true behind false was = absurd (cc (kept a name names behind, was))
      at false is false behind before was = omega arith

  all-less : (among : List QueueName) → count_by (λ a. is_enabled a (without name names)) among + count_by (λ a. same_queue name a) among ≤ count_by (λ a. is_enabled a names) among
  all-less [] = omega arith
  all-less (a ∷ among) =
      omega (
        arith,
        all-less among,
        one-less a,
        sum_by-cons (λ x. cond (is_enabled x (without name names)) 1 0) a among,
        sum_by-cons (λ x. cond (same_queue name x) 1 0) a among,
        sum_by-cons (λ x. cond (is_enabled x names) 1 0) a among,
      )

-- a name that is among some is one of them
named-some : (name : QueueName) (among : List QueueName) → is_enabled name among ≡ true → 1 ≤ count_by (λ a. same_queue name a) among
named-some name [] is = absurd (cc)
named-some name (a ∷ among) is = at (same_queue a name) refl is (named-some name among)
  where
    at : (same : Bool) → same_queue a name ≡ same → (same || is_enabled name among) ≡ true → (is_enabled name among ≡ true → 1 ≤ count_by (λ a. same_queue name a) among)
        → 1 ≤ count_by (λ a. same_queue name a) (a ∷ among)
    at true same is more =
        let counts : ◌≡◌ {A = ℕ} (cond (same_queue name a) 1 0) 1 = ap (λ b. cond b 1 0) (same_queue-flip a name same) in
        omega (arith, counts, sum_by-cons (λ x. cond (same_queue name x) 1 0) a among)
    at false same is more = let behind = more is in omega (arith, behind, sum_by-cons (λ x. cond (same_queue name x) 1 0) a among)

-- Other names: one that is taken off the list is counted no more.
other-off : (name : QueueName) (names : List QueueName) → is_enabled name queue_names ≡ false → is_enabled name names ≡ true
    → suc (count_others (without name names)) ≤ count_others names
other-off name [] bare is = absurd (cc)
other-off name (x ∷ names) bare is = at (same_queue x name) refl is (other-off name names bare)
  where
    at : (same : Bool) → same_queue x name ≡ same → (same || is_enabled name names) ≡ true → (is_enabled name names ≡ true → suc (count_others (without name names)) ≤ count_others names)
        → suc (count_others (cond (not same) (x ∷ without name names) (without name names))) ≤ count_others (x ∷ names)
    at true same is more =
        let counts : ◌≡◌ {A = ℕ} (cond (not (is_enabled x queue_names)) 1 0) 1 =
        ap (λ b. cond (not b) 1 0) (subst (λ (q : QueueName). is_enabled q queue_names ≡ false) (sym (same_queue-sound x name same)) bare) in
        omega (arith, counts, one-other x names, without-adds name names)
    at false same is more = let less = more is in omega (arith, less, one-other x names, one-other x (without name names))

pub taken-off : (name : QueueName) (names : List QueueName) → is_enabled name names ≡ true → suc (count_enabled (without name names)) ≤ count_enabled names
taken-off name names enabled = at (is_enabled name queue_names) refl
  where
    at : (among : Bool) → is_enabled name queue_names ≡ among → suc (count_enabled (without name names)) ≤ count_enabled names
    at true among = omega (arith, all-less name names enabled queue_names, named-some name queue_names among, without-adds name names)
    at false bare = omega (arith, all-less name names enabled queue_names, other-off name names bare enabled)

few-enabled : (names : List QueueName) → count_enabled names ≤ 12 + count_others names
few-enabled names = let twelve : length queue_names ≡ 12 = refl in omega (arith, twelve, count_by-le-length (λ a. is_enabled a names) queue_names)

-- the place of the ldterm on a stream, 0 where none stands
ldterm_from : ℕ → List ModuleName → ℕ
ldterm_from at [] = 0
ldterm_from at (n ∷ ns) = cond (is_ldterm n) at (ldterm_from (suc at) ns)

neither : (a b : Bool) → (a || b) ≡ false → (a ≡ false) × (b ≡ false)
neither true b none = absurd (cc)
neither false b none = (refl, none)

fits-none : (ns : List ModuleName) (echoed across : Bool) (post at : ℕ) → list_any own_queues ns ≡ false → list_any is_ldterm ns ≡ false → (echoed ≡ false) ⊎ (list_any is_pckt ns ≡ false) → FitNames echoed across post at ns
fits-none [] echoed across post at own none free = tt
fits-none (names.Ldterm ∷ ns) echoed across post at own none free = absurd (cc)
fits-none (names.Ptem ∷ ns) echoed across post at own none free = (tt, fits-none ns echoed across post (suc at) own none free)
fits-none (names.Pckt ∷ ns) echoed across post at own none (inl bare) =
    (ap (λ b. b && nat_le post (at - 1)) bare, fits-none ns echoed across post (suc at) own none (inl bare))
fits-none (names.Pckt ∷ ns) echoed across post at own none (inr free) = absurd (cc)
fits-none (names.Own n ∷ ns) echoed across post at own none free =
    let parts = neither (have_queues (names.Own n)) _ own in (parts.0, fits-none ns echoed across post (suc at) parts.1 none free)

none-counted : (ns : List ModuleName) → count_by is_ldterm ns ≤ 0 → list_any is_ldterm ns ≡ false
none-counted [] none = refl
none-counted (names.Ldterm ∷ ns) none = absurd (omega (arith, none, sum_by-cons (λ n. cond (is_ldterm n) 1 0) names.Ldterm ns))
none-counted (n ∷ ns) none = none-counted ns (omega (arith, none, sum_by-cons (λ n. cond (is_ldterm n) 1 0) n ns))

-- it is at this place or behind it
ldterm-from : (ns : List ModuleName) (at : ℕ) → list_any is_ldterm ns ≡ true → at ≤ ldterm_from at ns
unfolding ldterm_from
ldterm-from [] at is = absurd (cc)
ldterm-from (names.Ldterm ∷ ns) at is = omega arith
ldterm-from (n ∷ ns) at is = let behind = ldterm-from ns (suc at) is in omega (arith, behind)

not-above : (echoed : Bool) (post at : ℕ) → 0 < at → at ≤ post → (echoed && nat_le post (at - 1)) ≡ false
not-above false post at some less = refl
not-above true post at some less = let below : at - 1 < post = omega (arith, some, less) in let no_more : nat_le post (at - 1) ≡ false = grind (arith, nat_tests) in no_more

fits-one : (ns : List ModuleName) (echoed across : Bool) (at : ℕ) → list_any own_queues ns ≡ false → 0 < at → echoed ≡ true → across ≡ false → list_any is_ldterm ns ≡ true → count_by is_ldterm ns ≤ 1 → packs_below ns ≡ false
    → FitNames echoed across (ldterm_from at ns) at ns
unfolding ldterm_from
fits-one [] echoed across at own some here there stands one free = tt
fits-one (names.Ldterm ∷ ns) echoed across at own some here there stands one free =
    ((here, there, refl), fits-none ns echoed across at (suc at) own (none-counted ns (omega (arith, one, sum_by-cons (λ n. cond (is_ldterm n) 1 0) names.Ldterm ns))) (inr free))
fits-one (names.Ptem ∷ ns) echoed across at own some here there stands one free =
    (tt, fits-one ns echoed across (suc at) own (omega arith) here there stands (omega (arith, one, sum_by-cons (λ n. cond (is_ldterm n) 1 0) names.Ptem ns)) free)
fits-one (names.Own n ∷ ns) echoed across at own some here there stands one free =
    let less = sum_by-cons (λ n. cond (is_ldterm n) 1 0) (names.Own n) ns in
    let parts = neither (have_queues (names.Own n)) _ own in
    (parts.0, fits-one ns echoed across (suc at) parts.1 (omega arith) here there stands (omega (arith, one, less)) free)
fits-one (names.Pckt ∷ ns) echoed across at own some here there stands one free = (
  not-above echoed (ldterm_from (suc at) ns) at some (let behind = ldterm-from ns (suc at) stands in omega (arith, behind)),
  fits-one ns echoed across (suc at) own (omega arith) here there stands (omega (arith, one, sum_by-cons (λ n. cond (is_ldterm n) 1 0) names.Pckt ns)) free,
)

abbrev posts_of : Stands → Side → ℕ
posts_of all side = ldterm_from 1 (stands_on side all)

fits-once : (all : Stands) → EchoesOnce all → Fit all (posts_of all)
fits-once all once side = at (echoes all side) refl
  where
    at : (echoed : Bool) → echoes all side ≡ echoed → FitNames (echoes all side) (echoes all (other side)) (posts_of all side) 1 (stands_on side all)
    at true is = fits-one (stands_on side all) (echoes all side) (echoes all (other side)) 1 (once.no_own side) (omega arith) is (once.one_side side is) is (once.one_there side) (once.no_packets side)
    at false is = fits-none (stands_on side all) (echoes all side) (echoes all (other side)) (posts_of all side) 1 (once.no_own side) is (inl is)

-- of names that have no queues none is an ldterm's, and none a user's own with queues
none-echoes : (ns : List ModuleName) → list_any have_queues ns ≡ false → list_any is_ldterm ns ≡ false
none-echoes [] none = refl
none-echoes (names.Ldterm ∷ ns) none = absurd (cc)
none-echoes (names.Ptem ∷ ns) none = none-echoes ns none
none-echoes (names.Pckt ∷ ns) none = none-echoes ns none
none-echoes (names.Own n ∷ ns) none = at (have_queues (names.Own n)) none (none-echoes ns)
  where
    at : (has : Bool) → (has || list_any have_queues ns) ≡ false → (list_any have_queues ns ≡ false → list_any is_ldterm ns ≡ false) → list_any is_ldterm ns ≡ false
    at true none more = absurd (cc)
    at false none more = more none

none-own : (ns : List ModuleName) → list_any have_queues ns ≡ false → list_any own_queues ns ≡ false
none-own [] none = refl
none-own (names.Ldterm ∷ ns) none = absurd (cc)
none-own (names.Ptem ∷ ns) none = none-own ns none
none-own (names.Pckt ∷ ns) none = none-own ns none
none-own (names.Own n ∷ ns) none = at (have_queues (names.Own n)) none (none-own ns)
  where
    at : (has : Bool) → (has || list_any have_queues ns) ≡ false → (list_any have_queues ns ≡ false → list_any own_queues ns ≡ false) → (has || list_any own_queues ns) ≡ false
    at true none more = absurd (cc)
    at false none more = more none

-- where none stands
pub plain-once : (all : Stands) → NoneQueues all → EchoesOnce all
plain-once all none = record {
  one_side = λ side is. none-echoes (stands_on (other side) all) (none (other side));
  one_there = λ side. few (stands_on side all) (none-echoes (stands_on side all) (none side));
  no_packets = λ side. packs (stands_on side all) (none-echoes (stands_on side all) (none side));
  no_own = λ side. none-own (stands_on side all) (none side);
}
  where
    few : (ns : List ModuleName) → list_any is_ldterm ns ≡ false → count_by is_ldterm ns ≤ 1
    few [] none = omega arith
    few (names.Ldterm ∷ ns) none = absurd (cc)
    few (n ∷ ns) none = omega (arith, few ns none, sum_by-cons (λ n. cond (is_ldterm n) 1 0) n ns)

    packs : (ns : List ModuleName) → list_any is_ldterm ns ≡ false → packs_below ns ≡ false
    packs [] none = refl
    packs (names.Ldterm ∷ ns) none = absurd (cc)
    packs (n ∷ ns) none = packs ns none

-- a module's queue is at a place from 1 on, and where no module with queues stands there is none
named-least : (place : Place) (from : ℕ) (places : List (Option Place)) (at : ℕ) → named_from place from places ≡ Some at → from ≤ at
named-least place from [] at is = absurd (cc)
named-least place from (None ∷ places) at is = let least = named-least place (suc from) places at is in omega (arith, least)
named-least place from (Some other ∷ places) at is = by (same_place other place) is (λ more. named-least place (suc from) places at more)
  where
    by : (same : Bool) → cond same (Some from) (named_from place (suc from) places) ≡ Some at → (named_from place (suc from) places ≡ Some at → suc from ≤ at) → from ≤ at
    by true is least = let same : from ≡ at = cc in omega (arith, same)
    by false is least = let more = least is in omega (arith, more)

module _ {C : Type 0} where
  named-none : (place : Place) (n from : ℕ) (ps : List (Standing C)) → list_any have_queues (map module_name ps) ≡ false → named_from place from (places_of (take n ps)) ≡ None
  named-none place zero from ps none = refl
  named-none place (suc n) from [] none = refl
  named-none place (suc n) from (p ∷ ps) none = at (have_queues (module_name p)) none (named-none place n (suc from) ps)
    where
      at : (has : Bool) → (has || list_any have_queues (map module_name ps)) ≡ false
          → (list_any have_queues (map module_name ps) ≡ false → named_from place (suc from) (places_of (take n ps)) ≡ None)
          → named_from place from (cond has (Some (places.Module (module_name p))) None ∷ places_of (take n ps)) ≡ None
      at true none more = absurd (cc)
      at false none more = more none

  module _ (K : Behaviour) (cells : Cells C) (name : QueueName) (turn : Turn) where
    -- a turn of a module's queue
    module-leaves : (all : Stands) (owner : ModuleName) (s : State C) → EchoesOnce all → stands_of s ≡ all → AreStreams s → (module_turned K cells (record name { place = places.Module owner }) turn s).turn ≡ turn
        → Leaves all (moves all s) s.enabled (module_turned K cells (record name { place = places.Module owner }) turn s).state
    module-leaves all owner s once is good answered = named (place_named (places.Module owner) (stream name.side s).modules) refl answered
      where
        called : QueueName
        called = record name { place = places.Module owner }

        named : (o : Option ℕ) → place_named (places.Module owner) (stream name.side s).modules ≡ o → (turned_named K cells called turn s o).turn ≡ turn → Leaves all (moves all s) s.enabled (turned_named K cells called turn s o).state
        named None none answered = (is, inr (omega arith, refl))
        named (Some at) there answered =
            let here : Spot = record { side = name.side; at = at; way = name.way } in
            there-leaves all cells (posts_of all) (fits-once all once) here (named-least (places.Module owner) 1 (places_of (take MODULES (stream name.side s).modules)) at there) K called turn s is good (answers turn answered)
          where
            answers : (turn : Turn) → (turned_there K cells (record { side = name.side; at = at; way = name.way }) called turn s).turn ≡ turn
                → Answers all cells (posts_of all) (fits-once all once) (record { side = name.side; at = at; way = name.way }) (named-least (places.Module owner) 1 (places_of (take MODULES (stream name.side s).modules)) at there) turn (turned_there K cells (record { side = name.side; at = at; way = name.way }) called turn s)
            answers (Moved bytes) answered = tt
            answers Blocked answered = answered
            answers Idle answered = answered

    turned-leaves : (all : Stands) (place : Place) (s : State C) → EchoesOnce all → stands_of s ≡ all → AreStreams s → let called = record name { place = place } in
        (turned_at K cells place called turn s).turn ≡ turn → Leaves all (moves all s) s.enabled (turned_at K cells place called turn s).state
    turned-leaves all Head s once is good answered = (is, inr (omega arith, refl))
    turned-leaves all Driver s once is good answered = driver-leaves all cells (posts_of all) (fits-once all once) K name.side (stream name.side s).driver.queue.messages s is refl
    turned-leaves all (places.Module owner) s once is good answered = module-leaves all owner s once is good answered

    -- where no module with queues stands each turn is a driver's, or does nothing
    plain-leaves : (all : Stands) (place : Place) (s : State C) → EchoesOnce all → NoneQueues all → stands_of s ≡ all → let called = record name { place = place } in
        Leaves all (moves all s) s.enabled (turned_at K cells place called turn s).state
    plain-leaves all Head s once none is = (is, inr (omega arith, refl))
    plain-leaves all Driver s once none is = driver-leaves all cells (posts_of all) (fits-once all once) K name.side (stream name.side s).driver.queue.messages s is refl
    plain-leaves all (places.Module owner) s once none is = named (place_named (places.Module owner) (stream name.side s).modules) nowhere
      where
        nowhere : place_named (places.Module owner) (stream name.side s).modules ≡ None
        nowhere = named-none (places.Module owner) MODULES 1 (stream name.side s).modules (ap (λ (ns : List ModuleName). list_any have_queues ns) (names-on all name.side s is) ∙ none name.side)

        named : (o : Option ℕ) → o ≡ None → Leaves all (moves all s) s.enabled (turned_named K cells (record name { place = places.Module owner }) turn s o).state
        named None nothing = (is, inr (omega arith, refl))
        named (Some at) nothing = absurd (cc)

  -- a turn adds no other name
  turn-others : (K : Behaviour) (cells : Cells C) (name : QueueName) (turn : Turn) (s : State C) → NoOwnQueues (stands_of s)
      → count_others (turned K cells name turn s).state.enabled ≤ count_others s.enabled
  turn-others K cells name turn s none =
      let all = stands_of s in
      let n = count_others s.enabled in
      (turn-kept all (λ names. count_others names ≤ n) (others-keep all none n) cells name K turn s (refl, omega arith)).1

  -- fewer moves, or a queue less enabled, are less work
  work-less : (name : QueueName) (s t : State C) → is_enabled name s.enabled ≡ true → count_others t.enabled ≤ count_others s.enabled
      → Leaves (stands_of s) (moves (stands_of s) s) (without name s.enabled) t → work t < work s
  work-less name s t enabled none_added leaves = elim leaves.1 [
    | inl fewer ↦ omega (arith, same, fewer, none_added, few-enabled t.enabled)
    | inr stays ↦ (let count = ap (λ (ns : List QueueName). count_enabled ns) stays.1 in let most = stays.0 in omega (arith, same, most, count, taken-off name s.enabled enabled))
  ]
    where
      same : moves (stands_of t) t ≡ moves (stands_of s) t
      same = ap (λ (all : Stands). moves all t) leaves.0

  plain-behind : (K : Behaviour) (cells : Cells C) (name : QueueName) (turn : Turn) (s : State C) → NoneQueues (stands_of s) → Leaves (stands_of s) (moves (stands_of s) s) (without name s.enabled) (turned K cells name turn s).state
  plain-behind K cells name turn s none = plain-leaves K cells name turn (stands_of s) name.place (record s { enabled = without name s.enabled }) (plain-once (stands_of s) none) none refl

  pub plain-turn : (K : Behaviour) (cells : Cells C) (name : QueueName) (turn : Turn) (s : State C) → NoneQueues (stands_of s)
      → is_enabled name s.enabled ≡ true
      → (stands_of (turned K cells name turn s).state ≡ stands_of s) × (work (turned K cells name turn s).state < work s)
  plain-turn K cells name turn s none enabled =
      let behind = plain-behind K cells name turn s none in
      (behind.0, work-less name s (turned K cells name turn s).state enabled (turn-others K cells name turn s (plain-once (stands_of s) none).no_own) behind)

  echoed-behind : (K : Behaviour) (cells : Cells C) (name : QueueName) (turn : Turn) (s : State C) → EchoesOnce (stands_of s) → AreStreams s → (turned K cells name turn s).turn ≡ turn
      → Leaves (stands_of s) (moves (stands_of s) s) (without name s.enabled) (turned K cells name turn s).state
  echoed-behind K cells name turn s once good answered = turned-leaves K cells name turn (stands_of s) name.place (record s { enabled = without name s.enabled }) once refl good answered

  pub echoed-turn : (K : Behaviour) (cells : Cells C) (old new : State C) (name : QueueName) (turn : Turn) → EchoesOnce (stands_of old) → AreStreams old → IsTurn K cells old name turn new
      → (stands_of new ≡ stands_of old) × (work new < work old)
  echoed-turn K cells old new name turn once good step =
      let behind = echoed-behind K cells name turn old once good step.answered in
      subst (λ (t : State C). (stands_of t ≡ stands_of old) × (work t < work old)) step.leads (behind.0, work-less name old (turned K cells name turn old).state step.enabled (turn-others K cells name turn old once.no_own) behind)
