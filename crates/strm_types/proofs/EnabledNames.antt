-- Lists of queue names in which each stands once.
use Rattle.std.proofs.Common.{ℕ, ◌≡◌, ◌≤◌, ◌<◌, ◌+◌, Bool, true, false, cond, List, [], ◌∷◌, ◌++◌, length, get_or, take, append-nil, refl, sym, ap}
use Rattle.std.proofs.Common.{subst, ◌∙◌, arith}
use Rattle.std.specs.Prelude.{if◌then◌else◌, ◌&&◌, ◌||◌, not}
use Rattle.std.proofs.lemmas.Bool.Decides.{nat_tests}
use Rattle.std.proofs.lemmas.List.Elements.{filter_more}
use Rattle.strm_types.specs.declared.names.Side.{Side}
use Rattle.strm_types.specs.declared.names.Side.TheVariants.{Master, Slave}
use Rattle.strm_types.specs.declared.names.Way.{Way}
use Rattle.strm_types.specs.declared.names.Way.TheVariants.{Up, Down}
use Rattle.strm_types.specs.declared.names.Place.{Place}
use Rattle.strm_types.specs.declared.names.Place.TheVariants.{Head, Module, Driver}
use Rattle.strm_types.specs.declared.names.ModuleName.{ModuleName}
use Rattle.strm_types.specs.declared.names.ModuleName.TheVariants as modules
use Rattle.strm_types.specs.declared.names.QueueName.{QueueName}
use Rattle.strm_types.specs.Names.{same_side, same_module, same_place, same_way, same_queue, has_queues_at, is_enabled, without, times, AreAmong}
use Rattle.strm_types.specs.Names.{AreQueues, IsOnce}

-- what a test counts for
one_where : {b : Bool} → b ≡ true → ◌≡◌ {A = ℕ} (if b then 1 else 0) 1
one_where {b} e = rw e refl

none_where : {b : Bool} → b ≡ false → ◌≡◌ {A = ℕ} (if b then 1 else 0) 0
none_where {b} e = rw e refl

same_side-sound : (a b : Side) → same_side a b ≡ true → a ≡ b
same_side-sound Master Master h = refl
same_side-sound Slave Slave h = refl
same_side-sound Master Slave h = cc
same_side-sound Slave Master h = cc

-- names of modules that compare alike are one, and each compares alike with itself
pub same_module-sound : (a b : ModuleName) → same_module a b ≡ true → a ≡ b
same_module-sound modules.Ldterm modules.Ldterm h = refl
same_module-sound modules.Ptem modules.Ptem h = refl
same_module-sound modules.Pckt modules.Pckt h = refl
same_module-sound modules.Ldterm modules.Ptem h = cc
same_module-sound modules.Ldterm modules.Pckt h = cc
same_module-sound modules.Ptem modules.Ldterm h = cc
same_module-sound modules.Ptem modules.Pckt h = cc
same_module-sound modules.Pckt modules.Ldterm h = cc
same_module-sound modules.Pckt modules.Ptem h = cc
same_module-sound (modules.Own a) (modules.Own b) h = let same : a ≡ b = grind (arith, nat_tests) in ap (λ n. modules.Own n) same
same_module-sound (modules.Own a) modules.Ldterm h = cc
same_module-sound (modules.Own a) modules.Ptem h = cc
same_module-sound (modules.Own a) modules.Pckt h = cc
same_module-sound modules.Ldterm (modules.Own b) h = cc
same_module-sound modules.Ptem (modules.Own b) h = cc
same_module-sound modules.Pckt (modules.Own b) h = cc

pub same_module-self : (name : ModuleName) → same_module name name ≡ true
same_module-self modules.Ldterm = refl
same_module-self modules.Ptem = refl
same_module-self modules.Pckt = refl
same_module-self (modules.Own n) = grind (arith, nat_tests)

pub same_place-sound : (a b : Place) → same_place a b ≡ true → a ≡ b
same_place-sound Head Head h = refl
same_place-sound (Module a) (Module b) h = ap (λ name. Module name) (same_module-sound a b h)
same_place-sound Driver Driver h = refl
same_place-sound Head (Module b) h = cc
same_place-sound Head Driver h = cc
same_place-sound (Module a) Head h = cc
same_place-sound (Module a) Driver h = cc
same_place-sound Driver Head h = cc
same_place-sound Driver (Module b) h = cc

same_way-sound : (a b : Way) → same_way a b ≡ true → a ≡ b
same_way-sound Up Up h = refl
same_way-sound Down Down h = refl
same_way-sound Up Down h = cc
same_way-sound Down Up h = cc

both : (x y z : Bool) → (x && y && z) ≡ true → (x ≡ true) × (y ≡ true) × (z ≡ true)
both true true true h = (refl, refl, refl)
both true true false h = absurd (cc)
both true false z h = absurd (cc)
both false y z h = absurd (cc)

-- names that compare alike are one
pub same_queue-sound : (a b : QueueName) → same_queue a b ≡ true → a ≡ b
same_queue-sound a b h =
    let parts = both (same_side a.side b.side) (same_place a.place b.place) (same_way a.way b.way) h in
    let side = same_side-sound a.side b.side parts.0 in
    let place = same_place-sound a.place b.place parts.1 in
    let way = same_way-sound a.way b.way parts.2 in
    ap (λ (p : Side × Place × Way). record { side = p.0; place = p.1; way = p.2 }) (cc)

-- and each compares alike with itself
same_side-self : (a : Side) → same_side a a ≡ true
same_side-self Master = refl
same_side-self Slave = refl

same_place-self : (a : Place) → same_place a a ≡ true
same_place-self Head = refl
same_place-self (Module name) = same_module-self name
same_place-self Driver = refl

same_way-self : (a : Way) → same_way a a ≡ true
same_way-self Up = refl
same_way-self Down = refl

pub same_queue-self : (a : QueueName) → same_queue a a ≡ true
same_queue-self a =
    ap (λ b. b && same_place a.place a.place && same_way a.way a.way) (same_side-self a.side)
    ∙ (ap (λ b. b && same_way a.way a.way) (same_place-self a.place) ∙ same_way-self a.way)

-- whichever is named first
pub same_queue-flip : (a b : QueueName) → same_queue a b ≡ true → same_queue b a ≡ true
same_queue-flip a b is = subst (λ q. same_queue b q ≡ true) (sym (same_queue-sound a b is)) (same_queue-self b)

-- how often any of some names stands in a list
times_any : List QueueName → List QueueName → ℕ
times_any [] names = 0
times_any (n ∷ ns) names = times n names + times_any ns names

-- how often a name is one of some names
hits : List QueueName → QueueName → ℕ
hits [] name = 0
hits (n ∷ ns) name = (if same_queue name n then 1 else 0) + hits ns name

times_any-cons : (ns : List QueueName) (name : QueueName) (names : List QueueName) → times_any ns (name ∷ names) ≡ hits ns name + times_any ns names
unfolding times_any hits
times_any-cons [] name names = refl
times_any-cons (n ∷ ns) name names =
    let ih : times_any ns (name ∷ names) ≡ hits ns name + times_any ns names = times_any-cons ns name names in omega (arith, ih)

times_any-none : (ns : List QueueName) → times_any ns [] ≡ 0
unfolding times_any
times_any-none [] = refl
times_any-none (n ∷ ns) = omega (arith, times_any-none ns)

-- one that is among them is so at least once
hits-some : (ns : List QueueName) (name : QueueName) → is_enabled name ns ≡ true → 1 ≤ hits ns name
unfolding hits
hits-some [] name is = absurd (cc)
hits-some (n ∷ ns) name is = at (same_queue n name) refl is (hits-some ns name)
  where
    at : (same : Bool) → same_queue n name ≡ same → (same || is_enabled name ns) ≡ true → (is_enabled name ns ≡ true → 1 ≤ hits ns name)
        → 1 ≤ (if same_queue name n then 1 else 0) + hits ns name
    at true same is more = omega (arith, one_where (same_queue-flip n name same))
    at false same is more = let behind = more is in omega (arith, behind)

length-times : (among names : List QueueName) → AreAmong among names → length names ≤ times_any among names
length-times among [] are = omega arith
length-times among (n ∷ names) are =
    omega (arith, hits-some among n are.0, length-times among names are.1, times_any-cons among n names)

times-few : (ns names : List QueueName) → IsOnce names → times_any ns names ≤ length ns
unfolding times_any
times-few [] names once = omega arith
times-few (n ∷ ns) names once = omega (arith, once n, times-few ns names once)

-- names that stand once each are no more than those that they are among
pub once-few : (among names : List QueueName) → IsOnce names → AreAmong among names → length names ≤ length among
once-few among names once are = omega (arith, length-times among names are, times-few among names once)

times-absent-at : (name : QueueName) (names : List QueueName) (b : Bool) → (b || is_enabled name names) ≡ false → (is_enabled name names ≡ false → times name names ≡ 0) → (if b then 1 else 0) + times name names ≡ 0
times-absent-at name names true e ih = absurd (cc)
times-absent-at name names false e ih = omega (arith, ih e)

-- a name that isn't enabled stands nowhere
pub times-absent : (name : QueueName) (names : List QueueName) → is_enabled name names ≡ false → times name names ≡ 0
times-absent name [] h = refl
times-absent name (n ∷ names) h = times-absent-at name names (same_queue n name) h (times-absent name names)

-- one more than fits where a name is absent
room-one : (ns names : List QueueName) (name : QueueName) → IsOnce names → times name names ≡ 0 → times_any ns names + hits ns name ≤ length ns
unfolding times_any hits
room-one [] names name once none = omega arith
room-one (n ∷ ns) names name once none =
    let one : times n names + (if same_queue name n then 1 else 0) ≤ 1 = room-at (same_queue name n) refl in
    omega (arith, one, room-one ns names name once none)
  where
    room-at : (b : Bool) → same_queue name n ≡ b → times n names + cond b 1 0 ≤ 1
    room-at true e = let zero_times : times n names ≡ 0 = subst (λ q. times q names ≡ 0) (same_queue-sound name n e) none in omega (arith, zero_times)
    room-at false e = omega (arith, once n)

-- and fewer while one of these is absent
pub once-room : (among names : List QueueName) (name : QueueName) → IsOnce names → AreAmong among names → is_enabled name among ≡ true
    → is_enabled name names ≡ false → length names < length among
once-room among names name once are is absent =
    omega (arith, hits-some among name is, length-times among names are, room-one among names name once (times-absent name names absent))

-- one of them is of a place where queues stand
pub queues-among : (names : List QueueName) (name : QueueName) → AreQueues names → is_enabled name names ≡ true → has_queues_at name.place ≡ true
queues-among [] name are is = absurd (cc)
queues-among (n ∷ names) name are is = at (same_queue n name) refl is (queues-among names name are.1)
  where
    at : (same : Bool) → same_queue n name ≡ same → (same || is_enabled name names) ≡ true → (is_enabled name names ≡ true → has_queues_at name.place ≡ true)
        → has_queues_at name.place ≡ true
    at true same is more = subst (λ q. has_queues_at q.place ≡ true) (same_queue-sound n name same) are.0
    at false same is more = more is

pub queues-added : (names : List QueueName) (name : QueueName) → AreQueues names → has_queues_at name.place ≡ true → AreQueues (names ++ name ∷ [])
queues-added [] name are has = (has, tt)
queues-added (n ∷ names) name are has = (are.0, queues-added names name are.1 has)

pub queues-without : (names : List QueueName) (name : QueueName) → AreQueues names → AreQueues (without name names)
queues-without [] name are = tt
queues-without (n ∷ names) name are = at (not (same_queue n name)) (queues-without names name are.1)
  where
    at : (stays : Bool) → AreQueues (without name names) → AreQueues (cond stays (n ∷ without name names) (without name names))
    at true more = (are.0, more)
    at false more = more

times-append : (name n : QueueName) (names : List QueueName) → times name (names ++ n ∷ []) ≡ times name names + (if same_queue n name then 1 else 0)
times-append name n [] = omega arith
times-append name n (x ∷ names) = omega (arith, times-append name n names)

-- an absent name may be added
pub once-added : (names : List QueueName) (name : QueueName) → IsOnce names → is_enabled name names ≡ false → IsOnce (names ++ name ∷ [])
once-added names name once h = λ n. once-at n (same_queue name n) refl
  where
    once-at : (n : QueueName) (b : Bool) → same_queue name n ≡ b → times n (names ++ name ∷ []) ≤ 1
    once-at n true e =
        let absent : times n names ≡ 0 = subst (λ q. times q names ≡ 0) (same_queue-sound name n e) (times-absent name names h) in
        omega (arith, absent, times-append n name names, one_where e)
    once-at n false e =
        omega (arith, none_where e, times-append n name names, once n)

times-without-at : (n name x : QueueName) (names : List QueueName) (b : Bool) → times n (without name names) ≤ times n names → times n (cond b (x ∷ without name names) (without name names)) ≤ (if same_queue x n then 1 else 0) + times n names
times-without-at n name x names true ih = omega (arith, ih)
times-without-at n name x names false ih = omega (arith, ih)

times-without : (n name : QueueName) (names : List QueueName) → times n (without name names) ≤ times n names
times-without n name [] = omega arith
times-without n name (x ∷ names) = times-without-at n name x names (not (same_queue x name)) (times-without n name names)

-- names stay distinct when one is taken off
pub once-without : (names : List QueueName) (name : QueueName) → IsOnce names → IsOnce (without name names)
once-without names name once = λ n. omega (arith, times-without n name names, once n)

-- one more name is kept, or left out
pub without-kept : (name d : QueueName) (names : List QueueName) (i : ℕ) (same : Bool) → i < length names → same ≡ same_queue (get_or names i d) name → same ≡ false → without name (take (i + 1) names) ≡ without name (take i names) ++ get_or names i d ∷ []
without-kept name d names i same lt is apart =
    let keeps : not (same_queue (get_or names i d) name) ≡ true = ap not (sym is ∙ apart) in
    filter_more (λ n. not (same_queue n name)) names i d lt ∙ rw keeps refl

pub without-gone : (name d : QueueName) (names : List QueueName) (i : ℕ) (same : Bool) → i < length names → same ≡ same_queue (get_or names i d) name → same ≡ true → without name (take (i + 1) names) ≡ without name (take i names)
without-gone name d names i same lt is alike =
    let goes : not (same_queue (get_or names i d) name) ≡ false = ap not (sym is ∙ alike) in
    filter_more (λ n. not (same_queue n name)) names i d lt ∙ rw goes (append-nil _)
