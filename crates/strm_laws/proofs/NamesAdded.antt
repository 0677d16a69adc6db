-- Where no module of a user's own has queues, no name joins the enabled ones but those of a pair's other queues (qenable(9F)).
use Rattle.strm_laws.proofs.Prelude.{ℕ, ◌≡◌, ◌≤◌, ◌+◌, Bool, true, false, cond, List, [], ◌∷◌, ◌++◌, refl, sym, subst, ap, ◌∙◌, arith, not, ◌&&◌}
use Rattle.strm_laws.proofs.Prelude.{◌||◌}
use Rattle.strm_laws.proofs.Prelude.{false≢true, sum_by-cons}
use Rattle.strm_laws.specs.Prelude.{ModuleName, Place, Driver, QueueName, Side, Master, Slave, Way, Up, Down, has_queues_at, have_queues, is_enabled}
use Rattle.strm_laws.specs.Prelude.{same_module, same_queue, without}
use Rattle.std.specs.List.{list_any}
use Rattle.strm_types.specs.declared.names.ModuleName.TheVariants as names
use Rattle.strm_types.specs.declared.names.Place.TheVariants.{Head}
use Rattle.strm_types.specs.declared.names.Place.TheVariants as places
use Rattle.strm_types.specs.Names.{enable}
use Rattle.strm_types.proofs.EnabledNames.{same_module-sound}
use Rattle.strm_laws.specs.Rest.{NoOwnQueues, count_others, own_queues, queue_names}
use Rattle.strm_laws.specs.Restorable.{IsThere, is_there_among}
use Rattle.strm_laws.specs.StackCosts.{Stands, stands_on}
use Rattle.strm_laws.proofs.EnabledExist.{KeepsNames}

pub one-other : (x : QueueName) (names : List QueueName) → count_others (x ∷ names) ≡ cond (not (is_enabled x queue_names)) 1 0 + count_others names
one-other x names = sum_by-cons (λ n. cond (not (is_enabled n queue_names)) 1 0) x names

at-end : (x : QueueName) (names : List QueueName) → is_enabled x queue_names ≡ true → count_others (names ++ x ∷ []) ≤ count_others names
at-end x [] is =
    let counts : ◌≡◌ {A = ℕ} (cond (not (is_enabled x queue_names)) 1 0) 0 = ap (λ b. cond (not b) 1 0) is in
    omega (arith, counts, one-other x [])
at-end x (n ∷ names) is = omega (arith, one-other n names, one-other n (names ++ x ∷ []), at-end x names is)

enable-adds : (name : QueueName) (names : List QueueName) → is_enabled name queue_names ≡ true → count_others (enable name names) ≤ count_others names
enable-adds name names is = at (has_queues_at name.place) (not (is_enabled name names)) (at-end name names is)
  where
    at : (has new : Bool) → count_others (names ++ name ∷ []) ≤ count_others names
        → count_others (cond (has && new) (names ++ name ∷ []) names) ≤ count_others names
    at true true more = more
    at true false more = omega arith
    at false new more = omega arith

pub without-adds : (name : QueueName) (names : List QueueName) → count_others (without name names) ≤ count_others names
without-adds name [] = omega arith
without-adds name (x ∷ names) = at (not (same_queue x name)) (without-adds name names)
  where
    at : (stays : Bool) → count_others (without name names) ≤ count_others names
        → count_others (cond stays (x ∷ without name names) (without name names)) ≤ count_others (x ∷ names)
    at true more = omega (arith, one-other x names, one-other x (without name names), more)
    at false more = omega (arith, one-other x names, more)

-- a module of a user's own with queues stands on no stream
own-nowhere : (n : ℕ) (ns : List ModuleName) → have_queues (names.Own n) ≡ true
    → list_any (λ m. same_module m (names.Own n)) ns ≡ true → list_any own_queues ns ≡ false → ⊥
own-nowhere n [] has is none = false≢true is
own-nowhere n (m ∷ ns) has is none = at (same_module m (names.Own n)) refl (own_queues m) refl is none (own-nowhere n ns has)
  where
    at : (same : Bool) → same_module m (names.Own n) ≡ same → (own : Bool) → own_queues m ≡ own
        → (same || list_any (λ m. same_module m (names.Own n)) ns) ≡ true
        → (own || list_any own_queues ns) ≡ false
        → (list_any (λ m. same_module m (names.Own n)) ns ≡ true → list_any own_queues ns ≡ false → ⊥) → ⊥
    at true same own owns is none more =
        first own (sym owns ∙ subst (λ m. own_queues m ≡ true) (sym (same_module-sound m (names.Own n) same)) has) none
      where
        first : (own : Bool) → own ≡ true → (own || list_any own_queues ns) ≡ false → ⊥
        first true is none = false≢true (sym none)
        first false is none = false≢true is
    at false same true owns is none more = false≢true (sym none)
    at false same false owns is none more = more is none

both-true : (a b : Bool) → (a && b) ≡ true → (a ≡ true) × (b ≡ true)
both-true true b is = (refl, is)
both-true false b is = absurd (false≢true is)

-- a queue that is there has one of the other names
pub there-named : (all : Stands) → NoOwnQueues all → (name : QueueName) → IsThere all name → is_enabled name queue_names ≡ true
there-named all none name is = at name.side name.place name.way is
  where
    at : (side : Side) (place : Place) (way : Way) → is_there_among place way (stands_on side all) ≡ true
        → is_enabled (record { side = side; place = place; way = way }) queue_names ≡ true
    at side Head way is = absurd (false≢true is)
    at side Driver Up is = absurd (false≢true is)
    at Master Driver Down is = refl
    at Slave Driver Down is = refl
    at Master (places.Module names.Ldterm) Up is = refl
    at Master (places.Module names.Ldterm) Down is = refl
    at Slave (places.Module names.Ldterm) Up is = refl
    at Slave (places.Module names.Ldterm) Down is = refl
    at side (places.Module names.Ptem) way is = absurd (false≢true is)
    at side (places.Module names.Pckt) way is = absurd (false≢true is)
    at side (places.Module (names.Own n)) way is =
        let parts = both-true (have_queues (names.Own n)) _ is in
        absurd (own-nowhere n (stands_on side all) parts.0 parts.1 (none side))

pub others-keep : (all : Stands) → NoOwnQueues all → (n : ℕ) → KeepsNames all (λ names. count_others names ≤ n)
others-keep all none n = record {
  joins = λ name names there few. omega (arith, few, enable-adds name names (there-named all none name there));
  leaves = λ name names few. omega (arith, few, without-adds name names);
}
