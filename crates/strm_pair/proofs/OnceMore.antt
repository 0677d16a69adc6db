-- Values of which each stands once among others, appended one behind the other: none of them is there already.
use Rattle.strm_pair.proofs.Prelude.{ℕ, zero, suc, ◌≡◌, ◌≤◌, ◌<◌, ◌+◌, Bool, true, false, cond, List, [], ◌∷◌, ◌++◌, length, take, get_or, refl, sym}
use Rattle.strm_pair.proofs.Prelude.{ap, ◌∙◌, arith, ◌&&◌, ◌||◌, ◌==◌, not, None, Some, take_more}
use Rattle.strm_pair.specs.Prelude.{Place, Driver, Side, Master, Slave, Way, Up, Down, QueueName, enable, is_enabled, same_place, AreSignals}
use Rattle.std.specs.List.{AllByRecursion, list_any}
use Rattle.std.proofs.lemmas.Bool.{eq-eqb}
use Rattle.strm_types.specs.declared.names.Place.TheVariants.{Head}
use Rattle.strm_types.specs.declared.names.Place.TheVariants as places
use Rattle.strm_types.specs.Names.{AreQueues, IsOnce, has_queues_at, same_queue, same_side, same_way}
use Rattle.strm_types.specs.Names as names
use Rattle.strm_types.specs.Signals.{has_signal, is_signal, signal_in, with_signal}
use Rattle.strm_types.proofs.SignalRoom.{times, times-cons}
use Rattle.strm_types.proofs.EnabledNames.{same_module-self}
use Rattle.strm_image.proofs.EachOnce.{IsCount}

module _ {A : Type 0} (same : A → A → Bool) (reflexive : (x : A) → same x x ≡ true) (count : A → List A → ℕ) (is : IsCount same count) where
  stands-at : (xs : List A) (i : ℕ) (d : A) → i < length xs → 1 ≤ count (get_or xs i d) xs
  stands-at [] i d within = absurd (omega (arith, within))
  stands-at (x ∷ xs) zero d within =
      let one : cond {A = ℕ} (same x x) 1 0 ≡ 1 = rw (reflexive x) refl in
      omega (arith, is.more x x xs, one)
  stands-at (x ∷ xs) (suc i) d within = omega (arith, is.more (get_or xs i d) x xs, stands-at xs i d (omega (arith, within)))

  pub not-before : (xs : List A) (i : ℕ) (d : A) → i < length xs → count (get_or xs i d) xs ≤ 1 → list_any (λ y. same y (get_or xs i d)) (take i xs) ≡ false
  not-before [] i d within once = absurd (omega (arith, within))
  not-before (x ∷ xs) zero d within once = refl
  not-before (x ∷ xs) (suc i) d within once = at (same x (get_or xs i d)) refl (λ few. not-before xs i d (omega (arith, within)) few)
    where
      at : (b : Bool) → same x (get_or xs i d) ≡ b → (count (get_or xs i d) xs ≤ 1 → list_any (λ y. same y (get_or xs i d)) (take i xs) ≡ false) → (same x (get_or xs i d) || list_any (λ y. same y (get_or xs i d)) (take i xs)) ≡ false
      at true e rest =
          let one : cond {A = ℕ} (same x (get_or xs i d)) 1 0 ≡ 1 = rw e refl in
          absurd (omega (arith, is.more (get_or xs i d) x xs, one, once, stands-at xs i d (omega (arith, within))))
      at false e rest = rw e (rest (omega (arith, once, is.more (get_or xs i d) x xs)))

-- ---- signals

known-at : (ns : List ℕ) (i : ℕ) → AllByRecursion (λ n. is_signal n ≡ true) ns → i < length ns → is_signal (get_or ns i 0) ≡ true
known-at [] i all within = absurd (omega (arith, within))
known-at (n ∷ ns) zero all within = all.0
known-at (n ∷ ns) (suc i) all within = known-at ns i all.1 (omega (arith, within))

pub signal-next : (ns : List ℕ) (i : ℕ) (before after : List ℕ) → AreSignals ns → i < length ns → before ≡ take i ns → after ≡ with_signal (signal_in (get_or ns i 0 ∷ [])) before → after ≡ take (i + 1) ns
signal-next ns i before after are within so_far added =
    let n = get_or ns i 0 in
    let absent : has_signal n (take i ns) ≡ false = not-before (λ a b. a == b) (λ n. eq-eqb n n refl) times (record { none = λ x. refl; more = times-cons }) ns i 0 within (are.once n) in
    added
    ∙ ap (λ ks. with_signal (signal_in (n ∷ [])) ks) so_far
    ∙ ap (λ b. with_signal (cond b (Some n) None) (take i ns)) (known-at ns i are.known within)
    ∙ ap (λ b. cond b (take i ns) (take i ns ++ n ∷ [])) absent
    ∙ sym (take_more ns i 0 within)

-- ---- enabled queues

side-self : (s : Side) → same_side s s ≡ true
side-self Master = refl
side-self Slave = refl

place-self : (p : Place) → same_place p p ≡ true
place-self Head = refl
place-self (places.Module name) = same_module-self name
place-self Driver = refl

way-self : (w : Way) → same_way w w ≡ true
way-self Up = refl
way-self Down = refl

name-self : (n : QueueName) → same_queue n n ≡ true
name-self n = rw (side-self n.side, place-self n.place, way-self n.way) refl

queues-at : (ns : List QueueName) (i : ℕ) (d : QueueName) → AreQueues ns → i < length ns → has_queues_at (get_or ns i d).place ≡ true
queues-at [] i d are within = absurd (omega (arith, within))
queues-at (n ∷ ns) zero d are within = are.0
queues-at (n ∷ ns) (suc i) d are within = queues-at ns i d are.1 (omega (arith, within))

pub name-next : (ns : List QueueName) (i : ℕ) (d : QueueName) (before after : List QueueName) → IsOnce ns → AreQueues ns → i < length ns → before ≡ take i ns → after ≡ enable (get_or ns i d) before → after ≡ take (i + 1) ns
name-next ns i d before after once are within so_far added =
    let n = get_or ns i d in
    let absent : is_enabled n (take i ns) ≡ false = not-before same_queue name-self names.times (record { none = λ x. refl; more = λ x y xs. refl }) ns i d within (once n) in
    added
    ∙ ap (λ ks. enable n ks) so_far
    ∙ ap (λ b. cond (has_queues_at n.place && not b) (take i ns ++ n ∷ []) (take i ns)) absent
    ∙ ap (λ b. cond (b && true) (take i ns ++ n ∷ []) (take i ns)) (queues-at ns i d are within)
    ∙ sym (take_more ns i d within)
