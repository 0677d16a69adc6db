-- A state that has what an image asks has one.
use Rattle.strm_image.proofs.Prelude.{◌≡◌, ℕ, ◌<◌, Bool, true, false, not, List, [], ◌∷◌, length, map, refl, sym, ap, subst, ◌∙◌, arith, ◌^◌}
use Rattle.strm_image.proofs.Prelude.{and_from, and_parts, eq-eqb}
use Rattle.strm_image.proofs.Prelude.{lt-ltb}
use Rattle.strm_image.specs.Prelude.{Book, BANDS, Dir, MasterToSlave, SlaveToMaster, ModuleName, Openness, Never, Open, Closed, Place, QueueName}
use Rattle.strm_image.specs.Prelude.{Side, Master, Slave, Way, Up, Down, RULES, get, stands, has_queues_at, has_service}
use Rattle.strm_image.specs.Prelude.{has_service_at, have_queues, same_module}
use Rattle.strm_image.specs.Prelude.{same_queue, times, IsOrdered, Queue, GoodModule, IsThere, Restorable, is_there_among, stands_of, Standing}
use Rattle.strm_image.specs.Prelude.{module_name, State, queues_of, stream, stream_queues}
use Rattle.std.specs.Prelude.{◌&&◌, ◌||◌}
use Rattle.std.specs.List.{AllByRecursion, list_all, list_any}
use Rattle.strm_types.specs.declared.names.ModuleName.TheVariants as names
use Rattle.strm_types.specs.declared.names.Place.TheVariants as places
use Rattle.strm_types.proofs.EnabledNames.{same_module-sound, same_queue-self}
use Rattle.strm_laws.proofs.EnabledFew.{restorable-few}
use Rattle.strm_laws.proofs.RestorableSteps.{opening-restorable}
use Rattle.strm_image.specs.declared.versions.Version.TheVariants.{Second}
use Rattle.strm_image.specs.Codes.{openness, place, place_kind, side, version, way}
use Rattle.strm_image.specs.Format.{always, byte, keep, u64}
use Rattle.strm_image.specs.HasImage.{AreFates, Balances, HasImage, HasNumbers, IsBooked, IsLaid, IsShortQueue, new_imaged}
use Rattle.strm_image.specs.Image.{Imaged, account, body, enabled, enabled_behind, has_queue_at, image, is_there, next_enabled, queue_name, rule_counts}
use Rattle.strm_image.proofs.EachOnce.{AreNew, IsCount, all_new}
use Rattle.strm_image.proofs.FitQueues.{flag_fits}
use Rattle.strm_image.proofs.FitStreams.{IsNumbered, kind_numbered, shut_quiet, stream_fits}
use Rattle.strm_image.proofs.Fitting.{all_alike, all_back, all_front, chain_fits, counted_fits, u32_fits, u64_fits}

-- ---- enabled queues

side_fits : (s : Side) → side.fits s ≡ true
unfolding side
side_fits Master = refl
side_fits Slave = refl

-- the number of a place has 8 bits
abbrev IsPlaced : Place → Type 0
IsPlaced (places.Module name) = IsNumbered name
IsPlaced p = Unit {0}

place_fits : (p : Place) → has_queues_at p ≡ true → IsPlaced p → place.fits p ≡ true
unfolding place place_kind
place_fits places.Head has low = refl
place_fits (places.Module names.Ldterm) has low = refl
place_fits (places.Module names.Ptem) has low = absurd cc
place_fits (places.Module names.Pckt) has low = absurd cc
place_fits (places.Module (names.Own n)) has low = and_from _ _ has (and_from _ _ (lt-ltb n 256 low) has)
place_fits places.Driver has low = refl

way_fits : (w : Way) → way.fits w ≡ true
unfolding way
way_fits Up = refl
way_fits Down = refl

name_fits : (n : QueueName) → has_queues_at n.place ≡ true → IsPlaced n.place → queue_name.fits n ≡ true
unfolding queue_name
name_fits n has low = and_from _ _ (side_fits n.side) (and_from _ _ (place_fits n.place has low) (way_fits n.way))

pub is_times : IsCount same_queue times
is_times = record { none = λ n. refl; more = λ n m ns. refl }

-- a queue that is there has service
served : (p : Place) (w : Way) (ps : List (Standing ℕ)) → is_there_among p w (map module_name ps) ≡ true → has_service_at p ≡ true
served places.Head w ps there = absurd cc
served (places.Module name) w ps there = refl
served places.Driver w ps there = refl

-- and its place has queues
has_there : (p : Place) (w : Way) (on : List ModuleName) → is_there_among p w on ≡ true → has_queues_at p ≡ true
has_there places.Head w on there = refl
has_there (places.Module name) w on there = (and_parts (have_queues name) (list_any (λ n. same_module n name) on) there).0
has_there places.Driver w on there = refl

-- and its number is that of a module that stands
named_low : (name : ModuleName) (ps : List (Standing ℕ)) → AllByRecursion GoodModule ps → list_any (λ n. same_module n name) (map module_name ps) ≡ true → IsNumbered name
named_low name [] good there = absurd cc
named_low name (p ∷ ps) good there = at (same_module (module_name p) name) refl there (named_low name ps good.1)
  where
    at : (same : Bool) → same_module (module_name p) name ≡ same → (same || list_any (λ n. same_module n name) (map module_name ps)) ≡ true
        → (list_any (λ n. same_module n name) (map module_name ps) ≡ true → IsNumbered name) → IsNumbered name
    at true is there below = subst IsNumbered (same_module-sound (module_name p) name is) (kind_numbered p.part good.0.kind)
    at false is there below = below there

placed_low : (p : Place) (w : Way) (ps : List (Standing ℕ)) → AllByRecursion GoodModule ps → is_there_among p w (map module_name ps) ≡ true → IsPlaced p
placed_low places.Head w ps good there = tt
placed_low (places.Module name) w ps good there =
    named_low name ps good (and_parts (have_queues name) (list_any (λ n. same_module n name) (map module_name ps)) there).1
placed_low places.Driver w ps good there = tt

pub names_stand : (name : ModuleName) (ps : List (Standing ℕ)) → list_any (λ n. same_module n name) (map module_name ps) ≡ stands module_name name ps
names_stand name [] = refl
names_stand name (p ∷ ps) = ap (λ b. same_module (module_name p) name || b) (names_stand name ps)

stands_there : (p : Place) (w : Way) (ps : List (Standing ℕ)) → is_there_among p w (map module_name ps) ≡ true → has_queue_at p w ps ≡ true
stands_there places.Head w ps there = absurd cc
stands_there (places.Module name) w ps there = sym (ap (λ b. have_queues name && b) (names_stand name ps)) ∙ there
stands_there places.Driver Up ps there = absurd cc
stands_there places.Driver Down ps there = refl

-- what is said of an enabled queue: it is one of a stream's, and its name has a text
record IsStanding (s : State ℕ) (n : QueueName) : Type 0 where
  served : has_service n ≡ true
  there : is_there s n ≡ true
  fits : queue_name.fits n ≡ true

module _ (s : State ℕ) (good : Restorable s) where
  standing : (n : QueueName) → IsThere (stands_of s) n → IsStanding s n
  standing n there = at n.side there
    where
      on : (side : Side) → is_there_among n.place n.way (map module_name (stream side s).modules) ≡ true → IsStanding s (record n { side = side })
      on side there = record {
        served = served n.place n.way (stream side s).modules there;
        there = stands_there n.place n.way (stream side s).modules there;
        fits = name_fits (record n { side = side }) (has_there n.place n.way (map module_name (stream side s).modules) there)
            (placed_low n.place n.way (stream side s).modules (good.streams side).modules.each there);
      }

      at : (side : Side) → IsThere (stands_of s) (record n { side = side }) → IsStanding s (record n { side = side })
      at Master there = on Master there
      at Slave there = on Slave there

  all_there : (ns : List QueueName) → AllByRecursion (λ n. IsThere (stands_of s) n) ns → list_all (is_there s) ns ≡ true
  all_there [] all = refl
  all_there (n ∷ ns) all = and_from _ _ (standing n all.0).there (all_there ns all.1)

  -- names that have service, none of which stands before
  record Behind (before ns : List QueueName) : Type 0 where
    new : AreNew same_queue before ns
    there : AllByRecursion (λ n. IsThere (stands_of s) n) ns

  behind_fits : (before : List QueueName) (n : QueueName) (ns : List QueueName) → Behind before (n ∷ ns) → ((enabled_behind before).fits n ≡ true) × Behind (next_enabled n before) ns
  unfolding enabled_behind AreNew
  behind_fits before n ns b =
      let one = standing n b.there.0 in
      (and_from _ _ one.fits (and_from _ _ one.served (ap not b.new.0)), record { new = b.new.1; there = b.there.1 })

  enabled_fits : enabled.fits s.enabled ≡ true
  unfolding enabled
  enabled_fits =
      let new = all_new same_queue same_queue-self times is_times s.enabled good.enabled.once in
      counted_fits next_enabled enabled_behind byte [] s.enabled (lt-ltb (length s.enabled) 256 (omega (arith, restorable-few s good)))
      (chain_fits next_enabled enabled_behind Behind behind_fits [] s.enabled (record { new = new; there = good.enabled.there }))

-- ---- ledgers

account_fits : (b : Book) (counts : List ℕ) → IsBooked b → AreFates counts → account.fits (record { book = b; fates = counts }) ≡ true
unfolding account rule_counts
account_fits b counts booked fates =
    let each = chain_fits keep (always u64) (λ s ns. AllByRecursion (λ n. n < 2 ^ 64) ns) (λ s n ns all. (u64_fits n all.0, all.1)) tt counts fates.each in
    and_from _ _ (and_from _ _ (u64_fits b.written (omega (arith, booked.written))) (lt-ltb b.written 9223372036854775808 (omega (arith, booked.written))))
    (and_from _ _ (and_from _ _ (u64_fits b.made (omega (arith, booked.made))) (lt-ltb b.made 9223372036854775808 (omega (arith, booked.made)))) (and_from _ _ (eq-eqb _ _ fates.all) each))

-- ---- images

openness_fits : (o : Openness) → openness.fits o ≡ true
unfolding openness
openness_fits Never = refl
openness_fits Open = refl
openness_fits Closed = refl

laid_queues : (qs : List (Queue ℕ)) → AllByRecursion (λ q. IsOrdered q.messages) qs → AllByRecursion IsShortQueue qs → AllByRecursion (λ (q : Queue ℕ). length q.flows ≡ BANDS) qs → AllByRecursion IsLaid qs
laid_queues [] ordered short banded = tt
laid_queues (q ∷ qs) ordered short banded = (record { ordered = ordered.0; short = short.0; banded = banded.0 }, laid_queues qs ordered.1 short.1 banded.1)

body_fits : (x : Imaged) → HasImage x → (body Second).fits x ≡ true
unfolding body
body_fits x h =
    let s = x.state in
    let r = h.restorable in
    let all = laid_queues (queues_of s) h.ordered h.short h.banded in
    let above = all_front IsLaid (stream_queues (stream Master s)) (stream_queues (stream Slave s)) all in
    let below = all_back IsLaid (stream_queues (stream Master s)) (stream_queues (stream Slave s)) all in
    let fields =
    and_from _ _ (openness_fits s.ends.master.opened) (and_from _ _ (openness_fits s.ends.slave.opened) (and_from _ _ (flag_fits s.locked)
    (and_from _ _ (and_from _ _ (u32_fits s.next_ioctl (omega (arith, r.last))) (lt-ltb 0 s.next_ioctl (omega (arith, r.numbered))))
    (and_from _ _ (stream_fits Master s.ends.master (r.streams Master) (r.heads Master) (r.idle Master) (h.numbers Master) above)
    (and_from _ _ (stream_fits Slave s.ends.slave (r.streams Slave) (r.heads Slave) (r.idle Slave) (h.numbers Slave) below)
    (and_from _ _ (enabled_fits s r)
    (and_from _ _ (account_fits s.books.master x.fates.master (h.booked Master) (h.gone Master)) (account_fits s.books.slave x.fates.slave (h.booked Slave) (h.gone Slave))))))))) in
    and_from _ _ (and_from _ _ (and_from _ _ fields (and_from _ _ (shut_quiet Master s.ends.master (r.streams Master)) (shut_quiet Slave s.ends.slave (r.streams Slave))))
    (all_there s r s.enabled r.enabled.there)) (and_from _ _ (eq-eqb _ _ (h.balanced MasterToSlave)) (eq-eqb _ _ (h.balanced SlaveToMaster)))

pub image_fits : (x : Imaged) → HasImage x → image.fits (Second, x) ≡ true
unfolding image version
image_fits x h = body_fits x h

-- ---- a pair as it is made

new_numbers : (side : Side) → HasNumbers (stream side (new_imaged.state))
new_numbers Master = record { group = omega arith; ioctl = tt; modules = tt }
new_numbers Slave = record { group = omega arith; ioctl = tt; modules = tt }

new_booked : (side : Side) → IsBooked (get side new_imaged.state.books)
new_booked Master = record { written = omega arith; made = omega arith }
new_booked Slave = record { written = omega arith; made = omega arith }

none_gone : (side : Side) → AreFates (get side new_imaged.fates)
none_gone Master = record { each = all_alike (λ n. n < 2 ^ 64) RULES 0 (omega arith); all = refl }
none_gone Slave = record { each = all_alike (λ n. n < 2 ^ 64) RULES 0 (omega arith); all = refl }

new_balances : (dir : Dir) → Balances dir new_imaged
new_balances MasterToSlave = refl
new_balances SlaveToMaster = refl

pub new_has_image : HasImage new_imaged
new_has_image = record {
  restorable = opening-restorable;
  ordered = (tt, (tt, (tt, (tt, tt))));
  short = (record { few = omega arith; each = tt }, (record { few = omega arith; each = tt }, (record { few = omega arith; each = tt }, (record { few = omega arith; each = tt }, tt))));
  banded = (refl, (refl, (refl, (refl, tt))));
  numbers = new_numbers;
  booked = new_booked;
  gone = none_gone;
  balanced = new_balances;
}
