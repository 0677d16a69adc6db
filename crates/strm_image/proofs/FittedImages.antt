-- What has an image has what an image asks, and its state is a base: the other way round of FitImages.
use Rattle.strm_image.proofs.Prelude.{◌≡◌, ◌&&◌, ℕ, ◌<◌, true, false, not, eqb, List, [], ◌∷◌, length, map, refl, ap, ◌∙◌, arith, ◌^◌, and_parts}
use Rattle.strm_image.proofs.Prelude.{eqb-true}
use Rattle.strm_image.proofs.Prelude.{ltb-true, not-true}
use Rattle.strm_image.specs.Prelude.{BANDS, Dir, MasterToSlave, SlaveToMaster, Place, QueueName, Side, Master, Slave, Way, Up, Down, Fates, RULES}
use Rattle.strm_image.specs.Prelude.{get, IsOnce, has_service, has_service_at, have_queues, is_enabled, same_queue, side_from, times, IsOrdered}
use Rattle.strm_image.specs.Prelude.{fates_of, IsBase}
use Rattle.strm_image.specs.Prelude.{FewBooked, GoodStream, IsThere, is_there_among, stands_of, IsAtRest, Standing, module_name, State, book}
use Rattle.strm_image.specs.Prelude.{queues_of, stream, stream_queues, IsWithin}
use Rattle.std.specs.List.{AllByRecursion, list_all, sum}
use Rattle.strm_types.specs.declared.names.Place.TheVariants as places
use Rattle.strm_types.proofs.EnabledNames.{same_queue-sound}
use Rattle.strm_laws.specs.Ledgers.{Balanced}
use Rattle.strm_image.specs.declared.versions.Version.{Version}
use Rattle.strm_image.specs.declared.versions.Version.TheVariants.{First, Second}
use Rattle.strm_image.specs.Codes.{flag, openness, version}
use Rattle.strm_image.specs.Format.{always, byte, bytes_of, fit_from, keep, only, tagged, u32, u64}
use Rattle.strm_image.specs.HasImage.{AreFates, Balances, HasImage, HasNumbers, IsBooked, IsLaid, IsShortQueue, counts_of}
use Rattle.strm_image.specs.Image.{Account, Imaged, account, are_balanced, are_quiet, are_there, body, enabled, enabled_behind, has_queue_at, image, is_balanced, is_booked, is_mark, is_number, is_quiet, is_there, laid_on, mark, next_enabled, queue_name, rule_counts, version_of, versioned}
use Rattle.strm_image.specs.Streams.{laid}
use Rattle.strm_image.proofs.EachOnce.{AreNew, new_once}
use Rattle.strm_image.proofs.FitImages.{is_times, names_stand}
use Rattle.strm_image.proofs.Fitted.{all_join, all_so, chain_holds, counted_parts, u32_below, u64_below}
use Rattle.strm_image.proofs.FittedStreams.{stream_told}
use Rattle.strm_image.proofs.LaterRows.{image_later}

-- ---- enabled queues

-- names that have service, none of which stands before
record AreNamed (before ns : List QueueName) : Type 0 where
  new : AreNew same_queue before ns
  served : AllByRecursion (λ n. has_service n ≡ true) ns

none_named : (before : List QueueName) → AreNamed before []
unfolding AreNew
none_named before = record { new = tt; served = tt }

one_named : (before : List QueueName) (n : QueueName) (ns : List QueueName) → (enabled_behind before).fits n ≡ true → AreNamed (next_enabled n before) ns → AreNamed before (n ∷ ns)
unfolding enabled_behind AreNew
one_named before n ns fits rest =
    let a = and_parts (queue_name.fits n) _ fits in
    let b = and_parts (has_service n) (not (is_enabled n before)) a.1 in
    record { new = (not-true (is_enabled n before) b.1, rest.new); served = (b.0, rest.served) }

-- what is told of enabled queues: each has service, and is enabled once
record EnabledTold (ns : List QueueName) : Type 0 where
  once : IsOnce ns
  served : AllByRecursion (λ n. has_service n ≡ true) ns

enabled_told : (ns : List QueueName) → enabled.fits ns ≡ true → EnabledTold ns
unfolding enabled
enabled_told ns fits =
    let a = counted_parts next_enabled enabled_behind byte [] ns fits in
    let named = chain_holds next_enabled enabled_behind AreNamed none_named one_named [] ns a.1 in
    record { once = new_once same_queue same_queue-sound times is_times ns named.new; served = named.served }

-- a queue with service, of a stream, is one that may be enabled
there_among : (p : Place) (w : Way) (ps : List (Standing ℕ)) → has_service_at p ≡ true → has_queue_at p w ps ≡ true → is_there_among p w (map module_name ps) ≡ true
there_among places.Head w ps served there = absurd cc
there_among (places.Module name) w ps served there = ap (λ b. have_queues name && b) (names_stand name ps) ∙ there
there_among places.Driver Up ps served there = absurd cc
there_among places.Driver Down ps served there = refl

is_of : (s : State ℕ) (side : Side) (p : Place) (w : Way) → has_service_at p ≡ true → has_queue_at p w (stream side s).modules ≡ true → IsThere (stands_of s) (record { side = side; place = p; way = w })
is_of s Master p w served there = there_among p w (stream Master s).modules served there
is_of s Slave p w served there = there_among p w (stream Slave s).modules served there

all_of : (s : State ℕ) (ns : List QueueName) → AllByRecursion (λ n. has_service n ≡ true) ns → list_all (is_there s) ns ≡ true → AllByRecursion (λ n. IsThere (stands_of s) n) ns
all_of s [] served there = tt
all_of s (n ∷ ns) served there =
    let a = and_parts (is_there s n) (list_all (is_there s) ns) there in
    (is_of s n.side n.place n.way served.0 a.0, all_of s ns served.1 a.1)

-- ---- ledgers

counts_told : (ns : List ℕ) → fit_from keep (always u64) tt ns ≡ true → AllByRecursion (λ n. n < 2 ^ 64) ns
counts_told ns fits = chain_holds keep (always u64) (λ s ns. AllByRecursion (λ n. n < 2 ^ 64) ns) (λ s. tt) (λ s n ns one rest. (u64_below n one, rest)) tt ns fits

account_told : (a : Account) → account.fits a ≡ true → IsBooked a.book × AreFates a.fates
unfolding account rule_counts
account_told a fits =
    let written = and_parts _ _ fits in
    let made = and_parts _ _ written.1 in
    let counts = and_parts (eqb (length a.fates) RULES) (fit_from keep (always u64) tt a.fates) made.1 in
    let few : a.book.written < 9223372036854775808 = ltb-true a.book.written 9223372036854775808 (and_parts (u64.fits a.book.written) (is_booked a.book.written) written.0).1 in
    let few_made : a.book.made < 9223372036854775808 = ltb-true a.book.made 9223372036854775808 (and_parts (u64.fits a.book.made) (is_booked a.book.made) made.0).1 in
    (record { written = omega (arith, few); made = omega (arith, few_made) }, record { each = counts_told a.fates counts.1; all = eqb-true (length a.fates) RULES counts.0 })

-- ---- images

body_told : (x : Imaged) → (body Second).fits x ≡ true → HasImage x
unfolding body
body_told x fits =
    let s = x.state in
    let books = and_parts _ (are_balanced x) fits in
    let there = and_parts _ (are_there x) books.0 in
    let quiet = and_parts _ (are_quiet x) there.0 in
    let silent = and_parts (is_quiet s.ends.master) (is_quiet s.ends.slave) quiet.1 in
    let master = and_parts (openness.fits s.ends.master.opened) _ quiet.0 in
    let slave = and_parts (openness.fits s.ends.slave.opened) _ master.1 in
    let locked = and_parts (flag.fits s.locked) _ slave.1 in
    let next = and_parts ((only is_number u32).fits s.next_ioctl) _ locked.1 in
    let above = and_parts ((laid Second false).fits (laid_on s.ends.master)) _ next.1 in
    let below = and_parts ((laid Second true).fits (laid_on s.ends.slave)) _ above.1 in
    let names = and_parts (enabled.fits s.enabled) _ below.1 in
    let accounts = and_parts _ _ names.1 in
    let number = and_parts (u32.fits s.next_ioctl) (is_number s.next_ioctl) next.0 in
    let low : s.next_ioctl < 2 ^ 32 = u32_below s.next_ioctl number.0 in
    let some : 0 < s.next_ioctl = ltb-true 0 s.next_ioctl number.1 in
    let on_top = stream_told Master s.ends.master above.0 silent.0 in
    let under = stream_told Slave s.ends.slave below.0 silent.1 in
    let named = enabled_told s.enabled names.0 in
    let from_master = account_told (record { book = s.books.master; fates = x.fates.master }) accounts.0 in
    let from_slave = account_told (record { book = s.books.slave; fates = x.fates.slave }) accounts.1 in
    let agree = and_parts (is_balanced MasterToSlave x) (is_balanced SlaveToMaster x) books.1 in
    let all = all_join IsLaid (stream_queues s.ends.master) (stream_queues s.ends.slave) on_top.laid under.laid in
    record {
      restorable = record {
        streams = λ side. elim side as (λ side. GoodStream side (get side s.ends)) [ Master ↦ on_top.good | Slave ↦ under.good ];
        heads = λ side. elim side as (λ side. IsWithin (get side s.ends).head) [ Master ↦ on_top.within | Slave ↦ under.within ];
        idle = λ side. elim side as (λ side. AllByRecursion (λ p. IsAtRest p) (get side s.ends).modules) [ Master ↦ on_top.rests | Slave ↦ under.rests ];
        enabled = record { once = named.once; there = all_of s s.enabled named.served there.1 };
        numbered = omega (arith, some);
        last = omega (arith, low);
      };
      ordered = all_so IsLaid (λ q. IsOrdered q.messages) (λ q laid. laid.ordered) (queues_of s) all;
      short = all_so IsLaid IsShortQueue (λ q laid. laid.short) (queues_of s) all;
      banded = all_so IsLaid (λ q. length q.flows ≡ BANDS) (λ q laid. laid.banded) (queues_of s) all;
      numbers = λ side. elim side as (λ side. HasNumbers (get side s.ends)) [ Master ↦ on_top.numbers | Slave ↦ under.numbers ];
      booked = λ side. elim side as (λ side. IsBooked (get side s.books)) [ Master ↦ from_master.0 | Slave ↦ from_slave.0 ];
      gone = λ side. elim side as (λ side. AreFates (get side x.fates)) [ Master ↦ from_master.1 | Slave ↦ from_slave.1 ];
      balanced = λ dir. elim dir as (λ dir. Balances dir x) [ MasterToSlave ↦ eqb-true _ _ agree.0 | SlaveToMaster ↦ eqb-true _ _ agree.1 ];
    }

second_told : (x : Imaged) → image.fits (Second, x) ≡ true → HasImage x
unfolding image version
second_told x fits =
    let a = and_parts ((only is_mark (bytes_of 4)).fits mark) ((tagged version_of version versioned).fits (Second, x)) fits in
    body_told x (and_parts (version.fits Second) ((versioned Second).fits (Second, x)) a.1).1

pub image_told : (v : Version) (x : Imaged) → image.fits (v, x) ≡ true → HasImage x
image_told First x fits = second_told x (image_later x fits)
image_told Second x fits = second_told x fits

-- ---- bases

few_booked : (s : State ℕ) → ((side : Side) → IsBooked (get side s.books)) → FewBooked s
few_booked s booked = record {
  written = λ dir. elim dir as (λ dir. (book dir s).written < 2 ^ 63) [ MasterToSlave ↦ (booked Master).written | SlaveToMaster ↦ (booked Slave).written ];
  made = λ dir. elim dir as (λ dir. (book dir s).made < 2 ^ 63) [ MasterToSlave ↦ (booked Master).made | SlaveToMaster ↦ (booked Slave).made ];
}

balanced_in : (dir : Dir) (x : Imaged) (fates : Fates) → Balances dir x → fates_of dir fates ≡ get (side_from dir) x.fates → length (get (side_from dir) x.fates) ≡ RULES → Balanced dir x.state fates
balanced_in dir x fates agree counts all =
    let total : sum (fates_of dir fates) ≡ sum (get (side_from dir) x.fates) = ap sum counts in
    record { rules = ap length counts ∙ all; agree = omega (arith, agree, total) }

pub image_base : (x : Imaged) (fates : Fates) → HasImage x → counts_of fates ≡ x.fates → IsBase x.state fates
image_base x fates h counts = record {
  ordered = h.ordered;
  restorable = h.restorable;
  balanced = λ dir. elim dir as (λ dir. Balanced dir x.state fates) [
    | MasterToSlave ↦ balanced_in MasterToSlave x fates (h.balanced MasterToSlave) (ap (λ b. b.master) counts) (h.gone Master).all
    | SlaveToMaster ↦ balanced_in SlaveToMaster x fates (h.balanced SlaveToMaster) (ap (λ b. b.slave) counts) (h.gone Slave).all
  ];
  few = few_booked x.state h.booked;
}
