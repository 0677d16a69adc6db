-- Whatever puts, turns and pops do, few queues are enabled, as what joins them is there: the list of them has room (qenable(9F)).
use Rattle.strm_pair.proofs.Prelude.{ℕ, ◌≡◌, ◌≤◌, ◌-◌, Bool, true, false, cond, List, [], ◌∷◌, ◌++◌, length, length-append, length-map, map}
use Rattle.strm_pair.proofs.Prelude.{refl, sym, ap, subst, ◌∙◌, arith, ◌&&◌, not, slice_index_or, Option, None, Some, IfSome}
use Rattle.strm_pair.specs.Prelude.{ModuleName, Place, QueueName, Side, Master, Slave, Way, Up, Down, Note, Rule, ReadMode, Spot, plain, Acted}
use Rattle.strm_pair.specs.Prelude.{Message, State, Stream, stream, with_stream, with_modules, Standing, module_name, stands_of, before_at, earlier_at}
use Rattle.strm_pair.specs.Prelude.{enable, enable_some, is_enabled, noted, places_of, put_in, delivered, module_acted, mode_put, top_taken}
use Rattle.strm_pair.specs.Prelude.{head_above, StoreValue, Restorable, GoodStream, MODULES, Behaviour, EndClosed, head_emptied, of_all}
use Rattle.strm_pair.specs.Prelude.{queue_behind, writer_goes, before_driver, before_head, driver_place, with_driver_queue, with_head_queue}
use Rattle.strm_types.specs.declared.spots.Note.TheVariants.{Enable, Room}
use Rattle.strm_types.specs.Names.{enable_found, has_queues_at, without}
use Rattle.strm_types.specs.Options.{mode_message}
use Rattle.strm_laws.specs.Closes.{driver_emptied}
use Rattle.strm_laws.specs.Earlier.{queue_named}
use Rattle.strm_laws.specs.Pushes.{all_taken}
use Rattle.strm_laws.specs.Restorable.{AreEnabled, IsThere, is_there_among}
use Rattle.strm_laws.specs.StackCosts.{Stands, stands_on}
use Rattle.strm_laws.specs.Stacked.{kind_name}
use Rattle.strm_laws.proofs.EnabledExist.{AreNoted, KeepsNames, MayBe, any-noted, before-there, enable-there, index-there, more-among, noted-keeps}
use Rattle.strm_laws.proofs.EnabledExist.{some-keeps, without-there}
use Rattle.strm_laws.proofs.EnabledFew.{few-enabled, room-enabled}
use Rattle.strm_laws.proofs.GoodCalls.{with-get}
use Rattle.strm_laws.proofs.NamesKept.{delivered-kept, head-kept, puts-kept}
use Rattle.strm_laws.proofs.PutParts.{booked-holds}
use Rattle.strm_laws.proofs.StackStays.{same-names}
use Rattle.strm_frame.specs.MayEnable.{MayEnable}
use Rattle.strm_pair.specs.declared.ends.StreamEnd.{StreamEnd}
use Rattle.strm_pair.specs.declared.modules.AnyModule.{AnyModule}
use Rattle.strm_pair.specs.declared.modules.AnyModule.TheVariants as kinds
use Rattle.strm_pair.specs.declared.streams.Streams.{Streams}
use Rattle.strm_pair.specs.AnyModules.{AnyStanding, kind_in, module_in}
use Rattle.strm_pair.specs.Enabling.{AreFewEnabled}
use Rattle.strm_pair.specs.Nearest.{noted_on}
use Rattle.strm_pair.specs.Pairs.{state_in, end_at, with_end}
use Rattle.strm_pair.specs.Stacks.{Stack, modules_in}
use Rattle.strm_pair.specs.Taken.{let_go_of}

-- where a list with one more has 14 at most, there is room for it
pub few-room : (name : QueueName) (names : List QueueName) → length (enable name names) ≤ 14 → MayEnable names name
few-room name names few = λ has absent.
    let added : enable name names ≡ names ++ name ∷ [] =
    ap (λ b. cond {A = List QueueName} (b && not (is_enabled name names)) (names ++ name ∷ []) names) has
    ∙ ap (λ b. cond {A = List QueueName} (not b) (names ++ name ∷ []) names) absent in
    omega (arith, few, ap (λ ns. length ns) added, length-append names (name ∷ []))

pub found-room : (o : Option QueueName) (names : List QueueName) → length (enable_found o names) ≤ 14 → IfSome o (MayEnable names)
found-room None names few = tt
found-room (Some name) names few = few-room name names few

-- no name goes where one is enabled
long : (name : QueueName) (names : List QueueName) (b : Bool) → length names ≤ length (cond {A = List QueueName} b (names ++ name ∷ []) names)
long name names true = omega (arith, length-append names (name ∷ []))
long name names false = omega arith

pub found-long : (o : Option QueueName) (names : List QueueName) → length names ≤ length (enable_found o names)
found-long None names = omega arith
found-long (Some name) names = long name names (has_queues_at name.place && not (is_enabled name names))

pub noted-long : (side : Side) (place : Option Place) (earlier : Way → Option QueueName) (notes : List Note) (names : List QueueName)
    → length names ≤ length (noted side place earlier notes names)
noted-long side place earlier [] names = omega arith
noted-long side place earlier (Enable way ∷ notes) names =
    let o = queue_named side way place in omega (arith, found-long o names, noted-long side place earlier notes (enable_found o names))
noted-long side place earlier (Room way ∷ notes) names =
    let o = earlier way in omega (arith, found-long o names, noted-long side place earlier notes (enable_found o names))

module _ (s : State ℕ) (e : AreFewEnabled s) where
  -- what is there joins them, and what is taken off leaves them
  joins : KeepsNames (stands_of s) (AreEnabled e.all)
  joins = record {
    joins = λ name names there are. enable-there e.all name names (e.among name there) are;
    leaves = λ name names are. without-there e.all name names are;
  }

  -- the same modules stand behind it, and others are enabled that are there
  pub stays-few : (t : State ℕ) → stands_of t ≡ stands_of s → AreEnabled e.all t.enabled → AreFewEnabled t
  stays-few t same are = record {
    all = e.all;
    few = e.few;
    among = λ name is. e.among name (subst (λ a. IsThere a name) same is);
    names = are;
  }

  kept-few : (t : State ℕ)
      → ((P : List QueueName → Type 0) → KeepsNames (stands_of s) P → P s.enabled → (stands_of t ≡ stands_of s) × P t.enabled)
      → AreFewEnabled t
  kept-few t kept = let k = kept (AreEnabled e.all) joins e.names in stays-few t k.0 k.1

  -- over a put, a delivery, and what a head is told
  pub put-few : (K : Behaviour) (to : Spot) (m : Message ℕ) → AreFewEnabled (put_in K plain to m s).state
  put-few K to m = kept-few (put_in K plain to m s).state (λ P keeps holds. puts-kept (stands_of s) P keeps K plain to m s (refl, holds))

  pub delivered-few : (K : Behaviour) (to : Spot) (m : Message ℕ) → AreFewEnabled (delivered K plain to m s).state
  delivered-few K to m =
      kept-few (delivered K plain to m s).state (λ P keeps holds. delivered-kept (stands_of s) P keeps K plain to m s (refl, holds))

  pub mode-few : (side : Side) (mode : Option ReadMode) → AreFewEnabled (mode_put side mode s).state
  mode-few side None = e
  mode-few side (Some mode) =
      kept-few (mode_put side (Some mode) s).state
      (λ P keeps holds. head-kept (stands_of s) P keeps side (head_above side) (mode_message mode false) s (refl, holds))

  -- a queue that is there, or may be
  pub some-names : (goes : Bool) (o : Option QueueName) → MayBe (stands_of s) o → AreEnabled e.all (enable_some goes o s.enabled)
  some-names goes o may = some-keeps (stands_of s) (AreEnabled e.all) joins goes o s.enabled may e.names

  pub let-few : (side : Side) (way : Way) (at : ℕ) (goes : Bool) → length (enable_some goes (before_at side way at s) s.enabled) ≤ 14
  let-few side way at goes =
      few-enabled e.all e.few _ (some-names goes (before_at side way at s) (before-there (stands_of s) s refl side way at))

  -- behind that there is room for one that is there
  pub some-room : (goes : Bool) (o : Option QueueName) → MayBe (stands_of s) o → (name : QueueName) → IsThere (stands_of s) name
      → MayEnable (enable_some goes o s.enabled) name
  some-room goes o may name there = λ has absent. room-enabled e.all e.few _ (some-names goes o may) name (e.among name there) absent

  pub let-room : (side : Side) (way : Way) (at : ℕ) (goes : Bool) (name : QueueName) → IsThere (stands_of s) name
      → MayEnable (enable_some goes (before_at side way at s) s.enabled) name
  let-room side way at goes name there =
      some-room goes (before_at side way at s) (before-there (stands_of s) s refl side way at) name there

  pub one-room : (name : QueueName) → IsThere (stands_of s) name → MayEnable s.enabled name
  one-room name there = some-room false None tt name there

  -- a stream whose modules keep their names, and whose queue lets a writer go or not
  pub goes-few : (side : Side) (t : Stream ℕ) (goes : Bool) (o : Option QueueName)
      → map module_name t.modules ≡ map module_name (stream side s).modules
      → MayBe (stands_of s) o → AreFewEnabled (record (with_stream side t s) { enabled = enable_some goes o s.enabled })
  goes-few side t goes o same may =
      stays-few (record (with_stream side t s) { enabled = enable_some goes o s.enabled }) (same-names side t s same) (some-names goes o may)

  pub with-few : (side : Side) (t : Stream ℕ) → map module_name t.modules ≡ map module_name (stream side s).modules
      → AreFewEnabled (with_stream side t s)
  with-few side t same = stays-few (with_stream side t s) (same-names side t s same) e.names

  pub without-few : (name : QueueName) → AreFewEnabled (record s { enabled = without name s.enabled })
  without-few name = stays-few (record s { enabled = without name s.enabled }) refl (without-there e.all name s.enabled e.names)

  -- a head and a driver from whose queues all goes
  pub emptied-few : (side : Side) → AreFewEnabled (head_emptied EndClosed of_all side s).state
  emptied-few side =
      let q = (stream side s).head.queue in
      goes-few side (with_head_queue (queue_behind of_all q) (stream side s)) (writer_goes of_all q) (before_head side s) refl
      (before-there (stands_of s) s refl side Up 0)

  pub driver-few : (side : Side) → AreFewEnabled (driver_emptied EndClosed of_all side s).state
  driver-few side =
      let q = (stream side s).driver.queue in
      goes-few side (with_driver_queue (queue_behind of_all q) (stream side s)) (writer_goes of_all q) (before_driver side s) refl
      (before-there (stands_of s) s refl side Down (driver_place side s))

  -- what notes say of the queues of a place that are there
  pub noted-names : (side : Side) (place : Option Place) (earlier : Way → Option QueueName) (notes : List Note)
      → AreNoted (stands_of s) side place notes → ((way : Way) → MayBe (stands_of s) (earlier way))
      → AreEnabled e.all (noted side place earlier notes s.enabled)
  noted-names side place earlier notes fine before =
      noted-keeps (stands_of s) (AreEnabled e.all) joins side place earlier before notes fine s.enabled e.names

  -- a module that has acted and keeps its name
  pub acted-few : (here : Spot) (t : Acted ℕ (List (Standing ℕ))) → map module_name t.state ≡ map module_name (stream here.side s).modules
      → AreFewEnabled (module_acted here t s).state
  acted-few here t same =
      let on = stream here.side s in
      let place = slice_index_or (places_of on.modules) (here.at - 1) None in
      let fine = any-noted (stands_of s) here.side place (λ way. index-there (stands_of s) s refl here.side way (here.at - 1)) t.notes in
      booked-holds AreFewEnabled (λ dir n v is. record { all = is.all; few = is.few; among = is.among; names = is.names }) t.gone _
      (stays-few _ (same-names here.side (record on { modules = t.state }) s same)
      (noted-names here.side place (earlier_at here.side here.at s) t.notes fine (λ way. before-there (stands_of s) s refl here.side way here.at)))

-- where the module on top is taken off, its queues go with it
below-there : (side : Side) (p : Standing ℕ) (ps : List (Standing ℕ)) (s : State ℕ) → (stream side s).modules ≡ p ∷ ps → (name : QueueName)
    → IsThere (stands_of (with_modules side ps s)) name → IsThere (stands_of s) name
below-there side p ps s top name is = at side name.side top is
  where
    Among : List (Standing ℕ) → Type 0
    Among qs = is_there_among name.place name.way (map module_name qs) ≡ true

    more : (qs : List (Standing ℕ)) → qs ≡ p ∷ ps → Among ps → Among qs
    more qs top is = subst Among (sym top) (more-among name.place name.way (module_name p) (map module_name ps) is)

    at : (side of : Side) → (stream side s).modules ≡ p ∷ ps
        → is_there_among name.place name.way (stands_on of (stands_of (with_modules side ps s))) ≡ true
        → is_there_among name.place name.way (stands_on of (stands_of s)) ≡ true
    at Master Master top is = more (stream Master s).modules top is
    at Slave Slave top is = more (stream Slave s).modules top is
    at Master Slave top is = is
    at Slave Master top is = is

module _ (rule : Rule) (side : Side) where
  these-few : (ps : List (Standing ℕ)) (s : State ℕ) → (stream side s).modules ≡ ps → AreFewEnabled s → AreFewEnabled (top_taken rule side ps s).state
  these-few [] s top e = e
  these-few (p ∷ ps) s top e =
      let notes = (let_go_of side rule p).notes in
      let place = slice_index_or (places_of (stream side s).modules) 0 None in
      let fine = any-noted (stands_of s) side place (λ way. index-there (stands_of s) s refl side way 0) notes in
      let earlier = earlier_at side 1 s in
      let names = noted-names s e side place earlier notes fine (λ way. before-there (stands_of s) s refl side way 1) in
      record {
        all = e.all;
        few = e.few;
        among = λ name is. e.among name (below-there side p ps s top name is);
        names = without-there e.all _ _ (without-there e.all _ _
            (subst (λ qs. AreEnabled e.all (noted side (slice_index_or (places_of qs) 0 None) earlier notes s.enabled)) top names));
      }

  pub taken-few : (s : State ℕ) → AreFewEnabled s → AreFewEnabled (top_taken rule side (stream side s).modules s).state
  taken-few s e = these-few (stream side s).modules s refl e

  pub all-few : (ps : List (Standing ℕ)) (s : State ℕ) → (stream side s).modules ≡ ps → AreFewEnabled s → AreFewEnabled (all_taken rule side ps s).state
  all-few [] s top e = e
  all-few (p ∷ ps) s top e = all-few ps (top_taken rule side (p ∷ ps) s).state (with-get side ps [] s) (these-few (p ∷ ps) s top e)

-- between two calls
pub restorable-few : (s : State ℕ) → Restorable s → AreFewEnabled s
restorable-few s good = record { all = stands_of s; few = three; among = λ name is. is; names = good.enabled }
  where
    on : (side : Side) → GoodStream side (stream side s) → length (map module_name (stream side s).modules) ≤ MODULES
    on side t = omega (arith, t.modules.few, length-map (stream side s).modules module_name)

    three : (side : Side) → length (stands_on side (stands_of s)) ≤ MODULES
    three Master = on Master (good.streams Master)
    three Slave = on Slave (good.streams Slave)

-- ---- streams beside a store

name-any : (s t : StoreValue) (x : AnyModule) → kind_name (kind_in t x) ≡ kind_name (kind_in s x)
name-any s t (kinds.Ldterm x) = refl
name-any s t (kinds.Ptem x) = refl
name-any s t (kinds.Pckt x) = refl
name-any s t (kinds.Own o) = refl

names-any : (s t : StoreValue) (xs : List AnyStanding) → map module_name (map (module_in t) xs) ≡ map module_name (map (module_in s) xs)
names-any s t [] = refl
names-any s t (x ∷ xs) =
    ap (λ n. n ∷ map module_name (map (module_in t) xs)) (name-any s t x.module)
    ∙ ap (λ ns. module_name (module_in s x) ∷ ns) (names-any s t xs)

abbrev names_in : StoreValue → StreamEnd → List ModuleName
names_in s e = map module_name (modules_in s e.stack)

abbrev stand_so : List ModuleName → List ModuleName → Stands
stand_so ms ns = record { master = ms; slave = ns }

-- a stream whose modules have the names that they had
pub stands-stack : (s t : StoreValue) (p : Streams) (side : Side) (e : StreamEnd)
    → map module_name (modules_in t e.stack) ≡ map module_name (modules_in s (end_at side p).stack)
    → stands_of (state_in t (with_end side e p)) ≡ stands_of (state_in s p)
stands-stack s t p Master e same =
    ap (λ ns. stand_so ns (names_in t p.ends.slave)) same
    ∙ ap (λ ns. stand_so (names_in s p.ends.master) ns) (names-any s t p.ends.slave.stack.modules.items)
stands-stack s t p Slave e same =
    ap (λ ns. stand_so (names_in t p.ends.master) ns) same
    ∙ ap (λ ns. stand_so ns (names_in s p.ends.slave)) (names-any s t p.ends.master.stack.modules.items)

-- and one whose stack stays
pub same-stack : (s t : StoreValue) (p : Streams) (side : Side) (e : StreamEnd) → e.stack ≡ (end_at side p).stack → AreFewEnabled (state_in s p)
    → AreFewEnabled (state_in t (with_end side e p))
same-stack s t p side e same few =
    let names = ap (λ (x : Stack). map module_name (modules_in t x)) same ∙ names-any s t (end_at side p).stack.modules.items in
    stays-few (state_in s p) few (state_in t (with_end side e p)) (stands-stack s t p side e names) few.names

-- what a put at a place says of its queues
pub noted-few : (s t : StoreValue) (p y : Streams) (side : Side) (place : Option Place) (at : ℕ) (notes : List Note) → AreFewEnabled (state_in s p)
    → stands_of (state_in t y) ≡ stands_of (state_in s p) → y.enabled ≡ p.enabled → AreNoted (stands_of (state_in s p)) side place notes
    → length (noted_on t side place at notes y).enabled ≤ 14
noted-few s t p y side place at notes e same enabled fine =
    subst (λ names. length (noted side place (earlier_at side at (state_in t y)) notes names) ≤ 14) (sym enabled)
    (few-enabled e.all e.few _ (noted-names (state_in s p) e side place (earlier_at side at (state_in t y)) notes fine
    (λ way. before-there (stands_of (state_in s p)) (state_in t y) same side way at)))

pub place-noted : (s : StoreValue) (p : Streams) (side : Side) (place : Option Place) (i : ℕ) (notes : List Note)
    → place ≡ slice_index_or (places_of (stream side (state_in s p)).modules) i None → AreNoted (stands_of (state_in s p)) side place notes
place-noted s p side place i notes is =
    let st = state_in s p in
    subst (λ o. AreNoted (stands_of st) side o notes) (sym is)
    (any-noted (stands_of st) side _ (λ way. index-there (stands_of st) st refl side way i) notes)
