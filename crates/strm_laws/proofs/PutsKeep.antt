-- A put in a pair loses no cell, makes none that it doesn't tell, and leaves a side that isn't open nothing to be read.
use Rattle.strm_laws.proofs.Prelude.{ℕ, zero, suc, ◌≡◌, ◌<◌, ◌≤◌, ◌+◌, ◌-◌, Bool, true, false, cond, List, [], ◌∷◌, length, refl, ap, ◌∙◌, arith}
use Rattle.strm_laws.proofs.Prelude.{◌==◌, ◌&&◌, not, min, nat_le, nat_tests, weight-whole, set-all}
use Rattle.strm_laws.specs.Prelude.{QueueName, MODULES, Side, Way, Up, Down, Spot, Dir, with_made, Cells, Acted, Comes, Fate, Goes, Took, is_flush}
use Rattle.strm_laws.specs.Prelude.{is_bare_flush, Message, has_parts, weight_of, direction_at, is_open, put_among, head_put, driver_put}
use Rattle.strm_laws.specs.Behaviours.{Behaviour, MayTestOwn}
use Rattle.strm_laws.specs.Earlier.{driver_place, modules_on}
use Rattle.strm_laws.specs.Kept.{state_weight}
use Rattle.strm_laws.specs.Places.{PutKeeps, direction_to, way_to, weight_sent, weight_gone, weight_made}
use Rattle.strm_laws.specs.Puts.{SameButMade, across_of, booked, made_above, module_acted, put_at_driver, put_at_head, put_at_module, put_behind, put_below, put_in}
use Rattle.strm_laws.specs.Stacked.{Standing, module_puts, modules_weight}
use Rattle.strm_laws.specs.State.{State, stream, with_book, with_stream, book, Stream, with_driver_queue}
use Rattle.strm_laws.proofs.ModulePuts.{among-keeps}
use Rattle.strm_laws.proofs.LdtermKeeps.{way-up}
use Rattle.strm_laws.proofs.PutParts.{Stays, either-holds, waiting, NamesHold}
use Rattle.strm_laws.proofs.PutWeights.{driver_put-keeps, head_put-keeps, no-parts}
use Rattle.strm_laws.proofs.StreamWeights.{stream-weighs}
use Rattle.strm_laws.proofs.PutsBook.{more-written}

-- a place below the head, and one at which a module stands
pub not-head : (at : ℕ) → (at == 0) ≡ false → 0 < at
not-head at is = let some : 0 < at = grind (arith, nat_tests) in some

pub stands-among : (at count : ℕ) → nat_le at (min MODULES count) ≡ true → at ≤ min MODULES count
stands-among at count is = let among : at ≤ min MODULES count = grind (arith, nat_tests) in among

stands-within : (at count : ℕ) → 0 < at → nat_le at (min MODULES count) ≡ true → at - 1 < count
stands-within at count some is = omega (arith, stands-among at count is, some)

module _ {C : Type 0} (p : Dir → C → Bool) where
  -- a put in a pair that had so many cells with those of the message
  abbrev Keeps : Took C (State C) → ℕ → Type 0
  Keeps t n = state_weight p t.state + (weight_sent p t.sent + weight_gone p t.gone) ≡ n + weight_made p t.gone

  either-keeps : (n : ℕ) (b : Bool) (one another : Took C (State C)) → (b ≡ true → Keeps one n) → (b ≡ false → Keeps another n) → Keeps (cond b one another) n
  either-keeps n true one another first second = first refl
  either-keeps n false one another first second = second refl

  -- a spot by its side
  abbrev on : Side → Spot → Spot
  on side here = record here { side = side }

  -- how many cells a pair has with those of a message that goes in a direction
  abbrev with_message : Way → Side → Message C → State C → ℕ
  with_message way side m s = state_weight p s + weight_of (p (direction_at way side)) m

  pub head-keeps : (side : Side) (here : Spot) (m : Message C) (s : State C) → Keeps (put_at_head side (on side here) m s) (with_message Up side m s)
  head-keeps side here m s =
      let t = stream side s in
      either-keeps _ (is_open t.opened) _ _
      (λ _. omega (arith, stream-weighs p side (record t { head = (head_put (on side here) m t.head).state }) s, head_put-keeps p (on side here) m t.head))
      (λ _. omega (arith, weight-whole (p (direction_at Up side)) m))

  driver-keeps : (side : Side) (here : Spot) (m : Message C) (s : State C) → Keeps (put_at_driver side here m s) (with_message Down side m s)
  driver-keeps side here m s =
      let t = stream side s in
      let to : Spot = record here { at = driver_place side s } in
      let put = driver_put side (across_of side s) to m t.driver.queue in
      omega (arith, stream-weighs p side (with_driver_queue put.state t) s, driver_put-keeps p side (across_of side s) to m t.driver.queue)

  pub booked-keeps : (told : List (Fate C)) (s : State C) → state_weight p (booked told s) ≡ state_weight p s
  booked-keeps [] s = refl
  booked-keeps (Goes dir rule xs ∷ told) s = booked-keeps told s
  booked-keeps (Comes dir xs ∷ told) s = booked-keeps told (with_book dir (with_made (length xs) (book dir s)) s)

  -- modules that have acted
  acted-keeps : (here : Spot) (t : Acted C (List (Standing C))) (s : State C) (n : ℕ)
      → modules_weight p here.side t.state + (weight_sent p t.sent + weight_gone p t.gone) ≡ modules_weight p here.side (stream here.side s).modules + n + weight_made p t.gone
      → Keeps (module_acted here t s) (state_weight p s + n)
  acted-keeps here t s n kept =
      let on = stream here.side s in
      omega (arith, kept, stream-weighs p here.side (record on { modules = t.state }) s, booked-keeps t.gone (module_acted here (record t { gone = [] }) s).state)

  -- an M_FLUSH that was sent across has no cells, in whichever direction
  bare-weighs : (t : C → Bool) (b : Bool) (m : Message C) → (is_bare_flush m && b) ≡ true → weight_of t m ≡ 0
  bare-weighs t b m is = no-parts t m (no-part (is_flush m.kind) (has_parts m) b is)
    where
      no-part : (flush parts b : Bool) → ((flush && not parts) && b) ≡ true → parts ≡ false
      no-part true false b is = refl
      no-part true true b is = absurd (cc)
      no-part false parts b is = absurd (cc)

  passed-weighs : (side : Side) (m : Message C) (at : ℕ) → weight_of (p (direction_to (record { side = side; at = at; way = Up }))) m ≡ weight_of (p (direction_at Up side)) m
  passed-weighs side m at = ap (λ way. weight_of (p (direction_at way side)) m) (way-up at)

  behind-keeps : (way : Way) (here : Spot) (m : Message C) (s : State C) → let to : Spot = record here { way = way } in Keeps (put_behind way to m s) (with_message way here.side m s)
  behind-keeps Down here m s = driver-keeps here.side (record here { way = Down }) m s
  behind-keeps Up here m s =
      let up : Spot = record here { way = Up } in
      either-keeps _ (is_bare_flush m && here.at == suc MODULES) _ _
      (λ is. omega (arith, driver-keeps here.side up m s, bare-weighs (p (direction_at Up here.side)) (here.at == suc MODULES) m is, bare-weighs (p (direction_at Down here.side)) (here.at == suc MODULES) m is))
      (λ _. omega (arith, passed-weighs here.side m (modules_on here.side s)))

  -- the direction of what is put below a head is that of its way
  below-weighs : (to : Spot) (m : Message C) → 0 < to.at → weight_of (p (direction_to to)) m ≡ weight_of (p (direction_at to.way to.side)) m
  below-weighs to m some = at to.at some
    where
      at : (n : ℕ) → 0 < n → weight_of (p (direction_at (way_to n to.way) to.side)) m ≡ weight_of (p (direction_at to.way to.side)) m
      at zero some = absurd (omega arith)
      at (suc n) some = refl

  top-weighs : (to : Spot) (m : Message C) → (to.at == 0) ≡ true → weight_of (p (direction_to to)) m ≡ weight_of (p (direction_at Up to.side)) m
  top-weighs to m is = at to.at is
    where
      at : (n : ℕ) → (n == 0) ≡ true → weight_of (p (direction_at (way_to n to.way) to.side)) m ≡ weight_of (p (direction_at Up to.side)) m
      at zero is = refl
      at (suc n) is = absurd (let none : suc n ≡ 0 = grind (arith, nat_tests) in omega (arith, none))

  module _ (K : Behaviour) (cells : Cells C) (tests : MayTestOwn K cells p) where
    module-keeps : (here : Spot) (m : Message C) (s : State C) → here.at - 1 < length (stream here.side s).modules → Keeps (put_at_module K cells here m s) (with_message here.way here.side m s)
    module-keeps here m s within =
        let ps = (stream here.side s).modules in
        let t = put_among (module_puts K cells (made_above here.side s)) (here.at - 1) here m ps in
        acted-keeps here t s (weight_of (p (direction_at here.way here.side)) m) (among-keeps K p cells tests (made_above here.side s) (here.at - 1) here m ps within)

    below-keeps : (way : Way) (here : Spot) (m : Message C) (s : State C) → 0 < here.at → let to : Spot = record here { way = way } in Keeps (put_below K cells way to m s) (with_message way here.side m s)
    below-keeps way here m s some =
        either-keeps _ (nat_le here.at (modules_on here.side s)) _ _
        (λ is. module-keeps (record here { way = way }) m s (stands-within here.at (length (stream here.side s).modules) some is))
        (λ _. behind-keeps way here m s)

    in-keeps : (to : Spot) (m : Message C) (s : State C) → Keeps (put_in K cells to m s) (state_weight p s + weight_of (p (direction_to to)) m)
    in-keeps to m s = either-keeps _ (to.at == 0) _ _
        (λ is. omega (arith, top-weighs to m is, head-keeps to.side to m s))
        (λ is. let some = not-head to.at is in omega (arith, below-weighs to m some, below-keeps to.way to m s some))

    pub puts-keep : PutKeeps p (state_weight p) (put_in K cells)
    puts-keep to m s = let all = in-keeps to m s in omega arith

-- which sides are open, the lock, the number of the next ioctl and what was written stay; cells may be made
module _ {C : Type 0} (s : State C) where
  pub same-itself : SameButMade s s
  same-itself = record { opened = λ side. refl; locked = refl; next_ioctl = refl; written = λ dir. refl }

  -- another stream, that is open where the one before is
  pub same-with : (side : Side) (on : Stream C) (t : State C) → on.opened ≡ (stream side t).opened → SameButMade s t → SameButMade s (with_stream side on t)
  same-with side on t is same = record {
    opened = set-all (λ of u. u.opened ≡ (stream of s).opened) side on t.ends (is ∙ same.opened side) same.opened;
    locked = same.locked;
    next_ioctl = same.next_ioctl;
    written = same.written;
  }

  pub same-stays : Stays {C = C} (SameButMade s)
  same-stays = record {
    head = λ side here m t same. either-holds (SameButMade s) (is_open (stream side t).opened) _ _ (enabled _ (same-with side (record (stream side t) { head = (head_put here m (stream side t).head).state }) t refl same)) same;
    driver = λ side here m t same. enabled _ (same-with side (with_driver_queue _ (stream side t)) t refl same);
    modules = λ side ps t names same. same-with side (record (stream side t) { modules = ps }) t refl same;
    names = same-enabled;
    books = λ dir n t same. record { opened = same.opened; locked = same.locked; next_ioctl = same.next_ioctl; written = λ d. more-written d dir n t ∙ same.written d };
    waits = waits;
  }
    where
      enabled : {names : List QueueName} (t : State C) → SameButMade s t → SameButMade s (record t { enabled = names })
      enabled t same = record { opened = same.opened; locked = same.locked; next_ioctl = same.next_ioctl; written = same.written }

      same-enabled : NamesHold (SameButMade s)
      same-enabled names t same = record { opened = same.opened; locked = same.locked; next_ioctl = same.next_ioctl; written = same.written }

      waits : (side : Side) (way : Way) (band : ℕ) (t : State C) → SameButMade s t → SameButMade s (waiting side way band t)
      waits side Up band t same = same-with side _ t refl same
      waits side Down band t same = same-with side _ t refl same
