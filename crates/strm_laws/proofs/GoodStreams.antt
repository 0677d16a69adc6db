-- What is put in a pair of good streams leaves them good, and what is sent on is good: so is all that comes of a delivery.
use Rattle.strm_laws.proofs.Prelude.{ℕ, zero, suc, ◌≡◌, ◌≤◌, ◌-◌, Bool, true, false, cond, List, [], ◌∷◌, length, map, refl, sym, ap, subst, ◌∙◌}
use Rattle.strm_laws.proofs.Prelude.{arith, false≢true, length-map, Some, set-all}
use Rattle.strm_laws.specs.Prelude.{IOCTL_END, Dir, ModuleName, Side, Up, EndClosed, Spot, with_made, AllSides, Cells, Acted, Goes, Took}
use Rattle.strm_laws.specs.Prelude.{driver_put, Head, head_put, Message, cells_of, act_among, change_among, put_among, direction_at, is_open, Queue}
use Rattle.std.specs.List.{AllByRecursion}
use Rattle.strm_types.specs.declared.names.Place.TheVariants as places
use Rattle.strm_laws.specs.Behaviours.{Behaviour}
use Rattle.strm_laws.specs.Earlier.{driver_place}
use Rattle.strm_laws.specs.Puts.{across_of, earlier_at, made_above, module_acted, noted, put_at_driver, put_at_head, put_at_module}
use Rattle.strm_laws.specs.GoodMessages.{AreGood, GoodMessage}
use Rattle.strm_laws.specs.Restorable.{GoodHead, GoodModule, GoodModules, GoodQueue, GoodStream, stands_below}
use Rattle.strm_laws.specs.StackCosts.{EachOnce}
use Rattle.strm_laws.specs.Stacked.{Standing, module_name, module_puts}
use Rattle.strm_laws.specs.State.{State, Stream, book, stream, with_book, with_driver_queue, with_stream}
use Rattle.strm_laws.proofs.GoodDeliveries.{GoodParts, GoodTook}
use Rattle.strm_laws.proofs.GoodDrivers.{driver-good}
use Rattle.strm_laws.proofs.GoodHeads.{head-good}
use Rattle.strm_laws.proofs.PutParts.{NamesHold, acted-holds}
use Rattle.strm_laws.proofs.SameNames.{keep-names}
use Rattle.strm_laws.proofs.Lawful.{GoodActed}
use Rattle.strm_laws.proofs.LawfulKinds.{puts-lawfully}

module _ {C : Type 0} where
  -- both streams are good, and the next ioctl has a number
  abbrev pub AreStreams : State C → Type 0
  AreStreams s = AllSides GoodStream s.ends × (1 ≤ s.next_ioctl) × (s.next_ioctl ≤ IOCTL_END)

  pub streams-with : (side : Side) (t : Stream C) (s : State C) → GoodStream side t → AreStreams s → AreStreams (with_stream side t s)
  streams-with side t s good all = (set-all GoodStream side t s.ends good all.0, all.1, all.2)

  -- other modules of the same names
  none-named : (ps : List (Standing C)) → map module_name ps ≡ [] → ps ≡ []
  none-named [] none = refl
  none-named (p ∷ ps) none = absurd (cc none)

  pub same-modules : (ps qs : List (Standing C)) → map module_name qs ≡ map module_name ps → AllByRecursion GoodModule qs → GoodModules ps → GoodModules qs
  same-modules ps qs same each good = record {
    each = each;
    few = let n = ap (λ (ns : List ModuleName). length ns) same in omega (arith, n, length-map ps module_name, length-map qs module_name, good.few);
    once = subst (λ ns. EachOnce ns) (sym same) good.once;
  }

  pub modules-good : (side : Side) (ps : List (Standing C)) (t : Stream C) → map module_name ps ≡ map module_name t.modules → AllByRecursion GoodModule ps → GoodStream side t → GoodStream side (record t { modules = ps })
  modules-good side ps t same each good = record {
    head = good.head;
    modules = same-modules t.modules ps same each good.modules;
    driver = good.driver;
    shut = λ closed. (let was = good.shut closed in record { modules = none-named ps (same ∙ ap (λ ps. map module_name ps) was.modules); signals = was.signals; ioctl = was.ioctl; unread = was.unread });
  }

  pub driver-queue-good : (side : Side) (q : Queue C) (t : Stream C) → GoodQueue stands_below q → GoodStream side t → GoodStream side (with_driver_queue q t)
  driver-queue-good side q t fits good = record {
    head = good.head;
    modules = good.modules;
    driver = fits;
    shut = λ closed. (let was = good.shut closed in record { modules = was.modules; signals = was.signals; ioctl = was.ioctl; unread = was.unread });
  }

  -- an open side has another head
  pub open-head : (side : Side) (h : Head C) (t : Stream C) → is_open t.opened ≡ true → GoodHead side h → GoodStream side t → GoodStream side (record t { head = h })
  open-head side h t is fits good = record { head = fits; modules = good.modules; driver = good.driver; shut = λ closed. absurd (false≢true (sym closed ∙ is)) }

  -- one of several modules acts, or changes
  pub record GoodActs (t : Acted C (List (Standing C))) : Type 0 where
    pub state : AllByRecursion GoodModule t.state
    pub sent : AreGood GoodMessage t.sent

  pub acts-good : (acts : Standing C → Acted C (Standing C)) → ((p : Standing C) → GoodModule p → GoodActed (acts p)) → (i : ℕ) (ps : List (Standing C)) → AllByRecursion GoodModule ps → GoodActs (act_among acts i ps)
  acts-good acts each i [] all = record { state = tt; sent = tt }
  acts-good acts each zero (p ∷ ps) all = let t = each p all.0 in record { state = (t.state, all.1); sent = t.sent }
  acts-good acts each (suc i) (p ∷ ps) all = let t = acts-good acts each i ps all.1 in record { state = (all.0, t.state); sent = t.sent }

  pub changes-good : (change : Standing C → Standing C) → ((p : Standing C) → GoodModule p → GoodModule (change p)) → (i : ℕ) (ps : List (Standing C)) → AllByRecursion GoodModule ps → AllByRecursion GoodModule (change_among change i ps)
  changes-good change each i [] all = tt
  changes-good change each zero (p ∷ ps) all = (each p all.0, all.1)
  changes-good change each (suc i) (p ∷ ps) all = (all.0, changes-good change each i ps all.1)

  pub head-puts : (side : Side) (here : Spot) (m : Message C) (s : State C) → GoodMessage m → AreStreams s → GoodTook GoodMessage AreStreams (put_at_head side here m s)
  head-puts side here m s fits all = at (is_open above.opened) refl
    where
      above : Stream C
      above = stream side s

      t : Acted C (Head C)
      t = head_put here m above.head

      at : (is : Bool) → is_open above.opened ≡ is → GoodTook GoodMessage AreStreams (cond {A = Took C (State C)} is
          (record { state = record (with_stream side (record above { head = t.state }) s) { enabled = noted side (Some places.Head) (earlier_at side 0 s) t.notes s.enabled }; sent = t.sent; gone = t.gone })
          (record { state = s; sent = []; gone = Goes (direction_at Up side) EndClosed (cells_of m) ∷ [] }))
      at true is =
          let put = head-good side here m above.head fits (all.0 side).head in
          record { state = streams-with side (record above { head = t.state }) s (open-head side t.state above is put.state (all.0 side)) all; sent = put.sent }
      at false is = record { state = all; sent = tt }

  driver-puts : (side : Side) (here : Spot) (m : Message C) (s : State C) → GoodMessage m → AreStreams s → GoodTook GoodMessage AreStreams (put_at_driver side here m s)
  driver-puts side here m s fits all =
      let below = stream side s in
      let t = driver_put side (across_of side s) (record here { at = driver_place side s }) m below.driver.queue in
      let put = driver-good side (across_of side s) (record here { at = driver_place side s }) m below.driver.queue fits (all.0 side).driver in
      record { state = streams-with side (with_driver_queue t.state below) s (driver-queue-good side t.state below put.state (all.0 side)) all; sent = put.sent }

  module _ (cells : Cells C) where
    names-hold : NamesHold AreStreams
    names-hold names s all = all

    books-hold : (dir : Dir) (n : ℕ) (s : State C) → AreStreams s → AreStreams (with_book dir (with_made n (book dir s)) s)
    books-hold dir n s all = all

    -- a module that has acted
    pub acted-good : (here : Spot) (t : Acted C (List (Standing C))) (s : State C) → map module_name t.state ≡ map module_name (stream here.side s).modules → GoodActs t → AreStreams s
        → GoodTook GoodMessage AreStreams (module_acted here t s)
    acted-good here t s same acts all = record {
      state = acted-holds AreStreams names-hold books-hold here t s (streams-with here.side (record (stream here.side s) { modules = t.state }) s (modules-good here.side t.state (stream here.side s) same acts.state (all.0 here.side)) all);
      sent = acts.sent;
    }

    stack-puts : (K : Behaviour) (here : Spot) (m : Message C) (s : State C) → GoodMessage m → AreStreams s → GoodTook GoodMessage AreStreams (put_at_module K cells here m s)
    stack-puts K here m s fits all =
        let ps = (stream here.side s).modules in
        let made = made_above here.side s in
        let i = here.at - 1 in
        acted-good here (put_among (module_puts K cells made) i here m ps) s (keep-names K cells made i here m ps)
        (acts-good (module_puts K cells made here m) (λ p. (puts-lawfully K p cells made here m).good fits) i ps (all.0 here.side).modules.each) all

    pub stream-parts : (K : Behaviour) → GoodParts GoodMessage AreStreams K cells
    stream-parts K = record { head = head-puts; stack = stack-puts K; driver = driver-puts }
