-- What a put in a pair sends on is within what its tables say, at each place.
use Rattle.strm_laws.proofs.Prelude.{ℕ, zero, suc, ◌≡◌, ◌<◌, ◌≤◌, ◌-◌, Bool, true, false, cond, List, [], ◌∷◌, ◌++◌, length, map, refl, sym, ap}
use Rattle.strm_laws.proofs.Prelude.{subst, ◌∙◌, arith, ◌==◌, ◌&&◌, ◌||◌, min, nat_le, sum_by, Option, None, Some, nat_tests, length-map, length-take}
use Rattle.strm_laws.proofs.Prelude.{sum_by-cons, get-map}
use Rattle.strm_laws.specs.Prelude.{FlushAsked, Ioc, MsgKind, Flush, Ioctl, MODULES, ModuleName, Side, Way, Up, Down, Across, Spot, Costed, Within}
use Rattle.strm_laws.specs.Prelude.{cost_of, emits_at, next_at, Cells, Parcel, Took, toward, answered, bottom_across, crosses, driver_across}
use Rattle.strm_laws.specs.Prelude.{driver_put, freed, ioctl_put, own_flushed, put_across, put_down, reader_flush, taken_in, asked_by, flush_bytes}
use Rattle.strm_laws.specs.Prelude.{flush_message, is_bare_flush, read_flush, Head, head_put, is_doubled, nak_down, obeyed, turned_round}
use Rattle.strm_laws.specs.Prelude.{waits_for_readers, nak_message, read_ioc, Message, has_parts, put_among, is_master, is_open, other, Queue, At}
use Rattle.strm_laws.specs.Prelude.{Shape, Asking, FlushR, FlushW, FlushRW, Passing, is_flushing, shape_by, shape_of, ToDriver, ToReaders}
use Rattle.strm_laws.specs.Prelude.{driver_does, head_does, name_does}
use Rattle.std.specs.Prelude.{take}
use Rattle.strm_types.specs.Shapes.{bare_shape, flush_shape}
use Rattle.strm_types.proofs.CostsOf.{both-cost, cost-one, none-few, one-few, sent-none}
use Rattle.strm_types.proofs.ShapesOf.{reads-shape, same-flushing, writes-shape}
use Rattle.strm_laws.specs.Behaviours.{Behaviour}
use Rattle.strm_laws.specs.Earlier.{driver_place, modules_on}
use Rattle.strm_laws.specs.Puts.{across_of, made_above, passed_up, put_at_driver, put_at_head, put_at_module, put_behind, put_below, put_in}
use Rattle.strm_laws.specs.SideCosts.{SideCosts, both_costs, behind_costs, costs, crossed, does_among, front_on, fronts, place_costs, rises, side_does, side_drives, side_next, whole}
use Rattle.strm_laws.specs.StackCosts.{stands_of, stands_on}
use Rattle.strm_laws.specs.Stacked.{Standing, module_name, module_puts}
use Rattle.strm_laws.specs.State.{State, Stream, stream}
use Rattle.strm_laws.proofs.StackStays.{puts-stand}
use Rattle.strm_laws.proofs.LawfulKinds.{puts-lawfully}

module _ (cost : At → ℕ) where
  -- what a place of a side's stream may send costs so much, where what goes across comes behind so many modules
  abbrev places : Side → ℕ → SideCosts → ℕ
  places side bottom c = sum_by cost (both_costs side bottom c).emits

  abbrev head_most : Spot → Shape → ℕ
  head_most here shape = sum_by cost (emits_at here (head_does shape))

  abbrev drives : Side → ℕ → Way → Shape → ℕ → ℕ
  drives side bottom way shape count = places side bottom (side_drives count (driver_does way shape))

  -- it is what a table says at a spot
  side-sum : (here : Spot) (rs : List (Way × Shape)) → sum_by cost (map (whole here.side) (map (side_next here.at) rs) ++ []) ≡ sum_by cost (map (next_at here) rs)
  side-sum here [] = refl
  side-sum here (r ∷ rs) =
      omega (
        arith,
        by r.0,
        side-sum here rs,
        sum_by-cons cost (whole here.side (side_next here.at r)) (map (whole here.side) (map (side_next here.at) rs) ++ []),
        sum_by-cons cost (next_at here r) (map (next_at here) rs),
      )
    where
      by : (way : Way) → cost (whole here.side (side_next here.at (way, r.1))) ≡ cost (next_at here (way, r.1))
      by Up = refl
      by Down = refl

module _ (C : Type 0) (cost : At → ℕ) where
  -- at a head
  module _ (here : Spot) where
    round-fits : (asked : FlushAsked) → cost_of {C = C} cost (turned_round here asked) ≤ head_most cost here (flush_shape asked)
    round-fits asked = at asked.for_write refl asked.for_read
      where
        again : Message C
        again = flush_message (flush_bytes (record asked { for_read = false }))

        at : (w : Bool) → asked.for_write ≡ w → (r : Bool) → cost_of {C = C} cost (cond w (record { to = toward Down here; message = again } ∷ []) []) ≤ head_most cost here (cond w (cond r FlushRW FlushW) FlushR)
        at true is true = let same = ap (λ s. cost (record { to = toward Down here; shape = s })) (writes-shape C asked is) in one-few cost (head_most cost here FlushRW) (toward Down here) again (omega (arith, same))
        at true is false = let same = ap (λ s. cost (record { to = toward Down here; shape = s })) (writes-shape C asked is) in one-few cost (head_most cost here FlushW) (toward Down here) again (omega (arith, same))
        at false is r = none-few C cost (head_most cost here FlushR)

    nak-fits : (known : Option Ioc) → cost_of {C = C} cost (nak_down here known) ≤ head_most cost here Asking
    nak-fits None = none-few C cost (head_most cost here Asking)
    nak-fits (Some ioc) = at (ioc.number == 0)
      where
        at : (none : Bool) → cost_of {C = C} cost (cond none [] (record { to = toward Down here; message = nak_message ioc } ∷ [])) ≤ head_most cost here Asking
        at true = none-few C cost (head_most cost here Asking)
        at false = one-few cost (head_most cost here Asking) (toward Down here) (nak_message ioc) (omega arith)

    head-fits : (m : Message C) (h : Head C) → cost_of cost (head_put here m h).sent ≤ head_most cost here (shape_of m)
    head-fits m h = at (has_parts m) m.kind
      where
        at : (parts : Bool) (kind : MsgKind) → cost_of cost (cond parts (waits_for_readers here m h) (obeyed here kind m.plain h)).sent ≤ head_most cost here (shape_by parts kind m.plain)
        at true kind = sent-none cost (head_most cost here (shape_by true kind m.plain)) (Head C) (is_doubled m h.queue.messages) _ _ refl refl
        at false Flush = round-fits (asked_by m.plain)
        at false Ioctl = nak-fits (read_ioc m.plain)
        at false kind = none-few C cost (head_most cost here (bare_shape kind m.plain))

  -- at a driver
  module _ (side : Side) (across : Across) where
    readers : (asked : FlushAsked) (goes : Bool) → cost_of {C = C} cost (reader_flush goes asked (bottom_across side across)) ≤ cost (crossed side across.bottom ToReaders)
    readers asked false = none-few C cost (cost (crossed side across.bottom ToReaders))
    readers asked true =
        let same = ap (λ s. cost (record { to = bottom_across side across; shape = s })) (reads-shape C asked.band) in
        one-few cost (cost (crossed side across.bottom ToReaders)) (bottom_across side across) (flush_message (read_flush asked.band)) (omega (arith, same))

    driver : (asked : FlushAsked) (goes : Bool) → cost_of {C = C} cost (reader_flush goes asked (driver_across side across)) ≤ cost (crossed side across.bottom ToDriver)
    driver asked false = none-few C cost (cost (crossed side across.bottom ToDriver))
    driver asked true =
        let same = ap (λ s. cost (record { to = driver_across side across; shape = s })) (reads-shape C asked.band) in
        one-few cost (cost (crossed side across.bottom ToDriver)) (driver_across side across) (flush_message (read_flush asked.band)) (omega (arith, same))

    flush-fits : (count : ℕ) (asked : FlushAsked) → cost_of {C = C} cost (reader_flush (asked.for_write && across.is_open) asked (bottom_across side across) ++ reader_flush asked.for_read asked (driver_across side across))
        ≤ drives cost side across.bottom Down (flush_shape asked) count
    flush-fits count asked = at asked.for_write asked.for_read
      where
        at : (w r : Bool) → cost_of {C = C} cost (reader_flush (w && across.is_open) asked (bottom_across side across) ++ reader_flush r asked (driver_across side across)) ≤ drives cost side across.bottom Down (cond w (cond r FlushRW FlushW) FlushR) count
        at true true = omega (arith, both-cost {C = C} cost (reader_flush across.is_open asked (bottom_across side across)) (reader_flush true asked (driver_across side across)), readers asked across.is_open, driver asked true)
        at true false = omega (arith, both-cost {C = C} cost (reader_flush across.is_open asked (bottom_across side across)) [], none-few C cost 0, readers asked across.is_open)
        at false true = driver-alone
          where
            driver-alone : cost_of {C = C} cost (reader_flush true asked (driver_across side across)) ≤ drives cost side across.bottom Down FlushR count
            driver-alone = omega (arith, driver asked true)
        at false false = none-few C cost (drives cost side across.bottom Down FlushR count)

    taken_in-fits : (most : ℕ) (m : Message C) (q : Queue C) → cost_of cost (taken_in side across m q).sent ≤ most
    taken_in-fits most m q = sent-none cost most (Queue C) across.ended _ _ refl refl

    crossing-fits : (most : ℕ) (m : Message C) (q : Queue C) (goes : Bool) → cost_of cost (cond goes (taken_in side across m q) (freed q)).sent ≤ most
    crossing-fits most m q true = taken_in-fits most m q
    crossing-fits most m q false = none-few C cost most

    -- an answer goes to the place above the driver's
    ioctl-fits : (here : Spot) (count : ℕ) (known : Option Ioc) (m : Message C) (q : Queue C) → here.side ≡ side → here.at ≡ suc count → cost_of cost (ioctl_put side across here known m q).sent ≤ drives cost side across.bottom Down Asking count
    ioctl-fits here count None m q same place = none-few C cost (drives cost side across.bottom Down Asking count)
    ioctl-fits here count (Some ioc) m q same place = at (ioc.number == 0 || (is_master side && across.is_open))
      where
        above : toward Up here ≡ record { side = side; at = count; way = Up }
        above =
            let less : here.at - 1 ≡ count = omega (arith, place) in
            ap (λ sd. record { side = sd; at = here.at - 1; way = Up }) same ∙ ap (λ at. record { side = side; at = at; way = Up }) less

        at : (goes : Bool) → cost_of cost (cond goes (taken_in side across m q) (answered here ioc q)).sent ≤ drives cost side across.bottom Down Asking count
        at true = taken_in-fits (drives cost side across.bottom Down Asking count) m q
        at false = one-few cost (drives cost side across.bottom Down Asking count) (toward Up here) (nak_message ioc) (let is = ap (λ to. cost (record { to = to; shape = Passing })) above in omega (arith, is))

    down-fits : (here : Spot) (count : ℕ) (kind : MsgKind) (m : Message C) (q : Queue C) → here.side ≡ side → here.at ≡ suc count
        → cost_of cost (put_down side across here kind m q).sent ≤ drives cost side across.bottom Down (bare_shape kind m.plain) count
    down-fits here count Flush m q same place = flush-fits count (asked_by m.plain)
    down-fits here count Ioctl m q same place = ioctl-fits here count (read_ioc m.plain) m q same place
    down-fits here count kind m q same place = crossing-fits (drives cost side across.bottom Down (bare_shape kind m.plain) count) m q (crosses kind)

    came-down-fits : (here : Spot) (count : ℕ) (m : Message C) (q : Queue C) → here.side ≡ side → here.at ≡ suc count
        → cost_of cost (driver_put side across (record here { way = Down }) m q).sent ≤ drives cost side across.bottom Down (shape_of m) count
    came-down-fits here count m q same place = at (has_parts m)
      where
        at : (parts : Bool) → cost_of cost (cond parts (taken_in side across m q) (put_down side across (record here { way = Down }) m.kind m q)).sent ≤ drives cost side across.bottom Down (shape_by parts m.kind m.plain) count
        at true = taken_in-fits (drives cost side across.bottom Down (shape_by true m.kind m.plain) count) m q
        at false = down-fits (record here { way = Down }) count m.kind m q same place

    came-up-fits : (here : Spot) (count : ℕ) (shape : Shape) (m : Message C) (q : Queue C) → cost_of cost (driver_put side across (record here { way = Up }) m q).sent ≤ drives cost side across.bottom Up shape count
    came-up-fits here count shape m q = at (has_parts m)
      where
        most : ℕ
        most = drives cost side across.bottom Up shape count

        flush : (b : Bool) → cost_of cost (cond b (record (own_flushed side (asked_by m.plain) q) { sent = reader_flush across.is_open (asked_by m.plain) (bottom_across side across) }) (freed q)).sent ≤ most
        flush true = let goes = readers (asked_by m.plain) across.is_open in omega (arith, goes)
        flush false = none-few C cost most

        kinds : (kind : MsgKind) → cost_of cost (put_across side across kind m q).sent ≤ most
        kinds Flush = flush (asked_by m.plain).for_read
        kinds kind = none-few C cost most

        at : (parts : Bool) → cost_of cost (cond parts (taken_in side across m q) (put_across side across m.kind m q)).sent ≤ most
        at true = taken_in-fits most m q
        at false = kinds m.kind

  -- at one of the modules
  module _ (K : Behaviour) (cells : Cells C) (made : ℕ) (here : Spot) (m : Message C) where
    among-fits : (i : ℕ) (ps : List (Standing C)) → cost_of cost (put_among (module_puts K cells made) i here m ps).sent ≤ sum_by cost (emits_at here (does_among i (map module_name ps) here.way (shape_of m)))
    among-fits i [] = none-few C cost 0
    among-fits zero (p ∷ ps) = (puts-lawfully K p cells made here m).within cost
    among-fits (suc i) (p ∷ ps) = among-fits i ps

pub module-within : {C : Type 0} (K : Behaviour) (cells : Cells C) (made : ℕ) (here : Spot) (m : Message C) (p : Standing C)
    → Within (module_puts K cells made here m p).sent (emits_at here (name_does (module_name p) here.way (shape_of m)))
module-within K cells made here m p = (puts-lawfully K p cells made here m).within

-- the first of several are the same among the first so many
pub among-front : (k i : ℕ) (on : List ModuleName) (way : Way) (shape : Shape) → i < k → does_among i (take k on) way shape ≡ does_among i on way shape
among-front zero i on way shape low = absurd (omega (arith, low))
among-front (suc k) i [] way shape low = refl
among-front (suc k) zero (n ∷ on) way shape low = refl
among-front (suc k) (suc i) (n ∷ on) way shape low = among-front k i on way shape (omega (arith, low))

module _ {C : Type 0} where
  -- the modules that have a place
  pub names-on : (side : Side) (s : State C) → stands_on side (stands_of s) ≡ map module_name (stream side s).modules
  names-on side s = get-map (λ (t : Stream C). map module_name t.modules) side s.ends

  pub count-on : (side : Side) (s : State C) → length (front_on side (stands_of s)) ≡ modules_on side s
  count-on side s = length-take MODULES (stands_on side (stands_of s)) ∙ ap (min MODULES) (ap length (names-on side s) ∙ length-map (stream side s).modules module_name)

module _ {C : Type 0} (cells : Cells C) (cost : At → ℕ) where
  -- with the names of a side's modules, and how many have a place here and across
  abbrev Fits : State C → Spot → Message C → List ModuleName → ℕ → ℕ → List (Parcel C) → Type 0
  Fits s to m on count bottom sent = cost_of cost sent ≤ places cost to.side bottom (place_costs on count (record { place = to.at; way = to.way; shape = shape_of m }))

  either-fits : (most : ℕ) (b : Bool) (one another : Took C (State C)) → (b ≡ true → cost_of cost one.sent ≤ most) → (b ≡ false → cost_of cost another.sent ≤ most) → cost_of cost (cond b one another).sent ≤ most
  either-fits most true one another first second = first refl
  either-fits most false one another first second = second refl

  module _ (to : Spot) (m : Message C) (s : State C) where
    abbrev bottom : ℕ
    bottom = modules_on (other to.side) s

    abbrev shape : Shape
    shape = shape_of m

    -- at the head
    reached-fits : to.at ≡ 0 → cost_of cost (put_at_head to.side to m s).sent ≤ places cost to.side bottom (side_does 0 (head_does shape))
    reached-fits top =
        either-fits (places cost to.side bottom (side_does 0 (head_does shape))) (is_open (stream to.side s).opened) _ _
        (λ is. (let fits = head-fits C cost to m (stream to.side s).head in
        let sum = side-sum cost to (head_does shape).emits in
        let same = ap (λ (at : ℕ). sum_by cost (map (whole to.side) (map (side_next at) (head_does shape).emits) ++ [])) top in
        omega (arith, fits, sum, same)))
        (λ is. none-few C cost (places cost to.side bottom (side_does 0 (head_does shape))))

    -- below the modules
    behind-fits : (way : Way) → to.way ≡ way → cost_of cost (put_behind way to m s).sent ≤ places cost to.side bottom (behind_costs (modules_on to.side s) way to.at shape)
    behind-fits Down is =
        subst (λ w. cost_of cost (driver_put to.side (across_of to.side s) (record to { at = driver_place to.side s; way = w }) m (stream to.side s).driver.queue).sent ≤ drives cost to.side bottom Down shape (modules_on to.side s)) (sym is)
        (came-down-fits C cost to.side (across_of to.side s) (record to { at = driver_place to.side s }) (modules_on to.side s) m (stream to.side s).driver.queue refl refl)
    behind-fits Up is = goes (is_flushing shape && to.at == suc MODULES) (ap (λ b. b && to.at == suc MODULES) (same-flushing m))
      where
        count : ℕ
        count = modules_on to.side s

        passed : cost_of cost (passed_up to m s).sent ≤ sum_by cost (whole to.side (rises count shape) ∷ [])
        passed = let same = ap (λ w. cost (record { to = record { side = to.side; at = count; way = w }; shape = shape })) is in omega (arith, cost-one cost (record { to = record to { at = count }; message = m }), same)

        goes : (flush : Bool) → flush ≡ (is_bare_flush m && to.at == suc MODULES)
            → cost_of cost (cond (is_bare_flush m && to.at == suc MODULES) (put_at_driver to.side to m s) (passed_up to m s)).sent
            ≤ places cost to.side bottom (cond flush (side_drives count (driver_does Up shape)) (record { own = 0; emits = rises count shape ∷ []; across = [] }))
        goes true same = subst (λ b. cost_of cost (cond b (put_at_driver to.side to m s) (passed_up to m s)).sent ≤ places cost to.side bottom (side_drives count (driver_does Up shape))) same
            (subst (λ w. cost_of cost (driver_put to.side (across_of to.side s) (record to { at = driver_place to.side s; way = w }) m (stream to.side s).driver.queue).sent ≤ places cost to.side bottom (side_drives count (driver_does Up shape))) (sym is)
            (came-up-fits C cost to.side (across_of to.side s) (record to { at = driver_place to.side s }) count shape m (stream to.side s).driver.queue))
        goes false same = subst (λ b. cost_of cost (cond b (put_at_driver to.side to m s) (passed_up to m s)).sent ≤ sum_by cost (whole to.side (rises count shape) ∷ [])) same passed

    -- at a module
    stack-fits : (K : Behaviour) → 0 < to.at → to.at ≤ modules_on to.side s
        → cost_of cost (put_at_module K cells to m s).sent ≤ places cost to.side bottom (side_does to.at (does_among (to.at - 1) (map module_name (stream to.side s).modules) to.way shape))
    stack-fits K some low =
        let d = does_among (to.at - 1) (map module_name (stream to.side s).modules) to.way shape in
        omega (arith, among-fits C cost K cells (made_above to.side s) to m (to.at - 1) (stream to.side s).modules, side-sum cost to d.emits)

    abbrev on : List ModuleName
    on = fronts (map module_name (stream to.side s).modules)

    front-fits : (K : Behaviour) → 0 < to.at → to.at ≤ modules_on to.side s → cost_of cost (put_at_module K cells to m s).sent ≤ places cost to.side bottom (side_does to.at (does_among (to.at - 1) on to.way shape))
    front-fits K some low =
        let count = length (stream to.side s).modules in
        subst (λ d. cost_of cost (put_at_module K cells to m s).sent ≤ places cost to.side bottom (side_does to.at d))
        (sym (among-front MODULES (to.at - 1) (map module_name (stream to.side s).modules) to.way shape (omega (arith, some, low)))) (stack-fits K some low)

    put-fits : (K : Behaviour) → Fits s to m on (modules_on to.side s) bottom (put_in K cells to m s).sent
    put-fits K = at (to.at == 0) refl
      where
        count : ℕ
        count = modules_on to.side s

        below : (to.at == 0) ≡ false → (stands : Bool) → nat_le to.at count ≡ stands
            → cost_of cost (cond stands (put_at_module K cells to m s) (put_behind to.way to m s)).sent
            ≤ places cost to.side bottom (cond stands (side_does to.at (does_among (to.at - 1) on to.way shape)) (behind_costs count to.way to.at shape))
        below inside true is = front-fits K (let some : 0 < to.at = grind (arith, nat_tests) in some) (let low : to.at ≤ count = grind (arith, nat_tests) in low)
        below inside false is = behind-fits to.way refl

        at : (top : Bool) → (to.at == 0) ≡ top
            → cost_of cost (cond top (put_at_head to.side to m s) (put_below K cells to.way to m s)).sent
            ≤ places cost to.side bottom (cond top (side_does 0 (head_does shape)) (cond (nat_le to.at count) (side_does to.at (does_among (to.at - 1) on to.way shape)) (behind_costs count to.way to.at shape)))
        at true is = reached-fits (let top : to.at ≡ 0 = grind (arith, nat_tests) in top)
        at false is = below is (nat_le to.at count) refl

    pub put-within : (K : Behaviour) → cost_of cost (put_in K cells to m s).sent
        ≤ sum_by cost (costs (stands_of s) (record { to = to; shape = shape_of m })).emits
    put-within K =
        subst (λ n. Fits s to m (front_on to.side (stands_of s)) (length (front_on to.side (stands_of s))) n (put_in K cells to m s).sent) (sym (count-on (other to.side) s))
        (subst (λ n. Fits s to m (front_on to.side (stands_of s)) n bottom (put_in K cells to m s).sent) (sym (count-on to.side s))
        (subst (λ names. Fits s to m (fronts names) (modules_on to.side s) bottom (put_in K cells to m s).sent) (sym (names-on to.side s))
        (put-fits K)))

pub puts-costed : {C : Type 0} (K : Behaviour) (cells : Cells C) → Costed (λ (s : State C). costs (stands_of s)) (put_in K cells)
puts-costed K cells = record {
  within = λ to m s cost. put-within cells cost to m s K;
  stays = λ to m s. ap costs (puts-stand (stands_of s) K cells to m s refl);
}
