-- What goes from the queues, one after the other, and then the side is closed.
use Rattle.strm_pair.proofs.Prelude.{ℕ, ◌≡◌, ap, refl, sym, subst, ◌∙◌}
use Rattle.strm_pair.specs.Prelude.{Master, Slave, EndClosed, Side, State, stream, head_emptied, of_all, stands_of}
use Rattle.strm_laws.specs.Closes.{and_then, closed_at, driver_emptied, ended, hung_up_at, stream_emptied}
use Rattle.strm_laws.specs.Pushes.{modules_emptied}
use Rattle.strm_pair.specs.Pairs.{state_in}
use Rattle.strm_pair.specs.Effects.{Leads}
use Rattle.strm_pair.specs.Enabling.{AreFewEnabled}
use Rattle.strm_pair.proofs.CallsStand.{driver-stands, ended-stands, head-stands, hung-stands}
use Rattle.strm_pair.proofs.Enabling.{all-few, driver-few, emptied-few}
use Rattle.strm_pair.proofs.ShelfSteps.{stocked-moved, stocked-room, stocked-same}
use Rattle.strm_pair.proofs.Idle.{emptied-idle}
use Rattle.strm_pair.proofs.Leading.{leads-becoming, leads-quietly, leads-then, rests-behind}
use Rattle.strm_pair.proofs.streams.Streams.shut.Goals as goal

pub clear_modules-requires-clause-rests : goal.clear_modules-requires-clause-rests
clear_modules-requires-clause-rests g c =
    let s = g.B.Blocks.value c.args.store.now in
    let st = state_in s c.args.self.now in
    let emptied = head_emptied EndClosed of_all c.args.side st in
    rests-behind s (g.B.Blocks.value c.clear_head.new.store) c.clear_head.new.self c.args.told.now c.clear_head.new.told emptied.state emptied.gone c.clear_head.ensures (emptied-idle c.args.side st c.requires.rests.idle)
    (emptied-few st c.requires.rests.enabled c.args.side)

-- what is enabled behind what went is there
modules-few : (side : Side) (st u v : State ℕ) → AreFewEnabled st → u ≡ (head_emptied EndClosed of_all side st).state
    → v ≡ (modules_emptied EndClosed side u).state → AreFewEnabled v
modules-few side st u v e head modules =
    subst AreFewEnabled (sym modules)
    (all-few EndClosed side (stream side u).modules u refl (subst AreFewEnabled (sym head) (emptied-few st e side)))

pub clear_driver-requires-clause-enabled : goal.clear_driver-requires-clause-enabled
clear_driver-requires-clause-enabled g c =
    let s = g.B.Blocks.value c.args.store.now in
    modules-few c.args.side (state_in s c.args.self.now) _ _ c.requires.rests.enabled c.clear_head.ensures.state c.clear_modules.ensures.leads.state

pub clear_driver-requires-in-Master-clause-enabled : goal.clear_driver-requires-in-Master-clause-enabled
clear_driver-requires-in-Master-clause-enabled g c =
    let s = g.B.Blocks.value c.args.store.now in
    let u = state_in (g.B.Blocks.value c.clear_modules.new.store) c.clear_modules.new.self in
    let few = modules-few c.args.side (state_in s c.args.self.now) _ u c.requires.rests.enabled c.clear_head.ensures.state c.clear_modules.ensures.leads.state in
    subst AreFewEnabled (sym c.clear_driver.ensures.state) (driver-few u few Master)

pub returns-in-Master-clause-leads : goal.returns-in-Master-clause-leads
returns-in-Master-clause-leads g c =
    let s = g.B.Blocks.value c.args.store.now in
    let st = state_in s c.args.self.now in
    let f = c.args.told.now in
    let head = c.clear_head in
    let modules = c.clear_modules in
    let own = c.clear_driver in
    let other = c.clear_driver-in-Master in
    let end = c.end_side in
    let t1 = g.B.Blocks.value head.new.store in
    let t2 = g.B.Blocks.value modules.new.store in
    let t3 = g.B.Blocks.value own.new.store in
    let t4 = g.B.Blocks.value other.new.store in
    let t5 = g.B.Blocks.value end.new.store in
    let above = leads-then (modules_emptied EndClosed c.args.side) s t1 t2 head.new.self modules.new.self f head.new.told modules.new.told (head_emptied EndClosed of_all c.args.side st) head.ensures modules.ensures.leads in
    let stream = subst (λ (sd : Side). Leads s t2 modules.new.self f modules.new.told (stream_emptied sd st).state (stream_emptied sd st).gone) c.in-Master.is above in
    let first = and_then (stream_emptied Master st) (driver_emptied EndClosed of_all Master) in
    let both = and_then first (driver_emptied EndClosed of_all Slave) in
    let one = leads-then (driver_emptied EndClosed of_all Master) s t2 t3 modules.new.self own.new.self f modules.new.told own.new.told (stream_emptied Master st) stream own.ensures in
    let two = leads-then (driver_emptied EndClosed of_all Slave) s t3 t4 own.new.self other.new.self f own.new.told other.new.told first one other.ensures in
    let shut = leads-quietly (ended Master) s t4 t5 other.new.self end.new.self f other.new.told both two (end.ensures other.new.told) in
    let hung = leads-becoming (hung_up_at Slave) s t5 end.new.self c.hang_up.new.self f other.new.told (record { state = ended Master both.state; gone = both.gone }) shut c.hang_up.ensures in
    subst (λ (sd : Side). Leads s t5 c.hang_up.new.self f other.new.told (closed_at sd st).state (closed_at sd st).gone) (sym c.in-Master.is) hung

pub returns-in-Slave-clause-leads : goal.returns-in-Slave-clause-leads
returns-in-Slave-clause-leads g c =
    let s = g.B.Blocks.value c.args.store.now in
    let st = state_in s c.args.self.now in
    let f = c.args.told.now in
    let head = c.clear_head in
    let modules = c.clear_modules in
    let end = c.end_side-in-Slave in
    let t1 = g.B.Blocks.value head.new.store in
    let t2 = g.B.Blocks.value modules.new.store in
    let t3 = g.B.Blocks.value end.new.store in
    let above = leads-then (modules_emptied EndClosed c.args.side) s t1 t2 head.new.self modules.new.self f head.new.told modules.new.told (head_emptied EndClosed of_all c.args.side st) head.ensures modules.ensures.leads in
    let stream = subst (λ (sd : Side). Leads s t2 modules.new.self f modules.new.told (stream_emptied sd st).state (stream_emptied sd st).gone) c.in-Slave.is above in
    let shut = leads-quietly (ended Slave) s t2 t3 modules.new.self end.new.self f modules.new.told (stream_emptied Slave st) stream (end.ensures modules.new.told) in
    subst (λ (sd : Side). Leads s t3 end.new.self f modules.new.told (closed_at sd st).state (closed_at sd st).gone) (sym c.in-Slave.is) shut

pub clear_modules-requires-clause-room : goal.clear_modules-requires-clause-room
clear_modules-requires-clause-room g c =
    let s = g.B.Blocks.value c.args.store.now in
    let t1 = g.B.Blocks.value c.clear_head.new.store in
    let st = state_in s c.args.self.now in
    let head = c.clear_head.ensures in
    stocked-room g.M.OwnModule.queued c.args.shelf.now t1 c.clear_head.new.self head.held.beside
    (stocked-same g.M.OwnModule.queued c.args.shelf.now (stands_of st) (stands_of (state_in t1 c.clear_head.new.self)) (ap (λ (v : State ℕ). stands_of v) head.state ∙ head-stands c.args.side st) c.requires.stocked)

pub returns-in-Master-clause-stocked : goal.returns-in-Master-clause-stocked
returns-in-Master-clause-stocked g c =
    let q = g.M.OwnModule.queued in
    let s = g.B.Blocks.value c.args.store.now in
    let st = state_in s c.args.self.now in
    let head = c.clear_head in
    let modules = c.clear_modules in
    let own = c.clear_driver in
    let other = c.clear_driver-in-Master in
    let end = c.end_side in
    let t1 = g.B.Blocks.value head.new.store in
    let t2 = g.B.Blocks.value modules.new.store in
    let t3 = g.B.Blocks.value own.new.store in
    let t4 = g.B.Blocks.value other.new.store in
    let t5 = g.B.Blocks.value end.new.store in
    let u1 = state_in t1 head.new.self in
    let u2 = state_in t2 modules.new.self in
    let u3 = state_in t3 own.new.self in
    let u4 = state_in t4 other.new.self in
    let u5 = state_in t5 end.new.self in
    let first = stocked-same q c.args.shelf.now (stands_of st) (stands_of u1) (ap (λ (v : State ℕ). stands_of v) head.ensures.state ∙ head-stands c.args.side st) c.requires.stocked in
    let second = stocked-moved q c.args.shelf.now modules.new.shelf t1 t2 head.new.self modules.new.self head.ensures.held.beside modules.ensures.leads.held.beside modules.ensures.shelf first in
    let same =
    ap (λ (v : State ℕ). stands_of v) (c.hang_up.ensures.state t5) ∙ hung-stands Slave u5
    ∙ ap (λ (v : State ℕ). stands_of v) (end.ensures other.new.told).state ∙ ended-stands Master u4
    ∙ ap (λ (v : State ℕ). stands_of v) other.ensures.state ∙ driver-stands Slave u3
    ∙ ap (λ (v : State ℕ). stands_of v) own.ensures.state ∙ driver-stands Master u2 in
    stocked-same q modules.new.shelf (stands_of u2) (stands_of (state_in t5 c.hang_up.new.self)) same second

pub returns-in-Slave-clause-stocked : goal.returns-in-Slave-clause-stocked
returns-in-Slave-clause-stocked g c =
    let q = g.M.OwnModule.queued in
    let s = g.B.Blocks.value c.args.store.now in
    let st = state_in s c.args.self.now in
    let head = c.clear_head in
    let modules = c.clear_modules in
    let end = c.end_side-in-Slave in
    let t1 = g.B.Blocks.value head.new.store in
    let t2 = g.B.Blocks.value modules.new.store in
    let t3 = g.B.Blocks.value end.new.store in
    let u1 = state_in t1 head.new.self in
    let u2 = state_in t2 modules.new.self in
    let first = stocked-same q c.args.shelf.now (stands_of st) (stands_of u1) (ap (λ (v : State ℕ). stands_of v) head.ensures.state ∙ head-stands c.args.side st) c.requires.stocked in
    let second = stocked-moved q c.args.shelf.now modules.new.shelf t1 t2 head.new.self modules.new.self head.ensures.held.beside modules.ensures.leads.held.beside modules.ensures.shelf first in
    let same = ap (λ (v : State ℕ). stands_of v) (end.ensures modules.new.told).state ∙ ended-stands Slave u2 in
    stocked-same q modules.new.shelf (stands_of u2) (stands_of (state_in t3 end.new.self)) same second
