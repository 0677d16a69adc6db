-- The module on top goes, and then the head is told its read mode.
use Rattle.strm_pair.proofs.Prelude.{Option, ℕ, ◌≡◌, ap, sym, subst, ◌∙◌, arith}
use Rattle.strm_pair.specs.Prelude.{ModulePopped, ReadMode, is_met, number_sought, below_top, mode_behind, mode_put, top_on, top_taken, State, Stream}
use Rattle.strm_pair.specs.Prelude.{stands_of, stream}
use Rattle.strm_laws.specs.Pushes.{ioctl_dropped}
use Rattle.strm_pair.specs.Pairs.{state_in}
use Rattle.strm_pair.specs.Effects.{Leads}
use Rattle.strm_pair.proofs.Dropping.{same-sought, slot-stays}
use Rattle.strm_pair.proofs.CallsStand.{drop-stands, put-mode-stands}
use Rattle.strm_pair.proofs.Enabling.{taken-few}
use Rattle.strm_pair.proofs.ShelfSteps.{stocked-moved, stocked-room, stocked-same}
use Rattle.strm_pair.proofs.Idle.{top-idle}
use Rattle.strm_pair.proofs.Leading.{leads-then, rests-behind}
use Rattle.strm_frame.proofs.WidePools.{wide-on}
use Rattle.strm_pair.proofs.streams.Streams.pop.Goals as goal

pub put_mode-requires-clause-rests : goal.put_mode-requires-clause-rests
put_mode-requires-clause-rests g c =
    let s = g.B.Blocks.value c.args.store.now in
    let st = state_in s c.args.self.now in
    let taken = top_taken ModulePopped c.args.side (stream c.args.side st).modules st in
    rests-behind s (g.B.Blocks.value c.take_top-taken.new.store) c.take_top-taken.new.self c.args.told.now c.take_top-taken.new.told taken.state taken.gone c.take_top-taken.ensures.taken.leads
    (top-idle ModulePopped c.args.side st c.requires.rests.idle) (taken-few ModulePopped c.args.side st c.requires.rests.enabled)

pub put_mode-requires-clause-room : goal.put_mode-requires-clause-room
put_mode-requires-clause-room g c =
    let frees = c.take_top-taken.ensures.taken.frees in
    let room = c.requires.room in
    record { mblks = omega (arith, frees.mblks, room.mblks); dblks = omega (arith, frees.dblks, room.dblks) }

pub put_mode-requires-clause-wide : goal.put_mode-requires-clause-wide
put_mode-requires-clause-wide g c =
    let pool = c.take_top-taken.ensures.taken.leads.pool in
    wide-on g.M.OwnModule.wide (g.B.Blocks.value c.args.store.now) (g.B.Blocks.value c.take_top-taken.new.store) pool.mblks pool.dblks c.requires.wide

pub returns-clause-leads : goal.returns-clause-leads
returns-clause-leads g c =
    let side = c.args.side in
    let s = g.B.Blocks.value c.args.store.now in
    let mid = g.B.Blocks.value c.take_top-taken.new.store in
    let t = g.B.Blocks.value c.put_mode.new.store in
    let st = state_in s c.args.self.now in
    let u = state_in mid c.take_top-taken.new.self in
    let q = c.put_mode.new.self in
    let f = c.args.told.now in
    let w = c.take_top-taken.ensures.taken in
    let ms = below_top (stream side st).modules in
    let off = leads-then (mode_put side (mode_behind (top_on side st))) s mid t c.take_top-taken.new.self q f c.take_top-taken.new.told c.put_mode.new.told
    (top_taken ModulePopped side (stream side st).modules st) w.leads
    (subst (λ (m : Option ReadMode). Leads mid t q c.take_top-taken.new.told c.put_mode.new.told (mode_put side m u).state (mode_put side m u).gone) (c.mode_behind.ensures ∙ ap mode_behind w.name_is) c.put_mode.ensures) in
    let sought : c.number_sought-seeking.result ≡ number_sought (stream side (state_in t q)).head.ioctl =
    c.number_sought-seeking.ensures ∙ sym (same-sought c.end.result.now.head.ioctl)
    ∙ ap (λ (x : Stream ℕ). number_sought x.head.ioctl) (c.end.ensures.stream s)
    ∙ sym (ap (λ (x : State ℕ). number_sought (stream side x).head.ioctl) off.state ∙ ap number_sought (slot-stays side st)) in
    record {
      state = c.drop_ioctl.ensures.state t ms (c.take_top-taken.ensures.met ∙ ap (λ o. is_met o ms) sought) ∙ ap (ioctl_dropped side ms) off.state;
      tells = off.tells;
      held = c.drop_ioctl.ensures.held t off.held;
      pool = off.pool;
    }

pub take_top-taken-requires-clause-room : goal.take_top-taken-requires-clause-room
take_top-taken-requires-clause-room g c =
    stocked-room g.M.OwnModule.queued c.args.shelf.now (g.B.Blocks.value c.args.store.now) c.args.self.now c.requires.rests.held.beside c.requires.stocked

pub returns-clause-stocked : goal.returns-clause-stocked
returns-clause-stocked g c =
    let q = g.M.OwnModule.queued in
    let side = c.args.side in
    let s = g.B.Blocks.value c.args.store.now in
    let mid = g.B.Blocks.value c.take_top-taken.new.store in
    let t = g.B.Blocks.value c.put_mode.new.store in
    let st = state_in s c.args.self.now in
    let u = state_in mid c.take_top-taken.new.self in
    let w = c.take_top-taken.ensures.taken in
    let taken = stocked-moved q c.args.shelf.now c.take_top-taken.new.shelf s mid c.args.self.now c.take_top-taken.new.self c.requires.rests.held.beside w.leads.held.beside c.take_top-taken.ensures.shelf c.requires.stocked in
    let ms = below_top (stream side st).modules in
    let went = (top_taken ModulePopped side (stream side st).modules st).state in
    let told = (mode_put side (mode_behind (top_on side st)) went).state in
    let same =
    ap (λ (x : State ℕ). stands_of x) (returns-clause-leads g c).state
    ∙ drop-stands side ms told
    ∙ put-mode-stands side (mode_behind (top_on side st)) went
    ∙ sym (ap (λ (x : State ℕ). stands_of x) w.leads.state) in
    stocked-same q c.take_top-taken.new.shelf (stands_of u) (stands_of (state_in t c.drop_ioctl.new.self)) same taken
