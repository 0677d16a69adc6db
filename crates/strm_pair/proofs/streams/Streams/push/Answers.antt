-- The head is told its mode, the module stands there, and what waits before it may come.
use Rattle.strm_pair.proofs.Prelude.{ℕ, ◌≡◌, ◌≤◌, ◌∷◌, length, ap, sym, subst, ◌∙◌, Option, Some, IfSome}
use Rattle.strm_pair.specs.Prelude.{Up, Carried, tallied, may_stand, mode_put, module_named, named_by, with_modules, have_queues, State, stream, before_at}
use Rattle.strm_pair.specs.Prelude.{enable_some, stands_of}
use Rattle.strm_laws.specs.Pushes.{let_come}
use Rattle.strm_pair.specs.declared.streams.Streams.{Streams}
use Rattle.strm_pair.specs.Pairs.{state_in, AreHeld}
use Rattle.strm_pair.specs.Enabling.{AreFewEnabled}
use Rattle.strm_pair.proofs.CallsStand.{put-mode-stands}
use Rattle.strm_pair.proofs.Enabling.{let-few, mode-few}
use Rattle.strm_pair.proofs.Coming.{before-pushed, comes-only}
use Rattle.strm_pair.proofs.Modes.{modules-stay, named-known, pushed-is, stands-known}
use Rattle.strm_pair.proofs.ShelfSteps.{push-left, stocked-moved, stocked-same}
use Rattle.strm_pair.proofs.streams.Streams.push.Goals as goal

pub put_on-requires-clause-may_stand : goal.put_on-requires-clause-may_stand
put_on-requires-clause-may_stand g c =
    let K = g.M.Behaves.does in
    let s = state_in (g.B.Blocks.value c.args.store.now) c.args.self.now in
    let named = ap (λ (o : Option _). may_stand (named_by K o) (stream c.args.side s).modules) (sym c.in-Some.is) ∙ c.requires.may_stand in
    ap (λ ms. may_stand (named_by K (Some c.in-Some.name)) ms)
    (ap (λ (x : State ℕ). (stream c.args.side x).modules) c.put_mode.ensures.state ∙ modules-stay c.args.side c.mode_on_push.result s)
    ∙ named

-- the queue before it was before the head, and is there
pub let_come-requires-clause-room : goal.let_come-requires-clause-room
let_come-requires-clause-room g c =
    let K = g.M.Behaves.does in
    let side = c.args.side in
    let s = state_in (g.B.Blocks.value c.args.store.now) c.args.self.now in
    let t = g.B.Blocks.value c.put_mode.new.store in
    let u = state_in t c.put_mode.new.self in
    let v = state_in t c.put_on.new.self in
    let name = c.in-Some.name in
    let p = module_named K name in
    let may = ap (λ (o : Option _). may_stand (named_by K o) (stream side s).modules) (sym c.in-Some.is) ∙ c.requires.may_stand in
    let known = named-known K name (stands-known K name (stream side s).modules may) in
    let stands : v ≡ with_modules side (p ∷ (stream side u).modules) u =
    subst (λ o. IfSome o (λ p. v ≡ with_modules side (p ∷ (stream side u).modules) u)) known c.put_on.ensures.state in
    let few = subst AreFewEnabled (sym c.put_mode.ensures.state) (mode-few s c.requires.rests.enabled side c.mode_on_push.result) in (
      t,
      subst (λ (x : State ℕ). length (enable_some c.has_queues.result (before_at side Up 1 x) x.enabled) ≤ 14) (sym stands)
          (subst (λ o. length (enable_some c.has_queues.result o u.enabled) ≤ 14) (sym (before-pushed side p u)) (let-few u few side Up 0 c.has_queues.result)),
    )

pub returns-clause-leads : goal.returns-clause-leads
returns-clause-leads g c =
    let K = g.M.Behaves.does in
    let side = c.args.side in
    let s = state_in (g.B.Blocks.value c.args.store.now) c.args.self.now in
    let t = g.B.Blocks.value c.put_mode.new.store in
    let u = state_in t c.put_mode.new.self in
    let v = state_in t c.put_on.new.self in
    let name = c.in-Some.name in
    let p = module_named K name in
    let told = c.put_mode.ensures in
    let may = ap (λ (o : Option _). may_stand (named_by K o) (stream side s).modules) (sym c.in-Some.is) ∙ c.requires.may_stand in
    let known = named-known K name (stands-known K name (stream side s).modules may) in
    let pushed = pushed-is K side name s known in
    let stands : v ≡ with_modules side (p ∷ (stream side u).modules) u =
    subst (λ o. IfSome o (λ p. v ≡ with_modules side (p ∷ (stream side u).modules) u)) known c.put_on.ensures.state in
    let held = c.put_on.ensures.held in
    rw c.in-Some.is
    (record {
      state = ap (λ (q : Streams). state_in t q) c.let_come.ensures
          ∙ comes-only c.has_queues.result side v
          ∙ ap (λ has. let_come has side v) c.has_queues.ensures
          ∙ ap (let_come (have_queues name) side) stands
          ∙ ap (λ (x : State ℕ). let_come (have_queues name) side (with_modules side (p ∷ (stream side x).modules) x))
          (told.state ∙ ap (λ m. (mode_put side m s).state) c.mode_on_push.ensures)
          ∙ sym (ap (λ (o : Carried ℕ (State ℕ)). o.state) pushed);
      tells = told.tells
          ∙ ap (λ m. tallied (mode_put side m s).gone c.args.told.now) c.mode_on_push.ensures
          ∙ sym (ap (λ (o : Carried ℕ (State ℕ)). tallied o.gone c.args.told.now) pushed);
      held = subst (λ (q : Streams). AreHeld t q) (sym c.let_come.ensures) (record { hand = held.hand; beside = held.beside });
      pool = told.pool;
    })

pub put_on-requires-clause-shelf : goal.put_on-requires-clause-shelf
put_on-requires-clause-shelf g c =
    let K = g.M.Behaves.does in
    let now = g.B.Blocks.value c.args.store.now in
    let s = state_in now c.args.self.now in
    let may = ap (λ (o : Option _). may_stand (named_by K o) (stream c.args.side s).modules) (sym c.in-Some.is) ∙ c.requires.may_stand in
    push-left K g.M.OwnModule.queued g.met.M.OwnModule.queues c.args.shelf.now now c.args.self.now c.args.side c.in-Some.name c.requires.rests.held.beside c.requires.known c.requires.stocked may

pub returns-in_default-clause-stocked : goal.returns-in_default-clause-stocked
returns-in_default-clause-stocked g c = c.requires.stocked

pub returns-clause-stocked : goal.returns-clause-stocked
returns-clause-stocked g c =
    let q = g.M.OwnModule.queued in
    let now = g.B.Blocks.value c.args.store.now in
    let t = g.B.Blocks.value c.put_mode.new.store in
    let s = state_in now c.args.self.now in
    let u = state_in t c.put_mode.new.self in
    let v = state_in t c.put_on.new.self in
    let first = stocked-same q c.args.shelf.now (stands_of s) (stands_of u) (ap (λ (x : State ℕ). stands_of x) c.put_mode.ensures.state ∙ put-mode-stands c.args.side c.mode_on_push.result s) c.requires.stocked in
    let second = stocked-moved q c.args.shelf.now c.put_on.new.shelf t t c.put_mode.new.self c.put_on.new.self c.put_mode.ensures.held.beside c.put_on.ensures.held.beside c.put_on.ensures.shelf first in
    stocked-same q c.put_on.new.shelf (stands_of v) (stands_of (state_in t c.let_come.new.self)) (ap (λ (p : Streams). stands_of (state_in t p)) c.let_come.ensures) second
