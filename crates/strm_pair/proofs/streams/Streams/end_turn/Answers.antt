-- A writer that waits before the driver is let go, and the queue is enabled again where more stand there.
use Rattle.strm_pair.proofs.Prelude.{suc, length, ap, subst, sym, ◌∙◌, refl, min, not}
use Rattle.strm_pair.specs.Prelude.{MODULES, Down, driver_of, enable_if, enable_some, is_none_left, before_among, before_driver, State, stream}
use Rattle.strm_pair.specs.Prelude.{with_driver, queue_in}
use Rattle.strm_types.specs.Queue as plain
use Rattle.strm_pair.specs.declared.streams.Streams.{Streams}
use Rattle.strm_pair.specs.Framing.{still}
use Rattle.strm_pair.specs.Pairs.{end_at, kept_by, state_in, with_end}
use Rattle.strm_pair.specs.Took.{settled, settling_relieves}
use Rattle.strm_frame.specs.MayEnable.{MayEnable}
use Rattle.strm_pair.proofs.Enabling.{let-few, let-room, same-stack}
use Rattle.strm_pair.proofs.Sides.{driver-held, driver-is, driver-state, modules-behind}
use Rattle.strm_pair.proofs.streams.Streams.end_turn.Goals as goal

pub let_go-requires : goal.let_go-requires
let_go-requires g c =
    let s = g.B.Blocks.value c.args.store.now in
    let p = c.args.self.now in
    let side = c.args.side in
    let end = record (end_at side p) { driver = c.settle-end.new.queue } in
    let few = same-stack s s p side end refl c.requires.enabled in
    rw c.get_mut.ensures.value (record { few = (s, let-few (state_in s (with_end side end p)) few side Down c.driver_place-at.result c.settle-end.result.room) })

pub enable_if-requires : goal.enable_if-requires
enable_if-requires g c =
    let s = g.B.Blocks.value c.args.store.now in
    let p = c.args.self.now in
    let side = c.args.side in
    let end = record (end_at side p) { driver = c.settle-end.new.queue } in
    let few = same-stack s s p side end refl c.requires.enabled in
    let gone = rw c.get_mut.ensures.value at (c.let_go.ensures s) in
    record {
      room = λ more. subst (λ n. MayEnable c.let_go.new.self.enabled n) (sym c.driver.ensures)
          (subst (λ (x : Streams). MayEnable x.enabled (driver_of side)) (sym gone)
          (let-room (state_in s (with_end side end p)) few side Down c.driver_place-at.result c.settle-end.result.room (driver_of side) refl));
    }

pub returns-clause-state : goal.returns-clause-state
returns-clause-state g c =
    let s = g.B.Blocks.value c.args.store.now in
    let p = c.args.self.now in
    let side = c.args.side in
    let st = state_in s p in
    let end = end_at side p in
    let q = c.settle-end.new.queue in
    let size = c.args.size in
    let e = rw c.get_mut.ensures.value at c.settle-end.ensures in
    let changed = record end { driver = q } in
    let one : Streams = with_end side changed p in
    let was = queue_in s end.driver in
    let left = not (is_none_left was.messages) in
    let at = c.driver_place-at.result in
    let room = c.settle-end.result.room in
    let same = modules-behind s p side changed refl in
    let gone = rw c.get_mut.ensures.value at (c.let_go.ensures s) in
    let place = rw c.get_mut.ensures.value at (c.driver_place-at.ensures.place s) in
    let led = λ (x : plain.Queue _). record (with_driver side (settled size x) st) {
      enabled = enable_if (not (is_none_left x.messages)) (driver_of side) (enable_some (settling_relieves size x) (before_driver side st) st.enabled);
    } in
    ap (λ (x : Streams). record (state_in s x) { enabled = c.enable_if.new.self }) gone
    ∙ ap (λ ns. record (state_in s one) { enabled = ns })
    (c.enable_if.ensures
    ∙ ap (λ n. enable_if c.settle-end.result.more n c.let_go.new.self.enabled) c.driver.ensures
    ∙ ap (λ b. enable_if b (driver_of side) c.let_go.new.self.enabled) e.more
    ∙ ap (λ (x : Streams). enable_if left (driver_of side) x.enabled) gone
    ∙ ap (λ ms. enable_if left (driver_of side) (enable_some room (before_among side Down at ms) p.enabled)) same
    ∙ ap (λ n. enable_if left (driver_of side) (enable_some room (before_among side Down n (stream side st).modules) p.enabled)) (place ∙ ap (λ ms. suc (min MODULES (length ms))) same)
    ∙ ap (λ b. enable_if left (driver_of side) (enable_some b (before_driver side st) p.enabled)) e.room)
    ∙ ap (λ (x : State _). record x { enabled = enable_if left (driver_of side) (enable_some (settling_relieves size was) (before_driver side st) p.enabled) })
    (driver-state s s p c.requires.held.beside (still s s (kept_by p) refl refl refl) side q e.only ∙ ap (λ x. with_driver side x st) e.queue)
    ∙ ap led (sym (driver-is s p side))

pub returns-clause-held : goal.returns-clause-held
returns-clause-held g c =
    let s = g.B.Blocks.value c.args.store.now in
    let e = rw c.get_mut.ensures.value at c.settle-end.ensures in
    let h = driver-held s s c.args.self.now c.args.side c.settle-end.new.queue c.requires.held e.only refl refl refl in
    rw (c.let_go.ensures s, c.get_mut.ensures.value) (record { hand = h.hand; beside = h.beside })
