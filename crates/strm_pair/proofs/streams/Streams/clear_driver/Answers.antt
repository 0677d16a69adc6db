-- Nothing is left on the queue that was cleared.
use Rattle.strm_pair.proofs.Prelude.{ℕ, length, refl, sym, ap, ◌∙◌}
use Rattle.strm_pair.specs.Prelude.{Down, EndClosed, of_all, queue_behind, writer_goes, cells_gone, enable_some, direction_of, driver_of, Queue}
use Rattle.strm_pair.specs.Prelude.{told_more, before_among, before_at, before_driver, stream, with_driver_queue, with_stream, queue_in, messages_on}
use Rattle.strm_pair.specs.declared.streams.Streams.{Streams}
use Rattle.strm_pair.specs.Pairs.{end_at, state_in, with_end}
use Rattle.strm_pair.proofs.Enabling.{let-few, same-stack}
use Rattle.strm_pair.proofs.Sides.{driver-held, driver-is, driver-went, modules-behind, only-changed}
use Rattle.strm_pair.proofs.streams.Streams.clear_driver.Goals as goal

pub let_go-requires : goal.let_go-requires
let_go-requires g c =
    let s = g.B.Blocks.value c.args.store.now in
    let p = c.args.self.now in
    let side = c.args.side in
    let e = record (end_at side p) { driver = c.clear_queue-gone.new.queue } in
    let few = same-stack s s p side e refl c.requires.enabled in
    rw c.get_mut.ensures.value (record { few = (s, let-few (state_in s (with_end side e p)) few side Down c.driver_place-at.result c.clear_queue-gone.result.room) })

pub returns : goal.returns
returns g c =
    let s = g.B.Blocks.value c.args.store.now in
    let t = g.B.Blocks.value c.clear_queue-gone.new.store in
    let p = c.args.self.now in
    let side = c.args.side in
    let end = end_at side p in
    let q = c.clear_queue-gone.new.queue in
    let room = c.clear_queue-gone.result.room in
    let at = c.driver_place-at.result in
    let e = rw c.get_mut.ensures.value at c.clear_queue-gone.ensures in
    let one : Streams = with_end side (record end { driver = q }) p in
    let held = driver-held s t p side q c.requires.held (only-changed s t end.driver q e.changes) e.changes.hand e.changes.mblks e.changes.dblks in
    record {
      state = ap (state_in t) (rw c.get_mut.ensures.value at (c.let_go.ensures s))
          ∙ ap (λ ms. record (state_in t one) { enabled = enable_some room (before_among side Down at ms) p.enabled }) (modules-behind s p side (record end { driver = q }) refl)
          ∙ ap (λ n. record (state_in t one) { enabled = enable_some room (before_at side Down n (state_in s p)) p.enabled }) (c.driver_place-at.ensures.place s)
          ∙ driver-went s t p c.requires.held.beside end.driver q (queue_behind of_all (queue_in s end.driver)) room (writer_goes of_all (queue_in s end.driver)) e.changes side refl e.queue e.room
          ∙ ap (λ (x : Queue ℕ). record (with_stream side (with_driver_queue (queue_behind of_all x) (stream side (state_in s p))) (state_in s p)) { enabled = enable_some (writer_goes of_all x) (before_driver side (state_in s p)) p.enabled }) (sym (driver-is s p side));
      tells = e.told
          ∙ ap (λ d. told_more d EndClosed (length (cells_gone of_all (messages_on s end.driver.list))) c.args.told.now) (c.direction-direction.ensures ∙ ap direction_of c.driver.ensures)
          ∙ ap (λ (x : Queue ℕ). told_more (direction_of (driver_of side)) EndClosed (length (cells_gone of_all x.messages)) c.args.told.now) (sym (driver-is s p side));
      held = rw (c.let_go.ensures s, c.get_mut.ensures.value) (record { hand = held.hand; beside = held.beside });
      pool = record { mblks = e.changes.mblks; dblks = e.changes.dblks };
    }
