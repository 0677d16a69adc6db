-- Nothing is left on the queue that was cleared.
use Rattle.strm_pair.proofs.Prelude.{ℕ, length, refl, sym, ap, ◌∙◌}
use Rattle.strm_pair.specs.Prelude.{Up, EndClosed, of_all, queue_behind, writer_goes, cells_gone, enable_some, direction_of, head_of, told_more}
use Rattle.strm_pair.specs.Prelude.{before_among, before_head, stream, with_head_queue, with_stream, queue_in, messages_on}
use Rattle.strm_types.specs.Heads.{Head}
use Rattle.strm_pair.specs.Framing.{still}
use Rattle.strm_pair.specs.declared.streams.Streams.{Streams}
use Rattle.strm_pair.specs.Pairs.{end_at, kept_by, state_in, with_end}
use Rattle.strm_pair.proofs.Enabling.{let-few, same-stack}
use Rattle.strm_pair.proofs.Sides.{head-changed, head-is, head-went, modules-behind, only-changed, readable-cleared}
use Rattle.strm_pair.proofs.streams.Streams.clear_head.Goals as goal

pub let_go-requires : goal.let_go-requires
let_go-requires g c =
    let s = g.B.Blocks.value c.args.store.now in
    let p = c.args.self.now in
    let side = c.args.side in
    let end = end_at side p in
    let e = record end { head = record end.head { queue = c.clear_queue-gone.new.queue } } in
    let few = same-stack s s p side e refl c.requires.enabled in
    rw c.get_mut.ensures.value (record { few = (s, let-few (state_in s (with_end side e p)) few side Up 0 c.clear_queue-gone.result.room) })

pub returns : goal.returns
returns g c =
    let s = g.B.Blocks.value c.args.store.now in
    let t = g.B.Blocks.value c.clear_queue-gone.new.store in
    let p = c.args.self.now in
    let side = c.args.side in
    let end = end_at side p in
    let q = c.clear_queue-gone.new.queue in
    let room = c.clear_queue-gone.result.room in
    let e = rw c.get_mut.ensures.value at c.clear_queue-gone.ensures in
    let one : Streams = with_end side (record end { head = record end.head { queue = q } }) p in
    record {
      state = ap (state_in t) (rw c.get_mut.ensures.value at (c.let_go.ensures s))
          ∙ ap (λ ms. record (state_in t one) { enabled = enable_some room (before_among side Up 0 ms) p.enabled }) (modules-behind s p side (record end { head = record end.head { queue = q } }) refl)
          ∙ head-went s t p c.requires.held.beside end.head.queue q (queue_behind of_all (queue_in s end.head.queue)) room (writer_goes of_all (queue_in s end.head.queue)) e.changes side refl e.queue e.room
          ∙ ap (λ (x : Head ℕ). record (with_stream side (with_head_queue (queue_behind of_all x.queue) (stream side (state_in s p))) (state_in s p)) { enabled = enable_some (writer_goes of_all x.queue) (before_head side (state_in s p)) p.enabled }) (sym (head-is s p side));
      tells = e.told
          ∙ ap (λ d. told_more d EndClosed (length (cells_gone of_all (messages_on s end.head.queue.list))) c.args.told.now) (c.direction-direction.ensures ∙ ap direction_of c.head.ensures)
          ∙ ap (λ (x : Head ℕ). told_more (direction_of (head_of side)) EndClosed (length (cells_gone of_all x.queue.messages)) c.args.told.now) (sym (head-is s p side));
      held = rw (c.let_go.ensures s, c.get_mut.ensures.value)
          (record {
            hand = e.changes.hand ∙ c.requires.held.hand;
            beside = head-changed s t p c.requires.held.beside (still s t (kept_by p) e.changes.hand e.changes.mblks e.changes.dblks) side (record end.head { queue = q }) (only-changed s t end.head.queue q e.changes) (readable-cleared t q (queue_in s end.head.queue) e.queue);
          });
      pool = record { mblks = e.changes.mblks; dblks = e.changes.dblks };
    }
