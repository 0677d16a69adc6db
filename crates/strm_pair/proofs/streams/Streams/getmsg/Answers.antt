-- What the head of a side gives.
use Rattle.strm_pair.proofs.Prelude.{ℕ, refl, sym, ap, ◌∙◌, min}
use Rattle.strm_pair.specs.Prelude.{READ_MAX, Up, enable_some, direction_of, head_of, tallied, before_among, before_head, stream, with_head_queue}
use Rattle.strm_pair.specs.Prelude.{with_stream, Changes, queue_in}
use Rattle.strm_types.specs.GetQueues.{get_lets_go, get_queue, get_gone}
use Rattle.strm_types.specs.Heads as heads
use Rattle.strm_types.specs.Queue as plain
use Rattle.strm_pair.specs.declared.streams.Streams.{Streams}
use Rattle.strm_pair.specs.Pairs.{end_at, state_in, with_end}
use Rattle.strm_pair.proofs.Enabling.{let-few, same-stack}
use Rattle.strm_pair.proofs.Sides.{head-is, head-went, modules-behind}
use Rattle.strm_pair.proofs.GetSteps.{got_at, gives-is, got-answer, got-filled, got-few, got-parts}
use Rattle.strm_pair.proofs.ReadSteps.{read-beside}
use Rattle.strm_pair.proofs.streams.Streams.getmsg.Goals as goal

pub let_go-requires : goal.let_go-requires
let_go-requires g c =
    let s = g.B.Blocks.value c.args.store.now in
    let p = c.args.self.now in
    let side = c.args.side in
    let end = end_at side p in
    let e = record end { head = record end.head { queue = c.getmsg-got.new.queue } } in
    let few = same-stack s s p side e refl c.requires.enabled in
    rw c.get_mut.ensures.value (record { few = (s, let-few (state_in s (with_end side e p)) few side Up 0 c.getmsg-got.result.lets_go) })

pub returns-clause-answer : goal.returns-clause-answer
returns-clause-answer g c =
    let s = g.B.Blocks.value c.args.store.now in
    let p = c.args.self.now in
    let got = c.getmsg-got in
    let gives = gives-is c.args.side c.args.wanted c.args.cmax c.args.dmax c.min-most.result c.min-most_data.result s p c.min-most.ensures c.min-most_data.ensures got.result got.new.out.items (rw c.get_mut.ensures.value at got.ensures.gives) in
    got-answer got.result got.new.out.items (got_at c.args.side c.args.wanted c.args.cmax c.args.dmax s p) gives

pub returns-clause-filled : goal.returns-clause-filled
returns-clause-filled g c =
    let s = g.B.Blocks.value c.args.store.now in
    let p = c.args.self.now in
    let got = c.getmsg-got in
    let gives = gives-is c.args.side c.args.wanted c.args.cmax c.args.dmax c.min-most.result c.min-most_data.result s p c.min-most.ensures c.min-most_data.ensures got.result got.new.out.items (rw c.get_mut.ensures.value at got.ensures.gives) in
    got-filled got.result got.new.out.items (got_at c.args.side c.args.wanted c.args.cmax c.args.dmax s p) gives

pub returns-clause-parts : goal.returns-clause-parts
returns-clause-parts g c =
    let s = g.B.Blocks.value c.args.store.now in
    let p = c.args.self.now in
    let got = c.getmsg-got in
    let gives = gives-is c.args.side c.args.wanted c.args.cmax c.args.dmax c.min-most.result c.min-most_data.result s p c.min-most.ensures c.min-most_data.ensures got.result got.new.out.items (rw c.get_mut.ensures.value at got.ensures.gives) in
    got-parts got.result got.new.out.items c.args.side c.args.wanted c.args.cmax c.args.dmax s p gives

pub returns-clause-most : goal.returns-clause-most
returns-clause-most g c =
    let s = g.B.Blocks.value c.args.store.now in
    let p = c.args.self.now in
    let got = c.getmsg-got in
    let gives = gives-is c.args.side c.args.wanted c.args.cmax c.args.dmax c.min-most.result c.min-most_data.result s p c.min-most.ensures c.min-most_data.ensures got.result got.new.out.items (rw c.get_mut.ensures.value at got.ensures.gives) in
    got-few got.result got.new.out.items c.args.side c.args.wanted c.args.cmax c.args.dmax s p gives

pub returns-clause-leads : goal.returns-clause-leads
returns-clause-leads g c =
    let s = g.B.Blocks.value c.args.store.now in
    let p = c.args.self.now in
    let side = c.args.side in
    let wanted = c.args.wanted in
    let most = min c.args.cmax READ_MAX in
    let most_data = min c.args.dmax READ_MAX in
    let got = c.getmsg-got in
    let t = g.B.Blocks.value got.new.store in
    let q = got.new.queue in
    let end = end_at side p in
    let was = queue_in s end.head.queue in
    let e = rw c.get_mut.ensures.value at got.ensures in
    let changes : Changes s t end.head.queue q = record { ready = e.keeps.ready; list = e.keeps.list; others = e.keeps.others; hand = e.keeps.hand; mblks = e.keeps.mblks; dblks = e.keeps.dblks } in
    let one : Streams = with_end side (record end { head = record end.head { queue = q } }) p in
    record {
      state = ap (state_in t) (rw c.get_mut.ensures.value at (c.let_go.ensures s))
          ∙ ap (λ ms. record (state_in t one) { enabled = enable_some got.result.lets_go (before_among side Up 0 ms) p.enabled }) (modules-behind s p side (record end { head = record end.head { queue = q } }) refl)
          ∙ head-went s t p c.requires.held.beside end.head.queue q (get_queue wanted most most_data was) got.result.lets_go (get_lets_go wanted most most_data was) changes side refl
          (e.queue ∙ ap (λ n. get_queue wanted n c.min-most_data.result was) c.min-most.ensures ∙ ap (λ n. get_queue wanted most n was) c.min-most_data.ensures)
          (e.went ∙ ap (λ n. get_lets_go wanted n c.min-most_data.result was) c.min-most.ensures ∙ ap (λ n. get_lets_go wanted most n was) c.min-most_data.ensures)
          ∙ ap (λ (x : plain.Queue _). record (with_stream side (with_head_queue (get_queue wanted most most_data x) (stream side (state_in s p))) (state_in s p)) { enabled = enable_some (get_lets_go wanted most most_data x) (before_head side (state_in s p)) p.enabled }) (sym (ap (λ (h : heads.Head _). h.queue) (head-is s p side)));
      tells = e.told
          ∙ ap (λ d. tallied (get_gone d wanted c.min-most.result c.min-most_data.result was.messages) c.args.told.now) (c.direction-direction.ensures ∙ ap direction_of c.head.ensures)
          ∙ ap (λ n. tallied (get_gone (direction_of (head_of side)) wanted n c.min-most_data.result was.messages) c.args.told.now) c.min-most.ensures
          ∙ ap (λ n. tallied (get_gone (direction_of (head_of side)) wanted most n was.messages) c.args.told.now) c.min-most_data.ensures
          ∙ ap (λ (h : heads.Head ℕ). tallied (get_gone (direction_of (head_of side)) wanted most most_data h.queue.messages) c.args.told.now) (sym (head-is s p side));
      held = rw (c.let_go.ensures s, c.get_mut.ensures.value)
          (record {
            hand = e.keeps.hand ∙ c.requires.held.hand;
            beside = read-beside side s p c.min-most.result c.args.cmax c.min-most.ensures t (record end.head { queue = q }) got.result.lets_go c.requires.held.beside e.keeps refl e.ready;
          });
      pool = record { mblks = e.keeps.mblks; dblks = e.keeps.dblks };
    }
