-- What the head of a side gives.
use Rattle.strm_pair.proofs.Prelude.{ap, ◌∙◌, refl}
use Rattle.strm_pair.specs.Prelude.{Up, tallied, direction_of, enable_some, read_gone, before_among, messages_on}
use Rattle.strm_pair.specs.Pairs.{end_at, state_in, with_end}
use Rattle.strm_pair.proofs.ReadSteps.{read-answer, read-told, read-beside, read-state}
use Rattle.strm_pair.proofs.Enabling.{let-few, same-stack}
use Rattle.strm_pair.proofs.Sides.{modules-behind}
use Rattle.strm_pair.proofs.streams.Streams.read.Goals as goal

pub let_go-requires : goal.let_go-requires
let_go-requires g c =
    let s = g.B.Blocks.value c.args.store.now in
    let p = c.args.self.now in
    let side = c.args.side in
    let e = record (end_at side p) { head = c.read-goes.new.self } in
    let few = same-stack s s p side e refl c.requires.enabled in
    rw c.get_mut.ensures.value (record { few = (s, let-few (state_in s (with_end side e p)) few side Up 0 c.read-goes.result) })

pub returns-clause-answer : goal.returns-clause-answer
returns-clause-answer g c =
    let s = g.B.Blocks.value c.args.store.now in
    read-answer c.args.side s c.args.self.now c.min-wanted.result c.args.n c.min-wanted.ensures c.read-goes.new.out.items (rw c.get_mut.ensures.value at c.read-goes.ensures.given)

pub returns-clause-leads : goal.returns-clause-leads
returns-clause-leads g c =
    let s = g.B.Blocks.value c.args.store.now in
    let t = g.B.Blocks.value c.read-goes.new.store in
    let p = c.args.self.now in
    let side = c.args.side in
    let most = c.min-wanted.result in
    let h = (end_at side p).head in
    let end = record (end_at side p) { head = c.read-goes.new.self } in
    let e = rw c.get_mut.ensures.value at c.read-goes.ensures in
    let dir = c.direction-direction.ensures ∙ ap direction_of c.head.ensures in
    record {
      state = ap (state_in t) (rw c.get_mut.ensures.value at (c.let_go.ensures s))
          ∙ ap (λ ms. record (state_in t (with_end side end p)) { enabled = enable_some c.read-goes.result (before_among side Up 0 ms) p.enabled }) (modules-behind s p side end refl)
          ∙ read-state side s p most c.args.n c.min-wanted.ensures t c.read-goes.new.self c.read-goes.result c.requires.held.beside e.keeps e.modes e.queue e.went;
      tells = read-told side s p most c.args.n c.min-wanted.ensures c.args.told.now c.read-goes.new.fates
          (e.told ∙ ap (λ d. tallied (read_gone d h.read_mode h.control_mode most (messages_on s h.queue.list)) c.args.told.now) dir);
      held = rw (c.let_go.ensures s, c.get_mut.ensures.value)
          (record {
            hand = e.keeps.hand ∙ c.requires.held.hand;
            beside = read-beside side s p most c.args.n c.min-wanted.ensures t c.read-goes.new.self c.read-goes.result c.requires.held.beside e.keeps e.modes e.ready;
          });
      pool = record { mblks = e.keeps.mblks; dblks = e.keeps.dblks };
    }
