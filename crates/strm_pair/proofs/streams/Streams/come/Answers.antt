-- The head takes the message, and a waiting writer is let go.
use Rattle.strm_pair.proofs.Prelude.{sym, ap, ◌∙◌, refl, kind-is, can-in_hand}
use Rattle.strm_pair.specs.Prelude.{Up, enable_some, is_held, before_among, message_in, in_hand, token}
use Rattle.strm_pair.specs.Pairs.{end_at, kept_by, state_in, with_end}
use Rattle.strm_pair.proofs.Enabling.{let-few, same-stack}
use Rattle.strm_pair.proofs.PutSteps.{came-by}
use Rattle.strm_pair.proofs.Sides.{modules-behind}
use Rattle.strm_pair.proofs.streams.Streams.come.Goals as goal

pub put-came-requires-clause-in_hand : goal.put-came-requires-clause-in_hand
put-came-requires-clause-in_hand g c = can-in_hand (g.B.Blocks.value c.args.store.now) (token c.args.message) (kept_by c.args.self.now) c.audit.ensures c.requires.may.can_put

pub let_go-requires : goal.let_go-requires
let_go-requires g c =
    let s = g.B.Blocks.value c.args.store.now in
    let p = c.args.self.now in
    let side = c.args.to.side in
    let e = record (end_at side p) { head = c.put-came.new.self } in
    let few = same-stack s s p side e refl c.requires.enabled in
    rw c.get_mut.ensures.value (record { few = (s, let-few (state_in s (with_end side e p)) few side Up 0 c.put-came.result.lets_go) })

pub returns : goal.returns
returns g c =
    let s = g.B.Blocks.value c.args.store.now in
    let i = token c.args.message in
    let p = c.args.self.now in
    let side = c.args.to.side in
    let r = c.put-came.result in
    let e = rw c.get_mut.ensures.value at c.put-came.ensures in
    let end = record (end_at side p) { head = c.put-came.new.self } in
    came-by side s (g.B.Blocks.value c.put-came.new.store) p c.put-came.new.self i c.args.to (message_in s i) r.lets_go r.down c.args.told.now c.put-came.new.told c.let_go.new.self
    refl c.audit.ensures c.requires.may.can_put c.requires.may.beside c.requires.opened e.state e.notes e.sent e.told e.changes e.readable e.frees
    (λ held. e.blocks (sym (ap is_held (kind-is (in_hand s i))) ∙ held))
    (rw c.get_mut.ensures.value at (c.let_go.ensures s)
    ∙ ap (λ ms. record (with_end side end p) { enabled = enable_some r.lets_go (before_among side Up 0 ms) p.enabled }) (modules-behind s p side end refl))
