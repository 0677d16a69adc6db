-- The message is freed, and its bytes are told.
use Rattle.strm_pair.proofs.Prelude.{[], ◌∷◌, refl, sym, ap, subst, ◌∙◌, arith, can-in_hand}
use Rattle.strm_pair.specs.Prelude.{Up, EndClosed, Goes, cells_of, direction_at, direction_of, told_more, message_in, sent_of, token}
use Rattle.strm_pty.proofs.Doing.{swaps-freed}
use Rattle.strm_pair.specs.Pairs.{kept_by, state_in}
use Rattle.strm_pair.specs.PutBy.{PutBy}
use Rattle.strm_pair.proofs.PutSteps.{closed-is, swaps-put}
use Rattle.strm_pair.proofs.streams.Streams.lose.Goals as goal

pub booked_size-bytes-requires-clause-in_hand : goal.booked_size-bytes-requires-clause-in_hand
booked_size-bytes-requires-clause-in_hand g c = can-in_hand (g.B.Blocks.value c.args.store.now) (token c.args.message) (kept_by c.args.self.now) c.audit.ensures c.requires.may.can_put

pub free-requires : goal.free-requires
free-requires g c = can-in_hand (g.B.Blocks.value c.args.store.now) (token c.args.message) (kept_by c.args.self.now) c.audit.ensures c.requires.may.can_put

pub returns : goal.returns
returns g c =
    let s = g.B.Blocks.value c.args.store.now in
    let t = g.B.Blocks.value c.free.new.self in
    let i = token c.args.message in
    let p = c.args.self.now in
    let to = c.args.to in
    let m = message_in s i in
    let made = sent_of c.none.result in
    let inside = can-in_hand s i (kept_by c.args.self.now) c.audit.ensures c.requires.may.can_put in
    subst (λ w. PutBy s t p p i 0 made c.args.told.now c.tell.new.self w) (sym (closed-is to.side to m (state_in s p) c.requires.closed))
    (swaps-put s t p i 0 0 made [] c.args.told.now c.tell.new.self
    (record { state = state_in s p; sent = []; gone = Goes (direction_at Up to.side) EndClosed (cells_of m) ∷ [] })
    c.audit.ensures c.requires.may.can_put c.requires.may.beside (swaps-freed s t i made c.audit.ensures inside c.free.ensures c.none.ensures) (omega arith) refl refl
    (c.tell.ensures
    ∙ ap (λ d. told_more d EndClosed c.booked_size-bytes.result c.args.told.now) (c.direction.ensures ∙ ap (λ n. direction_of n) c.head.ensures)
    ∙ ap (λ n. told_more (direction_at Up to.side) EndClosed n c.args.told.now) c.booked_size-bytes.ensures))
