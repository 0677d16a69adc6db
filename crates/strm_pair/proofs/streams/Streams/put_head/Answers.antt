-- What goes down is made behind the put.
use Rattle.strm_pair.proofs.Prelude.{ℕ, ◌≡◌, false, cond, sym, ap, ◌∙◌, arith, false≢true}
use Rattle.strm_pair.specs.Prelude.{is_open, is_there, sent_down, message_in, sent_of, head_takes, put_at_head, Stream, stream, token}
use Rattle.strm_pair.specs.Pairs.{state_in}
use Rattle.strm_pair.proofs.PutSteps.{came-put, down-takes, head-open}
use Rattle.strm_pair.proofs.streams.Streams.put_head.Goals as goal

pub returns-clause-does : goal.returns-clause-does
returns-clause-does g c =
    let s = g.B.Blocks.value c.args.store.now in
    let p = c.args.self.now in
    let i = token c.args.message in
    let m = message_in s i in
    let to = c.args.to in
    let down = c.come-down.result in
    came-put s (g.B.Blocks.value c.come-down.new.store) (g.B.Blocks.value c.send_down.new.store) p c.come-down.new.self i (cond (is_there down) 1 0) (head_takes m) (sent_down to down) (sent_of c.send_down.result)
    c.args.told.now c.come-down.new.told (put_at_head to.side to m (state_in s p)) c.requires.may.can_put c.come-down.ensures c.send_down.ensures.makes (down-takes to.side to m (state_in s p) down c.come-down.ensures.down_is)

pub returns-then-not-is_open-clause-blocks : goal.returns-then-not-is_open-clause-blocks
returns-then-not-is_open-clause-blocks g c = λ is.
    let s = g.B.Blocks.value c.args.store.now in
    let st = state_in s c.args.self.now in
    let to = c.args.to in
    let closed : is_open (stream to.side st).opened ≡ false = sym (ap (λ (on : Stream ℕ). is_open on.opened) (c.end.ensures.stream s)) ∙ sym c.is_open.ensures ∙ c.if-not-is_open.true in
    absurd (false≢true (sym closed ∙ head-open to (message_in s (token c.args.message)) st c.requires.top is))

pub returns-clause-blocks : goal.returns-clause-blocks
returns-clause-blocks g c = λ is.
    let first = c.come-down.ensures.blocks is.held in
    let second = c.send_down.ensures.blocks in
    (omega (arith, first.0, second.0), omega (arith, first.1, second.1))
