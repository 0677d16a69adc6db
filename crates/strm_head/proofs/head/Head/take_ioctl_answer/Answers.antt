-- 272 bytes are enough.
use Rattle.strm_head.proofs.Prelude.{ap, ◌∙◌, take, replicate}
use Rattle.strm_head.specs.Prelude.{slot_answered, in_hand, token, bytes_of}
use Rattle.strm_head.specs.Heads.{head_in, plain_slot}
use Rattle.strm_head.proofs.Heeding.{answered-first, first-of}
use Rattle.strm_head.proofs.head.Head.take_ioctl_answer.Goals as goal

pub returns-clause-state : goal.returns-clause-state
returns-clause-state g c = λ s.
    let bytes = bytes_of (in_hand (g.B.Blocks.value c.args.store.now) (token c.args.message.now)) in
    let slot = plain_slot c.args.self.now.ioctl in
    let count = c.first_bytes-count in
    c.take_answer.ensures.state s
    ∙ ap (λ after. record (head_in s c.args.self.now) { ioctl = after })
    (ap (λ xs. slot_answered c.args.is_ack xs slot)
    (ap (λ xs. take count.result xs) count.ensures.given ∙ first-of (replicate 272 0) bytes count.result count.ensures.count)
    ∙ answered-first c.args.is_ack bytes slot)
