-- By its kind.
use Rattle.strm_pty.proofs.Prelude.{suc, ap, sym, length, ◌∙◌, arith}
use Rattle.strm_pty.specs.Prelude.{is_data_kind, is_stop_or_start, in_hand, token}
use Rattle.strm_queue.proofs.Bounds.{few-bytes}
use Rattle.strm_msg.proofs.Chains.{size-shown}
use Rattle.strm_pty.proofs.Packed.{all-packed, none-packed, stop-packed}
use Rattle.strm_pty.proofs.pckt.count_made.Goals as goal
use Rattle.strm_pty.proofs.pckt.count_made.Goals.{then-is_data_kind, else-is_data_kind}

pub overflow_add-result : goal.overflow_add-result
overflow_add-result g c =
    let s = g.B.Blocks.value c.args.store.now in
    let i = token c.args.message.now in
    let few = few-bytes s c.audit.ensures 0 i in
    let size = c.message_size.ensures.message c.requires.chain ∙ size-shown (in_hand s i) c.requires.chain in
    omega arith

pub returns-then-is_stop_or_start : goal.returns-then-is_stop_or_start
returns-then-is_stop_or_start g c =
    let chain = in_hand (g.B.Blocks.value c.args.store.now) (token c.args.message.now) in
    elim c.if-is_data_kind.branch [
      | then-is_data_kind w ↦ (let none = none-packed chain c.requires.chain (ap is_data_kind (sym c.kind-kind.ensures) ∙ sym c.is_data_kind.ensures ∙ w.if-is_data_kind.true) in sym (ap (λ xs. suc (length xs)) none))
      | else-is_data_kind w ↦ (let none = stop-packed chain c.requires.chain (ap is_stop_or_start (sym c.kind-kind.ensures) ∙ sym w.is_stop_or_start.ensures ∙ sym w.value-is ∙ c.if-is_stop_or_start.true) in sym (ap (λ xs. suc (length xs)) none))
    ]

pub returns-else-is_stop_or_start : goal.returns-else-is_stop_or_start
returns-else-is_stop_or_start g c =
    let chain = in_hand (g.B.Blocks.value c.args.store.now) (token c.args.message.now) in
    elim c.if-is_data_kind.branch [
      | then-is_data_kind w ↦ absurd (let yes = w.value-is in let no = c.if-is_stop_or_start.false in cc)
      | else-is_data_kind w ↦ (let all = all-packed chain c.requires.chain (ap is_data_kind (sym c.kind-kind.ensures) ∙ sym c.is_data_kind.ensures ∙ w.if-is_data_kind.false)
          (ap is_stop_or_start (sym c.kind-kind.ensures) ∙ sym w.is_stop_or_start.ensures ∙ sym w.value-is ∙ c.if-is_stop_or_start.false) in let size = c.message_size.ensures.bytes in omega arith)
    ]
