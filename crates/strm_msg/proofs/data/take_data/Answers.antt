use Rattle.std.proofs.Common.{◌∙◌, ap, sym, arith, length}
use Rattle.std.proofs.lemmas.List.{take_all}
use Rattle.strm_blocks.specs.Blocks.{in_hand, changed, token}
use Rattle.strm_types.specs.Kinds.{is_body_kind}
use Rattle.strm_msg.specs.Bytes.{data_bytes}
use Rattle.strm_msg.specs.Taken.{filled}
use Rattle.strm_msg.proofs.Taking.{going-first, going-data, going-other, take-length, take-in_hand, take-all, take-left, take-control}
use Rattle.strm_msg.proofs.data.take_data.Goals as goal
use Rattle.strm_msg.proofs.data.take_data.Goals.{then-is_body_kind, else-is_body_kind}

pub loop-at-init : goal.loop-at-init
loop-at-init g c = going-first (g.B.Blocks.value c.args.store.now) (token c.args.message.now) c.args.buffer.now

pub kind-requires-clause-in_hand : goal.kind-requires-clause-in_hand
kind-requires-clause-in_hand g c = take-in_hand (g.B.Blocks.value c.args.store.now) (token c.args.message.now) (length c.args.buffer.now) c.loop-at.at c.requires c.loop-at.invariant.trimmed

pub kind-requires-clause-within : goal.kind-requires-clause-within
kind-requires-clause-within g c =
    let same = take-length (g.B.Blocks.value c.args.store.now) (token c.args.message.now) (length c.args.buffer.now) c.loop-at.at c.requires (omega arith) c.loop-at.invariant.trimmed in
    omega arith

pub take_from_block-done-requires-clause-in_hand : goal.take_from_block-done-requires-clause-in_hand
take_from_block-done-requires-clause-in_hand g c = take-in_hand (g.B.Blocks.value c.args.store.now) (token c.args.message.now) (length c.args.buffer.now) c.loop-at.at c.requires c.loop-at.invariant.trimmed

pub take_from_block-done-requires-clause-within : goal.take_from_block-done-requires-clause-within
take_from_block-done-requires-clause-within g c =
    let same = take-length (g.B.Blocks.value c.args.store.now) (token c.args.message.now) (length c.args.buffer.now) c.loop-at.at c.requires (omega arith) c.loop-at.invariant.trimmed in
    omega arith

pub loop-at-preserved : goal.loop-at-preserved
loop-at-preserved g c =
    elim c.if-is_body_kind.branch [
      | then-is_body_kind w ↦ going-data c.requires (omega arith) c.loop-at.invariant w.take_from_block-done.result (ap is_body_kind (sym c.kind.ensures) ∙ sym c.is_body_kind.ensures ∙ w.if-is_body_kind.true) w.take_from_block-done.ensures.count w.done-is (w.buffer-is ∙ w.take_from_block-done.ensures.copied) (ap (λ s. g.B.Blocks.value s) w.store-is ∙ w.take_from_block-done.ensures.trimmed)
      | else-is_body_kind w ↦ going-other c.requires (omega arith) c.loop-at.invariant (ap is_body_kind (sym c.kind.ensures) ∙ sym c.is_body_kind.ensures ∙ w.if-is_body_kind.false) w.done-is w.buffer-is (ap (λ s. g.B.Blocks.value s) w.store-is)
    ]

pub returns-clause-left : goal.returns-clause-left
returns-clause-left g c =
    take-left (g.B.Blocks.value c.args.store.now) (token c.args.message.now) (length c.args.buffer.now) c.loop-at.at c.loop-at.done c.requires (omega arith) c.loop-at.invariant.count c.loop-at.invariant.trimmed

pub returns-clause-control : goal.returns-clause-control
returns-clause-control g c =
    take-control (g.B.Blocks.value c.args.store.now) (token c.args.message.now) (length c.args.buffer.now) c.loop-at.at c.requires (omega arith) c.loop-at.invariant.trimmed

pub returns-clause-count : goal.returns-clause-count
returns-clause-count g c =
    let all = ap (λ xs. length (data_bytes xs)) (take_all c.loop-at.at (in_hand (g.B.Blocks.value c.args.store.now) (token c.args.message.now)) (omega arith)) in
    let count = c.loop-at.invariant.count in
    omega arith

pub returns-clause-given : goal.returns-clause-given
returns-clause-given g c =
    c.loop-at.invariant.given ∙ ap (λ xs. filled c.args.buffer.now (data_bytes xs)) (take_all c.loop-at.at (in_hand (g.B.Blocks.value c.args.store.now) (token c.args.message.now)) (omega arith))

pub returns-clause-trimmed : goal.returns-clause-trimmed
returns-clause-trimmed g c =
    c.loop-at.invariant.trimmed ∙ ap (λ xs. changed (g.B.Blocks.value c.args.store.now) (token c.args.message.now) xs) (take-all (length c.args.buffer.now) (in_hand (g.B.Blocks.value c.args.store.now) (token c.args.message.now)) c.loop-at.at (omega arith))
