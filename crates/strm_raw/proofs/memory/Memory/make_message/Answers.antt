use Rattle.std.proofs.Common.{◌≡◌, ◌+◌, length, refl, sym, ap, subst, ◌∙◌, arith}
use denote.RawPtr.{InBlock}
use Rattle.strm_raw.specs.Links.{place}
use Rattle.strm_raw.specs.MsgNodes as messages
use Rattle.strm_raw.specs.Numbered.{Nodes, Rows, rows, AreLinked, IsMsg, IsData, msg_number}
use Rattle.strm_raw.specs.declared.msg_nodes.MsgNode.{MsgNode}
use Rattle.strm_raw.proofs.Placed.{place-is, number-is, msg-sized}
use Rattle.strm_raw.proofs.Numbered.{msgs_of, datas_of, msgs-len, datas-len}
use Rattle.strm_raw.proofs.Made.{message-linked}
use Rattle.strm_raw.proofs.memory.Memory.make_message.Goals as goal

pub invariant_of-self : goal.invariant_of-self
invariant_of-self c =
    let ms = msgs_of c.self.inside.msgs in let ds = datas_of c.self.inside.datas in let is = c.self.invariant in
    let put = c.push_reserved.ensures in
    let number = subst (λ k. IsData ds.at k c.data_link-number.result) (datas-len ms ds is) (subst (λ (v : Nodes). IsData v.dat (length v.datas) c.data_link-number.result) (sym c.self.view_is) c.data_link-number.ensures.there) in
    subst (λ (r : Rows MsgNode). AreLinked r ds) (λ j. rows (sym put.in_place j) (sym put.capacity j) (sym put.items j))
    (message-linked ms ds is _ number refl refl refl (c.len-index.ensures ∙ c.self.inside.msgs.ok.0))

pub returns-clause-there : goal.returns-clause-there
returns-clause-there c =
    let ms = msgs_of c.self.inside.msgs in let ds = datas_of c.self.inside.datas in let is = c.self.invariant in
    let begins = c.as_ptr.ensures ∙ c.push_reserved.ensures.in_place in
    let place = c.place_of.ensures.place ∙ ap (λ p. place messages.node_size p c.len-index.result) begins in
    let index = c.len-index.ensures ∙ c.self.inside.msgs.ok.0 ∙ sym (msgs-len ms ds is) in
    subst (λ (v : Nodes). IsMsg v.mat (length v.rows + 1) (record { at = c.place_of.result })) c.self.view_is
    (place-is messages.node_size msg-sized _ c.place_of.result c.len-index.result _ place (subst InBlock begins c.place_of.ensures.block) (omega arith))

pub returns-clause-number : goal.returns-clause-number
returns-clause-number c =
    let ms = msgs_of c.self.inside.msgs in let ds = datas_of c.self.inside.datas in let is = c.self.invariant in
    let begins = c.as_ptr.ensures ∙ c.push_reserved.ensures.in_place in
    let place = c.place_of.ensures.place ∙ ap (λ p. place messages.node_size p c.len-index.result) begins in
    let index = c.len-index.ensures ∙ c.self.inside.msgs.ok.0 ∙ sym (msgs-len ms ds is) in
    subst (λ (v : Nodes). msg_number v.mat (record { at = c.place_of.result }) ≡ length v.rows) c.self.view_is
    (number-is messages.node_size msg-sized _ c.place_of.result c.len-index.result (c.len-index.result + 1) place (subst InBlock begins c.place_of.ensures.block) (omega arith) ∙ index)
