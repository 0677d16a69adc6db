use Rattle.std.proofs.Common.{◌≡◌, ◌+◌, length, sym, ap, subst, ◌∙◌, arith}
use denote.RawPtr.{InBlock}
use Rattle.strm_raw.specs.Links.{place}
use Rattle.strm_raw.specs.DataNodes as data_blocks
use Rattle.strm_raw.specs.Numbered.{Nodes, Rows, rows, AreLinked, IsData, data_number}
use Rattle.strm_raw.specs.declared.data_nodes.DataNode.{DataNode}
use Rattle.strm_raw.proofs.Placed.{place-is, number-is, data-sized}
use Rattle.strm_raw.proofs.Numbered.{msgs_of, datas_of, datas-len}
use Rattle.strm_raw.proofs.Made.{data-linked}
use Rattle.strm_raw.proofs.memory.Memory.make_data.Goals as goal

pub invariant_of-self : goal.invariant_of-self
invariant_of-self c =
    let ms = msgs_of c.self.inside.msgs in let ds = datas_of c.self.inside.datas in let is = c.self.invariant in
    let put = c.push_reserved.ensures in
    subst (λ (r : Rows DataNode). AreLinked ms r) (λ j. rows (sym put.in_place j) (sym put.capacity j) (sym put.items j)) (data-linked ms ds is)

pub returns-clause-there : goal.returns-clause-there
returns-clause-there c =
    let ms = msgs_of c.self.inside.msgs in let ds = datas_of c.self.inside.datas in let is = c.self.invariant in
    let begins = c.as_ptr.ensures ∙ c.push_reserved.ensures.in_place in
    let place = c.place_of.ensures.place ∙ ap (λ p. place data_blocks.node_size p c.len-index.result) begins in
    let index = c.len-index.ensures ∙ c.self.inside.datas.ok.0 ∙ sym (datas-len ms ds is) in
    subst (λ (v : Nodes). IsData v.dat (length v.datas + 1) (record { at = c.place_of.result })) c.self.view_is
    (place-is data_blocks.node_size data-sized _ c.place_of.result c.len-index.result _ place (subst InBlock begins c.place_of.ensures.block) (omega arith))

pub returns-clause-number : goal.returns-clause-number
returns-clause-number c =
    let ms = msgs_of c.self.inside.msgs in let ds = datas_of c.self.inside.datas in let is = c.self.invariant in
    let begins = c.as_ptr.ensures ∙ c.push_reserved.ensures.in_place in
    let place = c.place_of.ensures.place ∙ ap (λ p. place data_blocks.node_size p c.len-index.result) begins in
    let index = c.len-index.ensures ∙ c.self.inside.datas.ok.0 ∙ sym (datas-len ms ds is) in
    subst (λ (v : Nodes). data_number v.dat (record { at = c.place_of.result }) ≡ length v.datas) c.self.view_is
    (number-is data_blocks.node_size data-sized _ c.place_of.result c.len-index.result (c.len-index.result + 1) place (subst InBlock begins c.place_of.ensures.block) (omega arith) ∙ index)
