use Rattle.std.proofs.Common.{length, sym, ap, ◌∙◌, subst}
use Rattle.std.specs.Prelude.{slice_range}
use Rattle.strm_blocks.specs.Blocks.{token, block_at, in_hand, changed, with_block}
use Rattle.strm_raw.specs.Changes.{changed_by}
use Rattle.strm_raw.specs.Numbered.{Nodes, Row, DataRow, row_of, msg_number, with_row}
use Rattle.strm_raw.specs.Raw.{askew}
use Rattle.strm_raw.proofs.Becoming.{Becomes}
use Rattle.strm_raw.proofs.Finding as finding
use Rattle.strm_raw.proofs.Edited.{changes, edited}
use Rattle.strm_raw.specs.Wiped.{AreWiped}
use Rattle.strm_raw.proofs.raw.RawStore.change.Goals as goal
use Rattle.strm_raw.proofs.raw.RawStore.change.Goals.{After-set_message}

pub message_link-first-requires : goal.message_link-first-requires
message_link-first-requires c = finding.token-below c.self.invariant.raw _ c.self.view_is (token c.args.message.now) _ c.name.ensures c.requires.in_hand

done : (c : After-set_message) → let t = c.self.inside in let chain = in_hand c.args.self.now (token c.args.message.now) in
    Becomes c.set_message.new.self t.ends t.ledger.roster t.free_msg t.free_data t.spare_m t.spare_d (changed c.args.self.now (token c.args.message.now) (with_block c.args.at (changed_by c.args.change (block_at c.args.at chain)) chain))
done c =
    let v = c.self.inside.memory in let is = c.self.invariant.raw in let l = c.message_link-first.result in let k = c.block_link-link.result in
    let here = finding.here-by v c.self.inside.ledger.roster _ c.self.view_is l (token c.args.message.now) _ c.message_link-first.ensures.there c.message_link-first.ensures.number c.name.ensures c.requires.in_hand in
    let row = c.message-node.ensures.row in
    let sized = ap (λ (d : DataRow). length d.bytes) (sym c.datum.ensures.row) ∙ c.datum.ensures.sized in
    let old = ap (λ (r : Row). askew r) row ∙ is.straight (msg_number v.mat k) in
    let does = changes v c.args.change c.message-node.result (ap (λ (r : Row). askew r) row ∙ is.straight (msg_number v.mat k)) sized _ (ap (λ (d : DataRow). length (slice_range d.bytes c.message-node.result.start c.message-node.result.end)) c.datum.ensures.row) in
    edited is c.self.view_is l here (c.message_link-first.ensures.number ∙ c.name.ensures) c.args.at c.requires.within k (c.block_link-link.ensures.number _ (finding.found-linked is l here)) c.self.invariant.listed _ _ _ row does.0 does.1.0
    (c.set_message.ensures ∙ ap (λ n. with_row (msg_number v.mat k) (row_of v.mat v.dat n) v) c.changed_node.ensures) (changed_by c.args.change) does.1.1

pub invariant_of-self : goal.invariant_of-self
invariant_of-self c = let d = done (goal.at.invariant_of-self c).After-set_message in record { raw = d.raw; wiped = subst AreWiped (sym (ap (λ (w : Nodes). w.datas) c.set_message.ensures)) c.self.invariant.wiped; listed = d.listed }

pub returns : goal.returns
returns c = (done (goal.at.returns c).After-set_message).value
