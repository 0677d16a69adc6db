use Rattle.std.proofs.Common.{◌<◌, ◌+◌, ◌-◌, take, sym, ap, subst, ◌∙◌, arith, length}
use Rattle.std.proofs.lemmas.List.{length-take-le}
use Rattle.strm_blocks.specs.Blocks.{token, in_hand, changed, extended}
use Rattle.strm_blocks.proofs.Appends.{extended-none}
use Rattle.strm_raw.specs.Numbered.{Nodes, Row, DataRow, row_of, with_row, msg_number}
use Rattle.strm_raw.specs.Raw.{askew}
use Rattle.strm_raw.proofs.Becoming.{Becomes}
use Rattle.strm_raw.proofs.Finding as finding
use Rattle.strm_raw.specs.Wiped.{AreWiped}
use Rattle.strm_raw.proofs.Wiping.{wiped-named}
use Rattle.strm_raw.proofs.Appended as appended
use Rattle.strm_raw.proofs.store.RawStoreBlocks.append.Goals as goal
use Rattle.strm_raw.proofs.store.RawStoreBlocks.append.Goals.{After-set_message}

pub message_link-first-requires : goal.message_link-first-requires
message_link-first-requires c = finding.token-below c.self.invariant.raw _ c.self.view_is (token c.args.message.now) _ c.name.ensures c.requires

pub returns-then-datum-gt1-clause-count : goal.returns-then-datum-gt1-clause-count
returns-then-datum-gt1-clause-count c =
    let v = c.self.inside.memory in let is = c.self.invariant.raw in let l = c.message_link-first.result in let k = c.last_link-last.result in let n = token c.args.message.now in
    let here = finding.here-by v c.self.inside.ledger.roster _ c.self.view_is l n _ c.message_link-first.ensures.there c.message_link-first.ensures.number c.name.ensures c.requires in
    let name = c.message_link-first.ensures.number ∙ c.name.ensures in
    let at = length (in_hand c.args.self.now n) - 1 in
    let within : at < length (in_hand c.args.self.now n) = (let some = finding.first-within is c.self.view_is n c.requires in omega arith) in
    let last = finding.last-number is c.self.view_is l here name c.messages.result c.messages.ensures (msg_number v.mat k) c.last_link-last.ensures.number in
    let r = row_of v.mat v.dat c.message-node.result in
    let count = ap (λ (d : DataRow). d.references) c.datum.ensures.row in
    appended.taken-none is c.self.view_is l here name at within k (λ _. last) r c.message-node.ensures.row (omega arith) (length c.args.bytes.now)

pub returns-then-datum-gt1-clause-written : goal.returns-then-datum-gt1-clause-written
returns-then-datum-gt1-clause-written c = sym (extended-none c.args.self.now (token c.args.message.now))

pub returns-clause-count : goal.returns-clause-count
returns-clause-count c =
    let v = c.self.inside.memory in let is = c.self.invariant.raw in let l = c.message_link-first.result in let k = c.last_link-last.result in let n = token c.args.message.now in
    let here = finding.here-by v c.self.inside.ledger.roster _ c.self.view_is l n _ c.message_link-first.ensures.there c.message_link-first.ensures.number c.name.ensures c.requires in
    let name = c.message_link-first.ensures.number ∙ c.name.ensures in
    let at = length (in_hand c.args.self.now n) - 1 in
    let within : at < length (in_hand c.args.self.now n) = (let some = finding.first-within is c.self.view_is n c.requires in omega arith) in
    let last = finding.last-number is c.self.view_is l here name c.messages.result c.messages.ensures (msg_number v.mat k) c.last_link-last.ensures.number in
    let r = row_of v.mat v.dat c.message-node.result in
    let count = ap (λ (d : DataRow). d.references) c.datum.ensures.row in
    c.min-count.ensures ∙ appended.taken-some is c.self.view_is l here name at within k (λ _. last) r c.message-node.ensures.row (omega arith) (length c.args.bytes.now)

done : (c : After-set_message) → let t = c.self.inside in let n = token c.args.message.now in
    Becomes c.set_message.new.self t.ends t.ledger.roster t.free_msg t.free_data t.spare_m t.spare_d (changed c.args.self.now n (extended (take c.min-count.result c.args.bytes.now) (in_hand c.args.self.now n)))
done c =
    let v = c.self.inside.memory in let is = c.self.invariant.raw in let l = c.message_link-first.result in let k = c.last_link-last.result in let n = token c.args.message.now in
    let here = finding.here-by v c.self.inside.ledger.roster _ c.self.view_is l n _ c.message_link-first.ensures.there c.message_link-first.ensures.number c.name.ensures c.requires in
    let name = c.message_link-first.ensures.number ∙ c.name.ensures in
    let at = length (in_hand c.args.self.now n) - 1 in
    let within : at < length (in_hand c.args.self.now n) = (let some = finding.first-within is c.self.view_is n c.requires in omega arith) in
    let last = finding.last-number is c.self.view_is l here name c.messages.result c.messages.ensures (msg_number v.mat k) c.last_link-last.ensures.number in
    let r = row_of v.mat v.dat c.message-node.result in
    let count = ap (λ (d : DataRow). d.references) c.datum.ensures.row in
    let m = c.min-count.ensures in
    let new = take c.min-count.result c.args.bytes.now in
    let taken = length-take-le c.min-count.result c.args.bytes.now (omega arith) in
    let old = ap (λ (y : Row). askew y) c.message-node.ensures.row ∙ is.straight (msg_number v.mat k) in
    let memory = c.set_message.ensures ∙ ap (λ (w : Nodes). with_row (msg_number w.mat k) (row_of w.mat w.dat (record c.message-node.result { end = c.message-node.result.end + c.min-count.result })) w) c.write.ensures in
    appended.appended is c.self.view_is l here name at within k (λ _. last) r c.message-node.ensures.row c.message-node.ensures.links.number.0 (omega arith) (ap (λ (d : DataRow). length d.bytes) (sym c.datum.ensures.row) ∙ c.datum.ensures.sized)
    new c.min-count.result (sym taken) (omega arith) c.set_message.new.self memory c.self.invariant.listed

-- what is written stands in a data block that is named
clean : (c : After-set_message) → AreWiped c.set_message.new.self.datas
clean c =
    let v = c.self.inside.memory in let is = c.self.invariant.raw in let l = c.message_link-first.result in let k = c.last_link-last.result in let n = token c.args.message.now in
    let here = finding.here-by v c.self.inside.ledger.roster _ c.self.view_is l n _ c.message_link-first.ensures.there c.message_link-first.ensures.number c.name.ensures c.requires in
    let name = c.message_link-first.ensures.number ∙ c.name.ensures in
    let at = length (in_hand c.args.self.now n) - 1 in
    let within : at < length (in_hand c.args.self.now n) = (let some = finding.first-within is c.self.view_is n c.requires in omega arith) in
    let last = finding.last-number is c.self.view_is l here name c.messages.result c.messages.ensures (msg_number v.mat k) c.last_link-last.ensures.number in
    let some = appended.named is c.self.view_is l here name at within k (λ _. last) (row_of v.mat v.dat c.message-node.result) c.message-node.ensures.row in
    subst AreWiped (sym (ap (λ (w : Nodes). w.datas) c.set_message.ensures ∙ ap (λ (w : Nodes). w.datas) c.write.ensures)) (wiped-named _ _ _ c.self.invariant.wiped some)

pub invariant_of-self : goal.invariant_of-self
invariant_of-self c = let a = (goal.at.invariant_of-self c).After-set_message in let d = done a in record { raw = d.raw; wiped = clean a; listed = d.listed }

pub returns-clause-written : goal.returns-clause-written
returns-clause-written c = (done (goal.at.returns-clause-written c).After-set_message).value
