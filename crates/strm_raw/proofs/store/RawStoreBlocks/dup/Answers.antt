use Rattle.std.proofs.Common.{ℕ, ◌≡◌, ◌+◌, ◌-◌, ◌<◌, refl, sym, ap, ◌∙◌, subst, arith, length, get_or, List, inl, inr, [], ◌∷◌}
use Rattle.std.proofs.lemmas.Bool.Decides.{nat_tests}
use Rattle.std.specs.Prelude.{None}
use denote.RawPtr.{Ptr}
use Rattle.strm_blocks.specs.Blocks.{StoreValue, token, Block, block_at, in_hand, IsFreshName, held, references, free_m}
use Rattle.strm_blocks.specs.Outcomes.{NoneShared, Duplicated}
use Rattle.strm_raw.specs.Numbered.{Nodes, Row, DataRow, row_of, showing, data_at, row_at, with_data, with_row, msg_number, data_number}
use Rattle.strm_raw.specs.declared.msg_nodes.MsgNode.{MsgNode}
use Rattle.strm_raw.specs.declared.msg_nodes.Shows.{Shows}
use Rattle.strm_raw.specs.Raw.{value_of, ids, shown, askew}
use Rattle.strm_raw.proofs.Standing.{free_m-value, stored}
use Rattle.strm_raw.proofs.Supplying.{room-m, gives-m}
use Rattle.strm_raw.proofs.Becoming.{Becomes, becomes-as}
use Rattle.strm_raw.proofs.Stocking.{shown-kept}
use Rattle.strm_raw.specs.Wiped.{AreWiped}
use Rattle.strm_raw.proofs.Wiping.{wiped-named}
use Rattle.strm_raw.proofs.Taking as taking
use Rattle.strm_raw.proofs.Finding as finding
use Rattle.strm_raw.proofs.store.RawStoreBlocks.dup.Goals as goal
use Rattle.strm_raw.proofs.store.RawStoreBlocks.dup.Goals.{After-note}

pub message_link-first-requires : goal.message_link-first-requires
message_link-first-requires c = finding.token-below c.self.invariant.raw _ c.self.view_is (token c.args.message.now) _ c.name.ensures c.requires.in_hand

pub returns-then-self-eq0 : goal.returns-then-self-eq0
returns-then-self-eq0 c =
    let t = c.self.inside in
    let none = ap (λ s. free_m s) (sym c.self.view_is) ∙ free_m-value t.memory t.ledger.roster c.self.invariant.raw ∙ c.if-self-eq0.true in
    record { none = inl none; same = refl }

pub returns-then-references : goal.returns-then-references
returns-then-references c =
    let t = c.self.inside in let v = t.memory in let is = c.self.invariant.raw in let l = c.message_link-first.result in let n = token c.args.message.now in let e = c.message_link-first.ensures.number ∙ c.name.ensures in let at = c.args.at in
    let here = finding.here-by c.self.inside.memory c.self.inside.ledger.roster _ c.self.view_is l n _ c.message_link-first.ensures.there c.message_link-first.ensures.number c.name.ensures c.requires.in_hand in
    let within = subst (λ (x : StoreValue × ℕ). at < length (in_hand x.0 x.1)) (λ j. (sym c.self.view_is j, sym e j)) c.requires.within in
    let len = finding.found-len is l here in
    let j = c.block_link-link.ensures.number (ids (finding.found is l here)) (finding.found-linked is l here) (omega arith) in
    let block = finding.found-block is l here at within in
    let number = ap (λ (r : Row). r.number) c.message-block.ensures.row ∙ ap (λ k. (row_at k v.rows).number) j ∙ sym (ap (λ (b : Block). b.number) block) in
    let full = stored v t.ledger.roster is (data_number v.dat c.message-block.result.number) ∙ sym (ap (λ (r : DataRow). r.references) c.datum.ensures.row) ∙ c.if-references.true in
    subst (λ (x : StoreValue × ℕ). NoneShared x.0 x.0 (block_at at (in_hand x.0 x.1)).number) (λ j. (c.self.view_is j, e j))
    (record { none = inr (ap (λ k. references (value_of v t.ledger.roster) k) (sym number) ∙ full); same = refl })

pub free_message-free-requires-clause-room : goal.free_message-free-requires-clause-room
free_message-free-requires-clause-room c none = room-m c.self.invariant.raw none (let f = c.if-self-eq0.false in grind (arith, nat_tests))

-- the new message, beside the store that was
done : (c : After-note) → let t = c.self.inside in let s = c.args.self.now in let i = msg_number c.free_message-free.new.memory.mat c.free_message-free.result in let x = block_at c.args.at (in_hand s (token c.args.message.now)) in
    Becomes c.show.new.self t.ends c.note.new.self.roster c.message-taken.result.next t.free_data (t.spare_m - 1) t.spare_d (held s i (x ∷ [])) × Duplicated s (held s i (x ∷ [])) i x
done c =
    let some_m : 0 < c.self.inside.spare_m = let f = c.if-self-eq0.false in grind (arith, nat_tests) in
    let t = c.self.inside in let v = t.memory in let is = c.self.invariant.raw in let l = c.message_link-first.result in let n = token c.args.message.now in let e = c.message_link-first.ensures.number ∙ c.name.ensures in let at = c.args.at in
    let here = finding.here-by c.self.inside.memory c.self.inside.ledger.roster _ c.self.view_is l n _ c.message_link-first.ensures.there c.message_link-first.ensures.number c.name.ensures c.requires.in_hand in
    let within = subst (λ (x : StoreValue × ℕ). at < length (in_hand x.0 x.1)) (λ j. (sym c.self.view_is j, sym e j)) c.requires.within in
    let len = finding.found-len is l here in
    let j = c.block_link-link.ensures.number (ids (finding.found is l here)) (finding.found-linked is l here) (omega arith) in
    let row = c.message-block.ensures.row ∙ ap (λ k. row_at k v.rows) j in
    let w = c.free_message-free.new.memory in let beside = c.free_message-free.ensures.beside in
    let ready = gives-m (record { raw = is; listed = c.self.invariant.listed; value = c.self.view_is }) some_m c.free_message-free.ensures.given in
    let mat : w.mat ≡ v.mat = ap (λ (v : Nodes). v.mat) beside in let dat : w.dat ≡ v.dat = ap (λ (v : Nodes). v.dat) beside in let datas : w.datas ≡ v.datas = ap (λ (v : Nodes). v.datas) beside in
    let d = data_number w.dat c.message-block.result.number in
    let free = c.free_message-free.result in
    let node : MsgNode = record c.message-block.result { name = c.message-taken.result.name; next = None; ahead = c.message-taken.result.ahead; behind = c.message-taken.result.behind } in
    let x : DataRow = record (data_at d w.datas) { references = c.datum.result.now.references + 1 } in
    let y = c.message-block.result in let shows : Shows = record { kind = y.kind; band = y.band; number = y.number; start = y.start; end = y.end } in
    let memory = c.show.ensures ∙ ap (λ (w : Nodes). with_row (msg_number w.mat free) (showing w.dat shows (row_at (msg_number w.mat free) w.rows)) w) c.set_references.ensures
    ∙ ap (λ (r : Row). with_row (msg_number w.mat free) (showing w.dat shows r) (with_data d x w)) (sym c.message-taken.ensures.row) in
    let row2 : row_of w.mat w.dat y ≡ row_at (get_or (ids (finding.found is l here)) at 0) v.rows = (λ j. row_of (mat j) (dat j) y) ∙ row in
    let some : 0 < (data_at d w.datas).references = subst (λ (k : ℕ × List DataRow). 0 < (data_at k.0 k.1).references) (λ j. (sym (ap (λ (r : Row). r.number) row2) j, sym datas j)) (finding.found-named is l here at (omega arith)) in
    let count : c.datum.result.now.references ≡ (data_at d w.datas).references = ap (λ (r : DataRow). r.references) (c.datum.ensures.row ∙ (λ j. data_at (data_number (sym dat j) y.number) (sym datas j))) in
    let few : (data_at d w.datas).references < 255 = let b = ready.raw.bounded d in grind (arith, nat_tests) in
    let within2 : d < length w.datas = subst (λ (x : Ptr × List DataRow). data_number x.0 y.number < length x.1) (λ j. (sym dat j, sym datas j)) c.message-block.ensures.links.number.0 in
    let refers = taking.refers-more ready.raw d within2 some few x (omega arith) refl in
    let straight = ap (λ (r : Row). askew r) row2 ∙ is.straight _ in
    let row_next = ap (λ (r : Row). r.next) c.message-taken.ensures.row in
    let shows : shown _ (row_of w.mat w.dat node) ≡ block_at at (in_hand (value_of v t.ledger.roster) (msg_number v.mat l)) =
    shown-kept w.datas _ refers.stock.bytes (row_of w.mat w.dat node) ∙ (λ j. shown (datas j) (row2 j)) ∙ sym (finding.found-block is l here at within) in
    let block = shows ∙ (λ q. block_at at (in_hand (c.self.view_is q) (e q))) in
    let number = ap (λ (r : Row). r.number) row2 ∙ sym (ap (λ (b : Block). b.number) (finding.found-block is l here at within)) in
    let room = stored w c.free_message-free.new.ledger.roster ready.raw d in
    let fresh = taking.added-fresh ready.raw free refl (row_of w.mat w.dat node) refl straight c.message-taken.result.next row_next c.message-taken.ensures.links.next _ _ _ _ refers in
    let more = taking.added-room ready.raw free refl (row_of w.mat w.dat node) refl straight c.message-taken.result.next row_next c.message-taken.ensures.links.next _ _ _ _ refers in (
      becomes-as
          (taking.added-becomes ready.raw free refl (row_of w.mat w.dat node) refl straight c.message-taken.result.next row_next c.message-taken.ensures.links.next _ _ _ _ refers w.datas ready.listed refl _ _ memory c.note.ensures
          (ap (λ (r : Row). r.ahead) c.message-taken.ensures.row) (ap (λ (r : Row). r.behind) c.message-taken.ensures.row))
          (λ q. held (ready.value q) (msg_number w.mat free) (block q ∷ [])),
      record {
        room_m = subst (λ (s : StoreValue). 0 < free_m s) ready.value more;
        room_r = subst (λ (x : StoreValue × ℕ). references x.0 x.1 < 255) (λ q. (ready.value q, (number ∙ (λ q. (block_at at (in_hand (c.self.view_is q) (e q))).number)) q)) (omega arith);
        fresh_name = subst (λ (s : StoreValue). IsFreshName s (msg_number w.mat free)) ready.value fresh;
        after = refl;
      },
    )

pub invariant_of-self : goal.invariant_of-self
invariant_of-self c =
    let d = (done (goal.at.invariant_of-self c).After-note).0 in
    let was = subst AreWiped (sym (ap (λ (w : Nodes). w.datas) c.free_message-free.ensures.beside)) c.self.invariant.wiped in
    let datas = ap (λ (w : Nodes). w.datas) c.show.ensures ∙ ap (λ (w : Nodes). w.datas) c.set_references.ensures in
    record { raw = d.raw; wiped = subst AreWiped (sym datas) (wiped-named _ _ _ was (omega arith)); listed = d.listed }

pub returns : goal.returns
returns c =
    let d = done (goal.at.returns c).After-note in
    subst (λ (x : StoreValue × ℕ). Duplicated c.args.self.now x.0 x.1 (block_at c.args.at (in_hand c.args.self.now (token c.args.message.now)))) (λ q. (sym d.0.value q, sym (c.of.ensures ∙ c.message-taken.ensures.name) q)) d.1
