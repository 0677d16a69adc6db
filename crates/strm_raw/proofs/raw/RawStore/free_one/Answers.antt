use Rattle.std.proofs.Common.{◌+◌, ◌<◌, refl, sym, ap, ◌∙◌, subst, arith, length, ◌∷◌}
use Rattle.std.specs.Prelude.{Some, option_map}
use Rattle.strm_blocks.specs.Blocks.{token, in_hand, dropped}
use Rattle.strm_raw.specs.Numbered.{Nodes, Row, row_at, data_at, data_number, with_row, msg_number, IsMsg}
use Rattle.strm_raw.specs.Roster.{Roster}
use Rattle.strm_raw.specs.Raw.{without_in, IsHere}
use Rattle.strm_raw.proofs.Finding as finding
use Rattle.strm_raw.proofs.Becoming.{Becomes, becomes-as, row-becomes}
use Rattle.strm_raw.specs.Wiped.{AreWiped}
use Rattle.strm_raw.proofs.Wiping.{wipes-raw, wipes-value}
use Rattle.strm_raw.proofs.Giving.{Released, released, Drops, given-raw, given-value}
use Rattle.strm_raw.proofs.raw.RawStore.free_one.Goals as goal
use Rattle.strm_raw.proofs.raw.RawStore.free_one.Goals.{After-message-node, After-release, After-note}

pub message_link-at-requires : goal.message_link-at-requires
message_link-at-requires c = finding.token-below c.self.invariant.raw _ c.self.view_is (token c.args.message) _ c.name.ensures c.requires.in_hand

here : (c : After-message-node) → IsHere c.self.inside.memory c.self.inside.ledger.roster c.message_link-at.result
here c = finding.here-by c.self.inside.memory c.self.inside.ledger.roster _ c.self.view_is c.message_link-at.result (token c.args.message) _ c.message_link-at.ensures.there c.message_link-at.ensures.number c.name.ensures c.requires.in_hand

-- the data block has a reference
named : (c : After-message-node) → let v = c.self.inside.memory in 0 < (data_at (data_number v.dat c.message-node.result.number) v.datas).references
named c =
    let v = c.self.inside.memory in let is = c.self.invariant.raw in let l = c.message_link-at.result in
    let number = ap (λ (r : Row). r.number) c.message-node.ensures.row in
    let head = ap (λ j. (row_at j v.rows).number) (finding.found-head is l (here c)) in
    subst (λ k. 0 < (data_at k v.datas).references) (head ∙ sym number) (finding.found-named is l (here c) 0 (omega arith))

pub release-requires-clause-named : goal.release-requires-clause-named
release-requires-clause-named c = named (goal.at.release-requires-clause-named c).After-message-node

given-up : (c : After-release) → 0 < (data_at (data_number c.self.inside.memory.dat c.message-node.result.number) c.self.inside.memory.datas).references
    → let t = c.self.inside in Released t.memory c.release.new.memory t.ledger.roster c.release.new.ledger.roster (data_number t.memory.dat c.message-node.result.number) c.release.new.first c.release.new.spare
given-up c some = released c.self.invariant.raw c.message-node.result.number c.message-node.ensures.links.number some _ _ _ _ c.release.ensures

pub set_next-requires-clause-there : goal.set_next-requires-clause-there
set_next-requires-clause-there c =
    let g = goal.at.set_next-requires-clause-there c in
    subst (λ (w : Nodes). IsMsg w.mat (length w.rows) c.message_link-at.result) (sym (given-up g.After-release (named g.After-message-node)).memory) (here g.After-message-node).0

freed : (c : After-note) → IsHere c.self.inside.memory c.self.inside.ledger.roster c.message_link-at.result
    → let t = c.self.inside in Released t.memory c.release.new.memory t.ledger.roster c.release.new.ledger.roster (data_number t.memory.dat c.message-node.result.number) c.release.new.first c.release.new.spare
    → Becomes c.set_next.new.self t.ends c.note.new.self.roster (Some c.message_link-at.result) c.release.new.first (t.spare_m + 1) c.release.new.spare (dropped c.args.self.now (token c.args.message))
freed c here done =
    let t = c.self.inside in let v = t.memory in let b = t.ledger.roster in let is = c.self.invariant.raw in let l = c.message_link-at.result in let e = c.message_link-at.ensures.number ∙ c.name.ensures in
    let number = ap (λ (r : Row). r.number) c.message-node.ensures.row in
    let single = (λ j. length (in_hand (c.self.view_is j) (e j))) ∙ c.requires.single in
    let drops = subst (λ k. Drops v k done.datas c.release.new.first c.release.new.spare done.free_d) number done.drops in
    let memory = c.set_next.ensures ∙ ap (λ (w : Nodes). with_row (msg_number w.mat l) (record (row_at (msg_number w.mat l) w.rows) { next = option_map (msg_number w.mat) t.free_msg }) w) done.memory in
    let roster = c.note.ensures ∙ ap (λ (x : Roster). let i = msg_number x.mat l in record x { free_m = i ∷ x.free_m; hand = without_in i x.hand }) done.roster
    ∙ ap (λ mat. let i = msg_number mat l in record b { free_m = i ∷ b.free_m; free_d = done.free_d; hand = without_in i b.hand }) is.same in
    let raw = given-raw is l here single _ _ _ _ drops in
    let n = data_number v.dat c.message-node.result.number in
    let within : n < length done.datas = subst (λ k. n < k) (sym drops.stock.len) c.message-node.ensures.links.number.0 in
    becomes-as (row-becomes c.self.invariant.listed _ _ _ _ memory roster (wipes-raw raw n within done.left done.wipes) refl (msg_number v.mat l) (here.0).0 _ refl refl refl refl _ (wipes-value raw n within done.left done.wipes ∙ given-value is l here single _ _ _ _ drops) refl)
    (λ j. dropped (c.self.view_is j) (e j))

pub invariant_of-self : goal.invariant_of-self
invariant_of-self c =
    let g = goal.at.invariant_of-self c in let m = g.After-message-node in
    let given = given-up g.After-release (named m) in
    let d = freed g.After-note (here m) given in
    let datas = ap (λ (w : Nodes). w.datas) c.set_next.ensures ∙ ap (λ (w : Nodes). w.datas) given.memory in
    record { raw = d.raw; wiped = subst AreWiped (sym datas) (given.wiped c.self.invariant.wiped); listed = d.listed }

pub returns : goal.returns
returns c = let g = goal.at.returns c in let m = g.After-message-node in (freed g.After-note (here m) (given-up g.After-release (named m))).value
