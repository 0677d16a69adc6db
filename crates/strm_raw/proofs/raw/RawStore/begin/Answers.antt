use Rattle.std.proofs.Common.{[], ◌∷◌, List, length, refl, sym, ap, ◌∙◌, arith, subst}
use Rattle.std.proofs.Math.ListN.{set}
use Rattle.std.specs.Prelude.{None}
use Rattle.strm_blocks.specs.Blocks.{Block, StoreValue, token, in_hand, list_at, dropped, placed}
use Rattle.strm_raw.proofs.Finding as finding
use Rattle.strm_raw.proofs.Becoming.{Becomes, becomes-as}
use Rattle.strm_raw.proofs.Inserting.{count-few}
use Rattle.strm_raw.proofs.Seating.{put-on, queue-none}
use Rattle.strm_raw.specs.Numbered.{IsMsgOrNone, Nodes, msg_number}
use Rattle.strm_raw.specs.Lists.{Seats}
use Rattle.strm_raw.specs.declared.neighbours.Ends.{Ends}
use Rattle.strm_raw.specs.declared.neighbours.KeptEnds.{KeptEnds}
use Rattle.strm_raw.specs.Wiped.{AreWiped}
use Rattle.strm_raw.proofs.raw.RawStore.begin.Goals as goal
use Rattle.strm_raw.proofs.raw.RawStore.begin.Goals.{After-note}

pub message_link-at-requires : goal.message_link-at-requires
message_link-at-requires c = finding.token-below c.self.invariant.raw _ c.self.view_is (token c.args.message) _ c.name.ensures c.requires.in_hand

pub seat-requires-clause-few : goal.seat-requires-clause-few
seat-requires-clause-few c = omega (arith, count-few c.self.invariant.raw c.self.invariant.listed c.args.list, ap (λ (e : Ends). e.count) c.open-ends.ensures)

done : (c : After-note) → let t = c.self.inside in let s = c.args.self.now in let n = token c.args.message in let k = c.args.list in
    Becomes c.seat.new.memory (set t.ends k c.keep.result) c.note.new.self.roster t.free_msg t.free_data t.spare_m t.spare_d (placed (dropped s n) k (in_hand s n ∷ []))
done c =
    let t = c.self.inside in let v = t.memory in let b = t.ledger.roster in let is = c.self.invariant.raw in let listed = c.self.invariant.listed in let l = c.message_link-at.result in let n = token c.args.message in let k = c.args.list in
    let here = finding.here-by v b _ c.self.view_is l n _ c.message_link-at.ensures.there c.message_link-at.ensures.number c.name.ensures c.requires.in_hand in
    let e = c.message_link-at.ensures.number ∙ c.name.ensures in
    let none = queue-none v b k (ap (λ (s : StoreValue). list_at s k) c.self.view_is ∙ c.requires.none) in
    let chain = ap (λ (chain : List Block). chain ∷ []) (sym (finding.found-chain is l here)) in
    let seats = subst (λ (e : Ends). Seats v.mat v.rows c.seat.new.memory.rows e c.seat.new.ends None (msg_number v.mat l) None) c.open-ends.ensures c.seat.ensures.seats in
    let first = c.seat.ensures.first (subst (λ (e : Ends). IsMsgOrNone v.mat (length v.rows) e.first) (sym c.open-ends.ensures) (listed.first k)) in
    let last = c.seat.ensures.last (subst (λ (e : Ends). IsMsgOrNone v.mat (length v.rows) e.last) (sym c.open-ends.ensures) (listed.last k)) in
    becomes-as
    (put-on is listed k c.requires.list l here [] [] none c.seat.new.ends None None refl refl seats first last c.seat.ensures.nodes (ap (λ (e : KeptEnds). set t.ends k e) c.keep.ensures) None refl
    _ (c.name-2.ensures ∙ sym e) c.note.ensures _ chain (tt, tt))
    (λ j. placed (dropped (c.self.view_is j) (e j)) k (in_hand (c.self.view_is j) (e j) ∷ []))

pub invariant_of-self : goal.invariant_of-self
invariant_of-self c = let d = done (goal.at.invariant_of-self c).After-note in record { raw = d.raw; wiped = subst AreWiped (sym (ap (λ (w : Nodes). w.datas) c.seat.ensures.nodes)) c.self.invariant.wiped; listed = d.listed }

pub returns : goal.returns
returns c = (done (goal.at.returns c).After-note).value
