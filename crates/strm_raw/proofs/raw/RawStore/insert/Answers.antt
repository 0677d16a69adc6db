use Rattle.std.proofs.Common.{List, length, sym, ap, ◌∙◌, arith, subst}
use Rattle.std.proofs.Math.ListN.{set}
use Rattle.std.specs.Prelude.{option_map}
use Rattle.strm_blocks.specs.Blocks.{token, in_hand, list_at, dropped, placed, rank_of}
use Rattle.strm_raw.specs.Numbered.{IsMsgOrNone, Nodes, Row, msg_number}
use Rattle.strm_raw.specs.Roster.{Msg}
use Rattle.strm_raw.specs.Lists.{IsList, Seats, along, ends_at, seated}
use Rattle.strm_raw.specs.declared.neighbours.Ends.{Ends}
use Rattle.strm_raw.specs.declared.neighbours.KeptEnds.{KeptEnds}
use Rattle.strm_raw.specs.Places.{put_by, rank_by}
use Rattle.strm_raw.specs.declared.msg_nodes.MsgLink.{MsgLink}
use Rattle.strm_raw.proofs.Finding as finding
use Rattle.strm_raw.proofs.Becoming.{Becomes, becomes-as}
use Rattle.strm_raw.proofs.Inserting.{count-few, inserted}
use Rattle.strm_raw.specs.Wiped.{AreWiped}
use Rattle.strm_raw.proofs.raw.RawStore.insert.Goals as goal
use Rattle.strm_raw.proofs.raw.RawStore.insert.Goals.{After-note}

pub message_link-at-requires : goal.message_link-at-requires
message_link-at-requires c = finding.token-below c.self.invariant.raw _ c.self.view_is (token c.args.message) _ c.name.ensures c.requires.in_hand

pub seat-requires-clause-few : goal.seat-requires-clause-few
seat-requires-clause-few c = omega (arith, count-few c.self.invariant.raw c.self.invariant.listed c.args.list, ap (λ (e : Ends). e.count) c.open-ends.ensures)

done : (c : After-note) → let t = c.self.inside in let s = c.args.self.now in let n = token c.args.message in let k = c.args.list in
    Becomes c.seat.new.memory (set t.ends k c.keep.result) c.note.new.self.roster t.free_msg t.free_data t.spare_m t.spare_d (placed (dropped s n) k (put_by c.args.course rank_of (in_hand s n) (list_at s k)))
done c =
    let t = c.self.inside in let v = t.memory in let b = t.ledger.roster in let is = c.self.invariant.raw in let listed = c.self.invariant.listed in let l = c.message_link-at.result in let n = token c.args.message in let k = c.args.list in
    let here = finding.here-by v b _ c.self.view_is l n _ c.message_link-at.ensures.there c.message_link-at.ensures.number c.name.ensures c.requires.in_hand in
    let rank = c.rank_of-rank.ensures ∙ ap (λ (r : Row). rank_by r.kind r.band) c.message.ensures.row in
    let roster = c.note.ensures ∙ ap (λ (x : MsgLink). seated k c.name-2.result x b) c.unwrap_or-next.ensures in
    let e = c.message_link-at.ensures.number ∙ c.name.ensures in
    let number = msg_number v.mat in
    let seats = subst (λ (e : Ends). Seats v.mat v.rows c.seat.new.memory.rows e c.seat.new.ends (option_map number c.pick-before.result) (number l) (option_map number c.pick-after.result)) c.open-ends.ensures c.seat.ensures.seats in
    let first = c.seat.ensures.first (subst (λ (e : Ends). IsMsgOrNone v.mat (length v.rows) e.first) (sym c.open-ends.ensures) (listed.first k)) in
    let last = c.seat.ensures.last (subst (λ (e : Ends). IsMsgOrNone v.mat (length v.rows) e.last) (sym c.open-ends.ensures) (listed.last k)) in
    let place = λ (q : List Msg) (leads : IsList v (ends_at k t.ends) q). c.ranked-stop.ensures.place q (subst (λ (e : Ends). IsList v e q) (sym c.open-ends.ensures) leads) in
    let step = c.beside-past.ensures.step ∙ ap (λ (e : Ends). along c.pick-other.result v e (option_map number c.ranked-stop.result)) c.open-ends.ensures in
    becomes-as
    (inserted is listed k c.requires.list l here _ rank c.pick-before.result c.pick-after.result c.seat.new.ends seats first last c.seat.ensures.nodes (ap (λ (e : KeptEnds). set t.ends k e) c.keep.ensures)
    _ (c.name-2.ensures ∙ sym e) roster c.args.course c.pick-other.result c.ranked-stop.result c.beside-past.result c.pick-other.ensures c.pick-before.ensures c.pick-after.ensures place step)
    (λ j. placed (dropped (c.self.view_is j) (e j)) k (put_by c.args.course rank_of (in_hand (c.self.view_is j) (e j)) (list_at (c.self.view_is j) k)))

pub invariant_of-self : goal.invariant_of-self
invariant_of-self c = let d = done (goal.at.invariant_of-self c).After-note in record { raw = d.raw; wiped = subst AreWiped (sym (ap (λ (w : Nodes). w.datas) c.seat.ensures.nodes)) c.self.invariant.wiped; listed = d.listed }

pub returns : goal.returns
returns c = (done (goal.at.returns c).After-note).value
