use Rattle.std.proofs.Common.{ℕ, ◌-◌, length, refl, sym, ap, ◌∙◌, arith, subst}
use Rattle.std.proofs.Math.ListN.{set}
use Rattle.std.specs.Prelude.{None, Option, option_map}
use Rattle.strm_blocks.specs.Blocks.{StoreValue}
use Rattle.strm_raw.specs.Lists.{PoppedBy, Ties, Unseats, along}
use Rattle.strm_raw.specs.Numbered.{IsMsgOrNone, Nodes, Row, msg_number}
use Rattle.strm_raw.specs.declared.neighbours.Ends.{Ends}
use Rattle.strm_raw.specs.declared.neighbours.KeptEnds.{KeptEnds}
use Rattle.strm_raw.specs.declared.msg_nodes.MsgLink.{MsgLink}
use Rattle.strm_raw.proofs.Becoming.{Becomes}
use Rattle.strm_raw.proofs.Popping.{nothing-there, sides-are, some-there, taken-end}
use Rattle.strm_raw.specs.Wiped.{AreWiped}
use Rattle.strm_raw.proofs.raw.RawStore.take_end.Goals as goal
use Rattle.strm_raw.proofs.raw.RawStore.take_end.Goals.{After-note}

pub returns-in_default : goal.returns-in_default
returns-in_default c = record {
  none = nothing-there c.self.invariant.raw c.self.invariant.listed c.self.view_is c.args.list c.args.course (ap (λ (e : Ends). along c.args.course c.self.inside.memory e None) (sym c.open-ends.ensures) ∙ sym c.beside.ensures.step ∙ ap (λ (o : Option MsgLink). option_map (msg_number c.self.inside.memory.mat) o) c.in_default.is);
  same = refl;
}

pub bypass-requires-clause-some : goal.bypass-requires-clause-some
bypass-requires-clause-some c = omega (arith, ap (λ (e : Ends). e.count) c.open-ends.ensures, some-there c.self.invariant.raw c.self.invariant.listed c.self.view_is c.args.list c.args.course _ (ap (λ (e : Ends). along c.args.course c.self.inside.memory e None) (sym c.open-ends.ensures) ∙ sym c.beside.ensures.step ∙ ap (λ (o : Option MsgLink). option_map (msg_number c.self.inside.memory.mat) o) c.in-Some.is))

unseats : (c : After-note) → let t = c.self.inside in Unseats t.memory c.bypass.new.memory t.ends (set t.ends c.args.list c.keep.result) t.ledger.roster c.note.new.self.roster c.args.list c.in-Some.at
unseats c =
    let t = c.self.inside in let v = t.memory in let k = c.args.list in let listed = c.self.invariant.listed in
    let there = ap (λ (e : Ends). along c.args.course v e None) (sym c.open-ends.ensures) ∙ sym c.beside.ensures.step ∙ ap (λ (o : Option MsgLink). option_map (msg_number v.mat) o) c.in-Some.is in
    let row = c.message-node.ensures.row in
    let sides = sides-are c.self.invariant.raw listed c.self.view_is k c.args.course _ there c.pick-before.result c.pick-after.result _ _ c.pick-before.ensures c.pick-after.ensures
    (ap (λ (r : Row). r.ahead) row) (ap (λ (r : Row). r.behind) row) in
    record {
      after = c.bypass.new.ends;
      nodes = c.bypass.ensures.nodes;
      tied = subst (λ (x : Ends × Option ℕ × Option ℕ). Ties v.mat v.rows c.bypass.new.memory.rows x.0 c.bypass.new.ends x.1 x.2) (λ j. (c.open-ends.ensures j, sides.0 j, sides.1 j)) c.bypass.ensures.tied;
      count = c.bypass.ensures.count ∙ ap (λ (e : Ends). e.count - 1) c.open-ends.ensures;
      first = c.bypass.ensures.first (subst (λ (e : Ends). IsMsgOrNone v.mat (length v.rows) e.first) (sym c.open-ends.ensures) (listed.first k));
      last = c.bypass.ensures.last (subst (λ (e : Ends). IsMsgOrNone v.mat (length v.rows) e.last) (sym c.open-ends.ensures) (listed.last k));
      ends_are = ap (λ (e : KeptEnds). set t.ends k e) c.keep.ensures;
      roster_is = c.note.ensures;
    }

done : (c : After-note) → let t = c.self.inside in
    (s : StoreValue) × (Becomes c.bypass.new.memory (set t.ends c.args.list c.keep.result) c.note.new.self.roster t.free_msg t.free_data t.spare_m t.spare_d s × PoppedBy c.args.course c.args.self.now s c.args.list (msg_number t.memory.mat c.in-Some.at))
done c = taken-end c.self.invariant.raw c.self.invariant.listed c.self.view_is c.args.list c.requires c.in-Some.at (unseats c) c.args.course (ap (λ (e : Ends). along c.args.course c.self.inside.memory e None) (sym c.open-ends.ensures) ∙ sym c.beside.ensures.step ∙ ap (λ (o : Option MsgLink). option_map (msg_number c.self.inside.memory.mat) o) c.in-Some.is)

pub invariant_of-self : goal.invariant_of-self
invariant_of-self c = let d = (done (goal.at.invariant_of-self c).After-note).1.0 in record { raw = d.raw; wiped = subst AreWiped (sym (ap (λ (w : Nodes). w.datas) c.bypass.ensures.nodes)) c.self.invariant.wiped; listed = d.listed }

pub returns : goal.returns
returns c =
    let d = done (goal.at.returns c).After-note in
    subst (λ (x : StoreValue × ℕ). PoppedBy c.args.course c.args.self.now x.0 c.args.list x.1) (λ j. (sym d.1.0.value j, sym (c.of.ensures ∙ c.message-node.ensures.name) j)) d.1.1
