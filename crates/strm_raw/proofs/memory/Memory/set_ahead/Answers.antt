use Rattle.std.proofs.Common.{length, refl, subst, sym, ap, ◌∙◌}
use Rattle.std.specs.Prelude.{option_map}
use Rattle.strm_raw.specs.Numbered.{Nodes, Row, IsMsgOrNone, with_row, row_at, msg_number}
use Rattle.strm_raw.proofs.Numbered.{msgs_of, datas_of, msgs-len, row-kept, row-edited}
use Rattle.strm_raw.proofs.memory.Memory.set_ahead.Goals as goal

pub invariant_of-self : goal.invariant_of-self
invariant_of-self c =
    let ms = msgs_of c.self.inside.msgs in let ds = datas_of c.self.inside.datas in let is = c.self.invariant in
    let there = c.reach_mut-node.ensures.value in let had = is.rows _ c.reach_mut-node.result.now there in
    let to = subst (λ (v : Nodes). IsMsgOrNone v.mat (length v.rows) c.args.to) (sym c.self.view_is) c.requires.link in
    row-kept ms ds is _ _ there (record c.reach_mut-node.result.now { ahead = c.args.to }) refl (record { number = had.number; next = had.next; ahead = (subst (λ k. IsMsgOrNone ms.at k c.args.to) (msgs-len ms ds is) to); behind = had.behind })

pub returns : goal.returns
returns c =
    let ms = msgs_of c.self.inside.msgs in let ds = datas_of c.self.inside.datas in let is = c.self.invariant in
    row-edited ms ds is _ _ c.reach_mut-node.ensures.value (record c.reach_mut-node.result.now { ahead = c.args.to }) refl (λ (r : Row). record r { ahead = option_map (msg_number ms.at) c.args.to }) refl
    ∙ ap (λ (v : Nodes). with_row (msg_number v.mat c.args.at) (record (row_at (msg_number v.mat c.args.at) v.rows) { ahead = option_map (msg_number v.mat) c.args.to }) v) c.self.view_is
