use Rattle.std.proofs.Common.{ℕ, ◌≡◌, subst, sym, ap, ◌∙◌}
use Rattle.strm_raw.specs.Numbered.{Nodes, Fits, IsRow, with_row, row_of, msg_number}
use Rattle.strm_raw.proofs.Numbered.{msgs_of, datas_of, msgs-len, datas-len, row-set, row-set-value}
use Rattle.strm_raw.proofs.memory.Memory.set_message.Goals as goal

pub invariant_of-self : goal.invariant_of-self
invariant_of-self c =
    let ms = msgs_of c.self.inside.msgs in let ds = datas_of c.self.inside.datas in let is = c.self.invariant in
    let fits = subst (λ (v : Nodes). Fits v c.args.node) (sym c.self.view_is) c.requires.links in
    row-set ms ds is _ c.args.node (subst (λ (k : ℕ × ℕ). IsRow ms.at ds.at k.0 k.1 c.args.node) (λ j. (msgs-len ms ds is j, datas-len ms ds is j)) fits) (subst (λ (v : Nodes). c.args.node.name ≡ msg_number v.mat c.args.at) (sym c.self.view_is) c.requires.name)

pub returns : goal.returns
returns c =
    let ms = msgs_of c.self.inside.msgs in let ds = datas_of c.self.inside.datas in let is = c.self.invariant in
    row-set-value ms ds is _ c.args.node ∙ ap (λ (v : Nodes). with_row (msg_number v.mat c.args.at) (row_of v.mat v.dat c.args.node) v) c.self.view_is
