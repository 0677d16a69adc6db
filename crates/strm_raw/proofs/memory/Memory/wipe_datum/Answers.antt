use Rattle.std.proofs.Common.{length, subst, refl, sym, ap, ◌∙◌}
use Rattle.std.specs.Prelude.{option_map}
use Rattle.strm_raw.specs.Numbered.{Nodes, IsDataOrNone, with_data, data_number, no_bytes}
use Rattle.strm_raw.specs.declared.data_nodes.DataNode.{DataNode}
use Rattle.strm_raw.proofs.Numbered.{msgs_of, datas_of, datas-len, data-set, data-set-value}
use Rattle.strm_raw.proofs.memory.Memory.wipe_datum.Goals as goal

pub invariant_of-self : goal.invariant_of-self
invariant_of-self c =
    let ms = msgs_of c.self.inside.msgs in let ds = datas_of c.self.inside.datas in let is = c.self.invariant in
    let link = subst (λ (v : Nodes). IsDataOrNone v.dat (length v.datas) c.args.next) (sym c.self.view_is) c.requires.link in
    data-set ms ds is _ _ (subst (λ k. IsDataOrNone ds.at k c.args.next) (datas-len ms ds is) link) refl

pub returns : goal.returns
returns c =
    let ms = msgs_of c.self.inside.msgs in let ds = datas_of c.self.inside.datas in let is = c.self.invariant in
    let i = data_number ds.at c.args.at in
    let node : DataNode = record { next = c.args.next; references = 0; bytes = no_bytes } in
    data-set-value ms ds is i node
    ∙ ap (λ (v : Nodes). with_data (data_number v.dat c.args.at) (record { next = option_map (data_number v.dat) c.args.next; references = 0; bytes = no_bytes }) v) c.self.view_is
