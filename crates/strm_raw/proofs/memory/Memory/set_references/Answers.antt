use Rattle.std.proofs.Common.{sym, ap, ◌∙◌}
use Rattle.strm_raw.specs.Numbered.{Nodes, with_data, data_of, data_number, data_at, no_data, nodes_of, DataRow}
use Rattle.strm_raw.specs.declared.data_nodes.DataNode.{DataNode}
use Rattle.strm_raw.proofs.Numbered.{msgs_of, datas_of, data-set, data-set-value, map-at}
use Rattle.strm_raw.proofs.memory.Memory.set_references.Goals as goal

pub invariant_of-self : goal.invariant_of-self
invariant_of-self c =
    let ms = msgs_of c.self.inside.msgs in let ds = datas_of c.self.inside.datas in let is = c.self.invariant in
    data-set ms ds is _ _ (is.datas _ _ c.reach_mut-node.ensures.value) (is.sized _ _ c.reach_mut-node.ensures.value)

pub returns : goal.returns
returns c =
    let ms = msgs_of c.self.inside.msgs in let ds = datas_of c.self.inside.datas in let is = c.self.invariant in
    let i = data_number ds.at c.args.at in
    let node : DataNode = record c.reach_mut-node.result.now { references = c.args.references } in
    let before = map-at (data_of ds.at) ds.items i c.reach_mut-node.result.now no_data c.reach_mut-node.ensures.value in
    data-set-value ms ds is i node
    ∙ ap (λ (r : DataRow). with_data i (record r { references = c.args.references }) (nodes_of ms ds)) (sym before)
    ∙ ap (λ (v : Nodes). with_data (data_number v.dat c.args.at) (record (data_at (data_number v.dat c.args.at) v.datas) { references = c.args.references }) v) c.self.view_is
