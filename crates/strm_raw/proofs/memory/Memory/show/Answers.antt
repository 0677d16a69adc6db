use Rattle.std.proofs.Common.{length, refl, subst, sym, ap, ◌∙◌}
use Rattle.std.specs.Prelude.{None}
use Rattle.strm_raw.specs.Numbered.{Nodes, IsData, with_row, row_at, msg_number, showing}
use Rattle.strm_raw.specs.declared.msg_nodes.MsgNode.{MsgNode}
use Rattle.strm_raw.proofs.Numbered.{msgs_of, datas_of, datas-len, row-kept, row-edited}
use Rattle.strm_raw.proofs.memory.Memory.show.Goals as goal

pub invariant_of-self : goal.invariant_of-self
invariant_of-self c =
    let ms = msgs_of c.self.inside.msgs in let ds = datas_of c.self.inside.datas in let is = c.self.invariant in
    let there = c.reach_mut-node.ensures.value in let had = is.rows _ c.reach_mut-node.result.now there in
    let number = subst (λ (v : Nodes). IsData v.dat (length v.datas) c.args.shows.number) (sym c.self.view_is) c.requires.data in
    let node : MsgNode = record c.reach_mut-node.result.now { kind = c.args.shows.kind; band = c.args.shows.band; number = c.args.shows.number; start = c.args.shows.start; end = c.args.shows.end; next = None } in
    row-kept ms ds is _ _ there node refl (record { number = subst (λ k. IsData ds.at k c.args.shows.number) (datas-len ms ds is) number; next = tt; ahead = had.ahead; behind = had.behind })

pub returns : goal.returns
returns c =
    let ms = msgs_of c.self.inside.msgs in let ds = datas_of c.self.inside.datas in let is = c.self.invariant in
    let node : MsgNode = record c.reach_mut-node.result.now { kind = c.args.shows.kind; band = c.args.shows.band; number = c.args.shows.number; start = c.args.shows.start; end = c.args.shows.end; next = None } in
    row-edited ms ds is _ _ c.reach_mut-node.ensures.value node refl (showing ds.at c.args.shows) refl
    ∙ ap (λ (v : Nodes). with_row (msg_number v.mat c.args.at) (showing v.dat c.args.shows (row_at (msg_number v.mat c.args.at) v.rows)) v) c.self.view_is
