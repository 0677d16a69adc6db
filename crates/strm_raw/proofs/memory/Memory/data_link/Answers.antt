use Rattle.std.proofs.Common.{◌≡◌, ◌<◌, length, sym, ap, subst, ◌∙◌}
use denote.RawPtr.{InBlock}
use Rattle.strm_raw.specs.Links.{place}
use Rattle.strm_raw.specs.DataNodes as data_blocks
use Rattle.strm_raw.specs.Numbered.{Nodes, IsData, data_number}
use Rattle.strm_raw.proofs.Placed.{place-is, number-is, data-sized}
use Rattle.strm_raw.proofs.memory.Memory.data_link.Goals as goal

pub returns-clause-there : goal.returns-clause-there
returns-clause-there c =
    let within = subst (λ (v : Nodes). c.args.index < length v.datas) (sym c.self.view_is) c.requires in
    let place = c.place_of.ensures.place ∙ ap (λ p. place data_blocks.node_size p c.args.index) c.as_ptr.ensures in
    subst (λ (v : Nodes). IsData v.dat (length v.datas) (record { at = c.place_of.result })) c.self.view_is
    (place-is data_blocks.node_size data-sized _ c.place_of.result c.args.index _ place (subst InBlock c.as_ptr.ensures c.place_of.ensures.block) within)

pub returns-clause-number : goal.returns-clause-number
returns-clause-number c =
    let within = subst (λ (v : Nodes). c.args.index < length v.datas) (sym c.self.view_is) c.requires in
    let place = c.place_of.ensures.place ∙ ap (λ p. place data_blocks.node_size p c.args.index) c.as_ptr.ensures in
    subst (λ (v : Nodes). data_number v.dat (record { at = c.place_of.result }) ≡ c.args.index) c.self.view_is
    (number-is data_blocks.node_size data-sized _ c.place_of.result c.args.index _ place (subst InBlock c.as_ptr.ensures c.place_of.ensures.block) within)
