use Rattle.std.proofs.Common.{◌∙◌, sym, ap, refl}
use Rattle.strm_blocks.specs.Blocks.{StoreValue, free_m, free_d}
use Rattle.strm_blocks.proofs.Stores.{free_m-value, free_d-value}
use Rattle.strm_blocks.proofs.table.TableStoreBlocks.free_blocks.Goals as goal

pub returns-clause-message_blocks : goal.returns-clause-message_blocks
returns-clause-message_blocks c =
    let t = c.self.inside in
    let free = free_m-value t.data.bytes t.lists t.hand t.mblks _ t.idle t.spare t.data.references c.self.invariant in
    c.len.ensures.value ∙ sym free ∙ ap (λ (s : StoreValue). free_m s) c.self.view_is

pub returns-clause-data_blocks : goal.returns-clause-data_blocks
returns-clause-data_blocks c =
    let t = c.self.inside in
    let free = free_d-value t.data.bytes t.lists t.hand t.mblks _ t.idle t.spare t.data.references c.self.invariant refl in
    c.free_count.ensures ∙ sym free ∙ ap (λ (s : StoreValue). free_d s) c.self.view_is
