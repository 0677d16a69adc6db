use Rattle.std.proofs.Common.{refl}
use Rattle.strm_blocks.proofs.Stores.{IsStore-value}
use Rattle.strm_blocks.proofs.table.TableStoreBlocks.audit.Goals as goal

pub returns : goal.returns
returns c =
    let t = c.self.inside in
    rw (← c.self.view_is) (IsStore-value t.data.bytes t.lists t.hand t.mblks _ t.idle t.spare t.data.references c.self.invariant refl c.audit.ensures.few c.audit.ensures.bounded)
