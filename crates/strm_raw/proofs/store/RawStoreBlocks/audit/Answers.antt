use Rattle.std.proofs.Common.{subst}
use Rattle.strm_blocks.specs.Blocks.{StoreValue, IsStore}
use Rattle.strm_raw.proofs.Sound.{store-holds}
use Rattle.strm_raw.proofs.store.RawStoreBlocks.audit.Goals as goal

pub returns : goal.returns
returns c = subst (λ (s : StoreValue). IsStore s) c.self.view_is (store-holds c.self.invariant.raw c.self.invariant.listed)
