use Rattle.std.proofs.Common.{◌∙◌, sym, ap}
use Rattle.strm_blocks.specs.Blocks.{StoreValue, free_m, free_d}
use Rattle.strm_raw.proofs.Standing.{free_m-value, free_d-value}
use Rattle.strm_raw.proofs.store.RawStoreBlocks.free_blocks.Goals as goal

pub returns-clause-message_blocks : goal.returns-clause-message_blocks
returns-clause-message_blocks c = let t = c.self.inside in sym (free_m-value t.memory t.ledger.roster c.self.invariant.raw) ∙ ap (λ (s : StoreValue). free_m s) c.self.view_is

pub returns-clause-data_blocks : goal.returns-clause-data_blocks
returns-clause-data_blocks c = let t = c.self.inside in sym (free_d-value t.memory t.ledger.roster c.self.invariant.raw) ∙ ap (λ (s : StoreValue). free_d s) c.self.view_is
