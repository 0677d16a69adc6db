use Rattle.std.proofs.Common.{ap, ◌∙◌}
use Rattle.strm_blocks.specs.Blocks.{token, in_hand, changed}
use Rattle.strm_blocks.proofs.Edits.{banded-is}
use Rattle.strm_raw.proofs.Finding.{first-within}
use Rattle.strm_raw.proofs.store.RawStoreBlocks.set_band.Goals as goal

pub change-requires-clause-within : goal.change-requires-clause-within
change-requires-clause-within c = first-within c.self.invariant.raw c.self.view_is (token c.args.message.now) c.requires

pub returns : goal.returns
returns c = let n = token c.args.message.now in c.change.ensures ∙ ap (λ chain. changed c.args.self.now n chain) (banded-is c.args.band.0 (in_hand c.args.self.now n))
