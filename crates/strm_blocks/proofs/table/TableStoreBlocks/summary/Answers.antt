use Rattle.std.proofs.Common.{arith, ◌∙◌, ap}
use Rattle.strm_blocks.specs.Parts.{lens, summary_in}
use Rattle.strm_blocks.proofs.Found as found
use Rattle.strm_blocks.proofs.Peeks.{held-few, summed-value}
use Rattle.strm_blocks.proofs.table.TableStoreBlocks.summary.Goals as goal

pub blocks_of-requires : goal.blocks_of-requires
blocks_of-requires c = found.within c.self.inside c.self.view_is c.args.message.now.name c.requires

pub summary_at-requires : goal.summary_at-requires
summary_at-requires c =
    let few = held-few c.self.inside c.self.view_is c.self.invariant c.args.message.now.name c.requires in
    let same = ap lens c.blocks_of.ensures in
    omega arith

pub returns : goal.returns
returns c =
    c.summary_at.ensures ∙ ap summary_in c.blocks_of.ensures ∙ summed-value c.self.inside c.self.view_is c.self.invariant c.args.message.now.name c.requires c.audit.ensures.sized
