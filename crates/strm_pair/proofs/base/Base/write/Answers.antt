-- Its text is the image, and tells where it stands.
use Rattle.strm_pair.specs.Pairs.{state_in}
use Rattle.strm_pair.proofs.BaseRows.{start-told}
use Rattle.strm_pair.proofs.base.Base.write.Goals as goal

pub returns-clause-start : goal.returns-clause-start
returns-clause-start g c = start-told _ (state_in (g.B.Blocks.value c.args.store.now) c.args.streams.now) c.args.fates.now c.requires.has c.made_of-self.ensures c.text_of.ensures.text
