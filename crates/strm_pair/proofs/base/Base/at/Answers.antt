-- Its text is the image, and tells where it stands.
use Rattle.std.proofs.Common.{ap, ◌∙◌}
use Rattle.strm_pair.specs.BaseTexts.{begun_at}
use Rattle.strm_pair.specs.Pairs.{state_in}
use Rattle.strm_pair.proofs.BaseRows.{start-told}
use Rattle.strm_pair.proofs.base.Base.at.Goals as goal

pub returns-clause-start : goal.returns-clause-start
returns-clause-start g c =
    let s = state_in (g.B.Blocks.value c.args.store.now) c.args.streams.now in
    start-told _ s c.args.fates.now c.requires.has c.made_of.ensures c.text_of.ensures.text ∙ ap (λ past. begun_at s c.args.fates.now past) c.none.ensures
