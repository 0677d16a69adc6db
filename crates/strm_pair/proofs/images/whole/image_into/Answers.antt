-- A sink with nothing in it takes the text of the image.
use Rattle.strm_pair.proofs.Prelude.{◌∙◌, sym, ap, rules}
use Rattle.strm_pair.specs.Prelude.{Second, imaged, image, put}
use Rattle.strm_image.proofs.SinkRows.{count_put, lent_put}
use Rattle.strm_pair.specs.Pairs.{state_in}
use Rattle.strm_pair.proofs.images.whole.image_into.Goals as goal

pub returns-clause-text : goal.returns-clause-text
returns-clause-text g c =
    let text = image.text (Second, imaged (state_in (g.B.Blocks.value c.args.store.now) c.args.streams.now) c.args.fates.now) in
    let name = sym (c.put_behind.ensures.same_reference ∙ c.new-sink.ensures.same_reference) in
    let lent = lent_put text _ _ (c.put_behind.ensures.text ∙ ap (put text) c.new-sink.ensures.nothing) in
    search (rules, name, lent)

pub returns-clause-length : goal.returns-clause-length
returns-clause-length g c =
    let text = image.text (Second, imaged (state_in (g.B.Blocks.value c.args.store.now) c.args.streams.now) c.args.fates.now) in
    c.count.ensures ∙ count_put text _ _ (c.put_behind.ensures.text ∙ ap (put text) c.new-sink.ensures.nothing)
