-- Each pair has an image, and 64 bits hold how long it is.
use Rattle.strm_pair.proofs.Prelude.{◌≡◌, ◌≤◌, arith, length, subst, true, image_fits}
use Rattle.strm_pair.specs.Prelude.{Second, imaged, image, PairState}
use Rattle.strm_image.specs.Sinks.{most_counted}
use Rattle.strm_pair.specs.BaseTexts.{start_in}
use Rattle.strm_laws.specs.Known.{all_known}
use Rattle.strm_pair.specs.Pairs.{state_in}
use Rattle.strm_pair.proofs.BaseRows.{image-room}
use Rattle.strm_pair.proofs.PairImages.{has-image}
use Rattle.strm_pair.proofs.pair.Pair.image_into.Goals as goal

pub returns-clause-length : goal.returns-clause-length
returns-clause-length g c =
    let K = g.M.Behaves.does in
    let p = c.self.inside in
    let s = g.B.Blocks.value p.store in
    let kept = c.self.invariant.kept in
    let room = image-room K s p.streams p.journal (start_in p.base) p.limits p.fates kept c.audit.ensures c.know_fates.ensures (c.know_streams.ensures s) in
    let few : length (image.text (Second, imaged (state_in s p.streams) p.fates)) ≤ most_counted = omega (arith, room, c.audit.ensures.few_mblks, kept.mblks) in
    subst (λ (v : PairState). c.image_into.result ≡ length (image.text (Second, imaged v.state v.fates))) c.self.view_is (omega (arith, few, c.image_into.ensures.length))

pub returns-clause-fits : goal.returns-clause-fits
returns-clause-fits g c =
    let K = g.M.Behaves.does in
    let p = c.self.inside in
    let s = g.B.Blocks.value p.store in
    let has = has-image K s p.streams p.journal (start_in p.base) p.limits p.fates c.self.invariant.kept c.audit.ensures c.know_fates.ensures (c.know_streams.ensures s) in
    subst (λ (v : PairState). image.fits (Second, imaged v.state v.fates) ≡ true) c.self.view_is (image_fits (imaged (state_in s p.streams) p.fates) has)

pub returns-clause-known : goal.returns-clause-known
returns-clause-known g c =
    let K = g.M.Behaves.does in
    subst (λ (v : PairState). all_known K v.state ≡ true) c.self.view_is c.self.invariant.kept.known
