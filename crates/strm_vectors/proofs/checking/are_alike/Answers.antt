use Rattle.std.proofs.Common.{sym, subst}
use Rattle.strm_image.specs.declared.versions.Version.TheVariants.{Second}
use Rattle.strm_image.specs.Format.{IsTextOf}
use Rattle.strm_image.specs.Image.{image}
use Rattle.strm_vectors.proofs.PairRows.{on_ok, one_state}
use Rattle.strm_vectors.proofs.checking.are_alike.Goals as goal

pub returns : goal.returns
returns g c =
    let y = c.in_ok-found.ensures in
    let same = subst (λ t. IsTextOf image t (Second, y.0)) (sym c.as_slice.ensures.value) y.1.1.text_of in
    on_ok c.agrees.result _ _ (λ found. one_state _ _ _ _ y.0 y.1.0 same found) c.agrees.ensures
