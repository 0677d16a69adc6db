use Rattle.std.proofs.Common.{sym, subst}
use Rattle.std.specs.Prelude.{◌≡◌, OnOk}
use Rattle.strm_laws.proofs.NoOwn.{none as no_own}
use Rattle.strm_image.specs.Image.{Imaged}
use Rattle.strm_pair.specs.Restored.{IsImageFor, IsNoImage, image_blocks}
use Rattle.strm_vectors.specs.Told.{Holds}
use Rattle.strm_vectors.proofs.checking.check.Goals as goal

pub returns-in-Bad : goal.returns-in-Bad
returns-in-Bad g c =
    subst (λ v. OnOk c.is_bad.result (Holds v)) (sym c.in-Bad.is) (subst (λ t. OnOk c.is_bad.result (IsNoImage no_own t)) c.as_slice.ensures.value c.is_bad.ensures)

pub returns-in-Image : goal.returns-in-Image
returns-in-Image g c =
    subst (λ v. OnOk c.are_alike.result (Holds v)) (sym c.in-Image.is)
    (subst (λ t. OnOk c.are_alike.result ((x : Imaged) × (IsImageFor no_own t x × (IsImageFor no_own c.in-Image.other.items x × (image_blocks x ≡ c.in-Image.blocks)))))
    c.as_slice-in-Image.ensures.value
    (subst (λ t. OnOk c.are_alike.result ((x : Imaged) × (IsImageFor no_own c.as_slice-in-Image.result.now x × (IsImageFor no_own t x × (image_blocks x ≡ c.in-Image.blocks)))))
    c.as_slice-in-Image-2.ensures.value c.are_alike.ensures))

pub returns-in-Script : goal.returns-in-Script
returns-in-Script g c =
    subst (λ v. OnOk c.is_left.result (Holds v)) (sym c.in-Script.is)
    (subst (λ t. OnOk c.is_left.result ((x : Imaged) × (IsImageFor no_own t x × (image_blocks x ≡ c.in-Script.blocks))))
    c.as_slice-in-Script.ensures.value c.is_left.ensures)

pub returns-in-Untold : goal.returns-in-Untold
returns-in-Untold g c =
    subst (λ v. OnOk c.is_image.result (Holds v)) (sym c.in-Untold.is)
    (subst (λ t. OnOk c.is_image.result ((x : Imaged) × IsImageFor no_own t x)) c.as_slice-in-Untold.ensures.value c.is_image.ensures)
