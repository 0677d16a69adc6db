-- What is read is an image's text, and what isn't read is none's.
use Rattle.strm_image.proofs.Prelude.{◌≡◌, true, List, ℕ, Option, Some, None, ap, sym, ◌∙◌, [], append-nil}
use Rattle.std.specs.Prelude.{IfSome, IfNone}
use Rattle.strm_image.specs.declared.versions.Version.{Version}
use Rattle.strm_image.specs.Format.{IsBytes, IsTextOf, Reads, whole}
use Rattle.strm_image.specs.Image.{Imaged, image}
use Rattle.strm_image.proofs.Formats.{one_text, unwhole, whole_takes}
use Rattle.strm_image.proofs.ImageRows.{image_exact}

pub image_found : {R : Type 0} (view : R → Version × Imaged) (result : Option R) (bytes : List ℕ) → IsBytes bytes → Reads view result (whole image bytes) → IfSome result (λ i. IsTextOf image bytes (view i))
image_found view None bytes h read = tt
image_found view (Some i) bytes h read = whole_takes image image_exact bytes (view i) h read

pub image_none : {R : Type 0} (view : R → Version × Imaged) (result : Option R) (bytes : List ℕ) → Reads view result (whole image bytes) → IfNone result ((v : Version) (x : Imaged) → IsTextOf image bytes (v, x) → ⊥)
image_none view None bytes read = λ v x is. unwhole image image_exact bytes (v, x) read is
image_none view (Some i) bytes read = tt

pub same_images : (v w : Version) (x y : Imaged) → image.fits (v, x) ≡ true → image.fits (w, y) ≡ true → image.text (v, x) ≡ image.text (w, y) → (v ≡ w) × (x ≡ y)
same_images v w x y a b e =
    let same = one_text image image_exact (v, x) (w, y) [] [] a b (append-nil (image.text (v, x)) ∙ e ∙ sym (append-nil (image.text (w, y)))) in
    (ap (λ (p : Version × Imaged). p.0) same.0, ap (λ (p : Version × Imaged). p.1) same.0)
