-- What is restored of an image, and the image of what was restored.
use Rattle.strm_pair.proofs.Prelude.{ℕ, ◌≡◌, List, sym, ap, ◌∙◌, Result, Ok, Err, same_images}
use Rattle.strm_pair.specs.Prelude.{Config, PairState, Second, IsTextOf, imaged, Imaged, image, Behaviour}
use Rattle.std.specs.Prelude.{IfOk}
use Rattle.strm_image.specs.HasImage.{counts_of}
use Rattle.strm_pair.specs.Restored.{IsImageFor, IsImageOf, restored}

pub same-image : (bytes : List ℕ) (x y : Imaged) → IsImageOf bytes x → IsImageOf bytes y → x ≡ y
same-image bytes x y a b = (same_images a.0 b.0 x y a.1.0 b.1.0 (sym a.1.1 ∙ b.1.1)).1

module _ (K : Behaviour) (bytes : List ℕ) (limits : Config) where
  -- a pair that was made of the bytes
  abbrev Was : PairState → Type 0
  Was p = (x : Imaged) × (IsImageFor K bytes x × (p ≡ restored limits x))

  module _ (x : Imaged) (is : IsImageOf bytes x) where
    pub state-back : {E : Type 0} (r : Result PairState E) → IfOk r Was → IfOk r (λ p. p.state ≡ x.state)
    state-back (Ok p) was = ap (λ (q : PairState). q.state) was.1.1 ∙ ap (λ (y : Imaged). y.state) (same-image bytes was.0 x was.1.0.image is)
    state-back (Err e) was = tt

    pub gone-back : {E : Type 0} (r : Result PairState E) → IfOk r Was → IfOk r (λ p. counts_of p.fates ≡ x.fates)
    gone-back (Ok p) was =
        ap (λ (q : PairState). counts_of q.fates) was.1.1 ∙ ap (λ (y : Imaged). y.fates) (same-image bytes was.0 x was.1.0.image is)
    gone-back (Err e) was = tt

  pub image-back : (x : Imaged) (p : PairState) → IsTextOf image bytes (Second, x) → Was p → image.text (Second, imaged p.state p.fates) ≡ bytes
  image-back x p is was =
      ap (λ (q : PairState). image.text (Second, imaged q.state q.fates)) was.1.1
      ∙ ap (λ (y : Imaged). image.text (Second, y)) (same-image bytes was.0 x was.1.0.image (Second, is))
      ∙ sym is.1
