-- What making a pair of an image does at a handle.
use Rattle.std.specs.Prelude.{ℕ, ◌≡◌, ◌≢◌, Bool, true, false, List, Option, None, Some, IsSomeAnd}
use Rattle.strm_laws.proofs.NoOwn.{none as no_own}
use Rattle.strm_laws.specs.Refusals.{enough}
use Rattle.strm_image.specs.Image.{Imaged}
use Rattle.strm_pair.specs.Restored.{IsImageFor, IsNoImage, image_blocks, restored}
use Rattle.strm_handle.specs.declared.choices.Choices.{Choices}
use Rattle.strm_handle.specs.Kept.{KeptPair, are_fit, kept_by, sizes_of}

-- A pair of a text, or its number's refusal and a closed handle: EINVAL for a text that is no image without modules of a
-- user's own, ENOSR where its messages take more blocks.
pub record RestoresOf (c : Choices) (text : List ℕ) (new : Option KeptPair) (n : ℕ) : Type 0 where
  pub done : n ≡ 0 → IsSomeAnd new (λ k. (x : Imaged) × (IsImageFor no_own text x × (k ≡ kept_by c (restored (sizes_of c) x))))
  pub closed : n ≢ 0 → new ≡ None
  pub einval : n ≡ 1 → IsNoImage no_own text
  pub enosr : n ≡ 5 → (x : Imaged) × (IsImageFor no_own text x × (enough (image_blocks x) (record { mblks = c.blocks; dblks = c.blocks }) ≡ false))
  pub others : n ≢ 0 → n ≢ 1 → n ≢ 5 → n ≡ 9

abbrev pub restores_where : Bool → Choices → List ℕ → Option KeptPair → ℕ → Type 0
restores_where true c text new n = RestoresOf c text new n
restores_where false c text new n = (n ≡ 1) × (new ≡ None)

-- At a handle: EINVAL, which changes nothing, for an open one and for choices that don't fit.
abbrev pub Restores : Choices → List ℕ → Option KeptPair → Option KeptPair → ℕ → Type 0
Restores c text (Some k) new n = (n ≡ 1) × (new ≡ Some k)
Restores c text None new n = restores_where (are_fit c) c text new n
