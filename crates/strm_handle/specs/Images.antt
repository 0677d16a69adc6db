-- What handing an image out does.
use Rattle.std.specs.Prelude.{ℕ, ◌≡◌, ◌++◌, Bool, true, false, nat_le, List, length, drop, Option, None, Some}
use Rattle.strm_laws.specs.Pair.{PairState}
use Rattle.strm_image.specs.HasImage.{imaged}
use Rattle.strm_image.specs.Image.{image}
use Rattle.strm_image.specs.declared.versions.Version.TheVariants.{Second}
use Rattle.strm_handle.specs.Kept.{KeptPair}

-- the image of a pair, in version 2
abbrev pub image_of : PairState → List ℕ
image_of p = image.text (Second, imaged p.state p.fates)

-- At a pair it stands at the front of the buffer, behind which that stays; or the buffer is too small, and stays. How long it is is told.
abbrev pub text_into : Bool → List ℕ → ℕ → (before out : List ℕ) → ℕ → Type 0
text_into true text told before out n = (n ≡ 0) × ((told ≡ length text) × (out ≡ text ++ drop (length text) before))
text_into false text told before out n = (n ≡ 1) × ((told ≡ length text) × (out ≡ before))

abbrev pub ImageInto : List ℕ → ℕ → (before out : List ℕ) → ℕ → Type 0
ImageInto text told before out n = text_into (nat_le (length text) (length before)) text told before out n

-- At a handle, whose pair stays; EINVAL for a closed one.
abbrev pub Images : Option KeptPair → (was told : ℕ) → (before out : List ℕ) → ℕ → Type 0
Images None was told before out n = (n ≡ 1) × ((told ≡ was) × (out ≡ before))
Images (Some k) was told before out n = ImageInto (image_of k.pair) told before out n
