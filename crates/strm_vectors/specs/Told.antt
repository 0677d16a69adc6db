-- What the lines tell of images, and what holds where the program says so.
use Rattle.std.specs.Prelude.{◌≡◌, ◌≤◌, ◌-◌, ℕ, List}
use Rattle.strm_laws.proofs.NoOwn.{none as no_own}
use Rattle.strm_laws.specs.Pair.{PairState}
use Rattle.strm_image.specs.declared.versions.Version.TheVariants.{Second}
use Rattle.strm_image.specs.Format.{IsTextOf}
use Rattle.strm_image.specs.Image.{Imaged, image}
use Rattle.strm_image.specs.HasImage.{imaged}
use Rattle.strm_pair.specs.Restored.{IsImageFor, IsNoImage, image_blocks}
use Rattle.strm_vectors.specs.declared.vectors.Vector.{Vector}
use Rattle.strm_vectors.specs.declared.vectors.Vector.TheVariants as vectors

-- a pair over so many blocks that stands for an image: it has its state and what had gone, and all blocks but those of its messages are free
pub record IsPairOf (x : Imaged) (mblks dblks : ℕ) (p : PairState) : Type 0 where
  pub same : imaged p.state p.fates ≡ x
  pub some_mblks : image_blocks x ≤ mblks
  pub some_dblks : image_blocks x ≤ dblks
  pub free_mblks : p.free.mblks ≡ mblks - image_blocks x
  pub free_dblks : p.free.dblks ≡ dblks - image_blocks x

-- what holds where a line of the kind does
abbrev pub Holds : Vector → Type 0
Holds (vectors.Bad text) = IsNoImage no_own text.items
Holds (vectors.Image text other blocks) =
    (x : Imaged) × (IsImageFor no_own text.items x × (IsImageFor no_own other.items x × (image_blocks x ≡ blocks)))
Holds (vectors.Script script text blocks) = (x : Imaged) × (IsImageFor no_own text.items x × (image_blocks x ≡ blocks))
Holds (vectors.Untold text) = (x : Imaged) × IsImageFor no_own text.items x

-- what a text of an image gives: the image of its pair, and how many blocks its messages take
pub record IsFound (x : Imaged) (text : List ℕ) (mblks dblks : ℕ) : Type 0 where
  pub text_of : IsTextOf image text (Second, x)
  pub takes_mblks : mblks ≡ image_blocks x
  pub takes_dblks : dblks ≡ image_blocks x

-- what a pair that was made over so many blocks of each kind leaves of them: its image, and how many of them it took
pub record IsLeft (p : PairState) (room : ℕ) (text : List ℕ) (mblks dblks : ℕ) : Type 0 where
  pub text_of : IsTextOf image text (Second, imaged p.state p.fates)
  pub takes_mblks : mblks ≡ room - p.free.mblks
  pub takes_dblks : dblks ≡ room - p.free.dblks
