-- Each pair has an image.
use Rattle.strm_pair.proofs.Prelude.{arith}
use Rattle.strm_pair.specs.Prelude.{Config, Fates, StoreValue, IsStore, AreCounts, AreNumbers, HasImage, imaged, Behaviour}
use Rattle.strm_image.specs.HasImage.{AreShort}
use Rattle.strm_image.proofs.BaseImages.{base_has_image}
use Rattle.strm_image.proofs.ShortRows.{few_short}
use Rattle.strm_pair.specs.declared.journal.Journal.{Journal}
use Rattle.strm_pair.specs.declared.streams.Streams.{Streams}
use Rattle.strm_pair.specs.Pairs.{state_in}
use Rattle.strm_pair.specs.PairViews.{IsKept}
use Rattle.strm_pair.specs.Starts.{Start}
use Rattle.strm_pair.proofs.Shown.{in-use}
use Rattle.strm_pair.proofs.Steps.{kept-base, led-idle}
use Rattle.strm_pair.proofs.WideQueues.{state-banded, state-small}

module _ (K : Behaviour) (s : StoreValue) (p : Streams) (j : Journal) (b : Start) (limits : Config) (fates : Fates) (kept : IsKept K s p j b limits fates) (is : IsStore s)
    (counts : AreCounts fates) (numbers : AreNumbers (state_in s p)) where
  -- a store has 65,536 blocks at most
  short : AreShort (state_in s p)
  short = few_short (state_in s p) (omega (arith, in-use s p kept.held (led-idle K s p j b limits fates kept) is, is.enough, is.few_mblks))
      (omega (arith, state-small s is p kept.held (kept-base K s p j b limits fates kept).restorable))

  pub has-image : HasImage (imaged (state_in s p) fates)
  has-image = base_has_image (state_in s p) fates (kept-base K s p j b limits fates kept) counts short (state-banded s is p kept.held) numbers
