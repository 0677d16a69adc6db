-- A base has an image where its numbers have their widths.
use Rattle.strm_image.proofs.Prelude.{ℕ, arith}
use Rattle.strm_image.specs.Prelude.{Dir, MasterToSlave, SlaveToMaster, Side, Master, Slave, Fates, get, IsBase, FewBooked, State}
use Rattle.strm_image.specs.HasImage.{AreBanded, AreCounts, AreFates, AreNumbers, AreShort, Balances, HasImage, IsBooked, counts_of, imaged}

few_booked : (s : State ℕ) → FewBooked s → (side : Side) → IsBooked (get side s.books)
few_booked s few Master = record { written = few.written MasterToSlave; made = few.made MasterToSlave }
few_booked s few Slave = record { written = few.written SlaveToMaster; made = few.made SlaveToMaster }

module _ (s : State ℕ) (fates : Fates) (base : IsBase s fates) (counts : AreCounts fates) where
  gone_by : (side : Side) → AreFates (get side (counts_of fates))
  gone_by Master = record { each = counts MasterToSlave; all = (base.balanced MasterToSlave).rules }
  gone_by Slave = record { each = counts SlaveToMaster; all = (base.balanced SlaveToMaster).rules }

  agrees : (dir : Dir) → Balances dir (imaged s fates)
  agrees MasterToSlave = omega (arith, (base.balanced MasterToSlave).agree)
  agrees SlaveToMaster = omega (arith, (base.balanced SlaveToMaster).agree)

  pub base_has_image : AreShort s → AreBanded s → AreNumbers s → HasImage (imaged s fates)
  base_has_image short banded numbers = record {
    restorable = base.restorable;
    ordered = base.ordered;
    short = short;
    banded = banded;
    numbers = numbers;
    booked = few_booked s base.few;
    gone = gone_by;
    balanced = agrees;
  }
