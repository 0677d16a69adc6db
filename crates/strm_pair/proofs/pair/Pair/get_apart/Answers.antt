use Rattle.strm_pair.proofs.pair.Pair.get_apart.Goals as goal

pub returns-in-Get : goal.returns-in-Get
returns-in-Get g c = rw c.in-Get.is c.make.ensures
