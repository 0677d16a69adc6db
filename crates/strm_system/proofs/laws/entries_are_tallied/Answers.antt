use Rattle.strm_system.proofs.Tallying.{adds-tally}
use Rattle.strm_system.proofs.laws.entries_are_tallied.Goals as goal

pub returns : goal.returns
returns c p q e known after adds = adds-tally p q e known after adds
