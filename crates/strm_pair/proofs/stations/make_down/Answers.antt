-- An M_IOCNAK has no parts.
use Rattle.std.proofs.Common.{refl}
use Rattle.strm_types.specs.Flush.{is_data_kind}
use Rattle.strm_pair.proofs.stations.make_down.Goals as goal

pub make-requires-clause-kind : goal.make-requires-clause-kind
unfolding is_data_kind
make-requires-clause-kind g c = refl
