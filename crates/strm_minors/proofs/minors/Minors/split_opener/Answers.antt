use Rattle.std.proofs.Common.{rules}
use Rattle.strm_minors.proofs.Keeps.{splits}
use Rattle.strm_minors.proofs.minors.Minors.split_opener.Goals as goal

pub split_seat-given-requires : goal.split_seat-given-requires
split_seat-given-requires c = (search rules, search rules, splits _ _ _)
