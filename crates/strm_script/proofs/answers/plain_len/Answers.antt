use Rattle.std.proofs.Common.{rules}
use Rattle.strm_script.proofs.Readings.{position-found}
use Rattle.strm_script.proofs.answers.plain_len.Goals as goal

pub returns : goal.returns
returns c = search (rules, position-found)
