use Rattle.std.proofs.Common.{ap}
use Rattle.strm_types.specs.Journal.{entries_in}
use Rattle.strm_pair.specs.Pairs.{journal_of}
use Rattle.strm_pair.proofs.journal.Journal.clear.Goals as goal

pub returns-clause-empty : goal.returns-clause-empty
unfolding journal_of
returns-clause-empty c = ap (λ es. entries_in es c.shorten.new.buffer.items) c.forget_all.ensures.items
