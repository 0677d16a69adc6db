-- The entries are counted.
use Rattle.strm_pair.proofs.Prelude.{arith, length-entries_in}
use Rattle.strm_pair.specs.Pairs.{journal_of}
use Rattle.strm_pair.proofs.journal.Journal.left.Goals as goal

pub returns : goal.returns
unfolding journal_of
returns c =
    let j = c.args.self.now in
    rw (length-entries_in j.entries.items j.bytes.items) (omega (arith, j.stored.few_entries, c.len.ensures))
