-- The bytes are counted.
use Rattle.strm_pair.proofs.Prelude.{arith, room_used-stored}
use Rattle.strm_pair.specs.Pairs.{journal_of}
use Rattle.strm_pair.proofs.journal.Journal.bytes_left.Goals as goal

pub returns : goal.returns
unfolding journal_of
returns c =
    let j = c.args.self.now in
    rw (room_used-stored j.entries.items j.bytes.items j.stored.lengths) (omega (arith, j.stored.few_bytes, c.len.ensures))
