-- The entries and the buffer's bytes are counted.
use Rattle.strm_pair.proofs.Prelude.{◌≤◌, ◌<◌, length, arith, nat_tests, length-entries_in, room_used-stored}
use Rattle.strm_pair.specs.Pairs.{journal_of}
use Rattle.strm_pair.proofs.journal.Journal.has_room.Goals as goal

pub returns-then-len-self : goal.returns-then-len-self
unfolding journal_of
returns-then-len-self c =
    let j = c.args.self.now in
    let few : length j.entries.items < j.most_entries = omega (arith, j.entries.ok.0) in
    rw (length-entries_in j.entries.items j.bytes.items, room_used-stored j.entries.items j.bytes.items j.stored.lengths) (grind (arith, nat_tests, j.bytes.ok.0, j.stored.few_bytes))

pub returns-else-len-self : goal.returns-else-len-self
unfolding journal_of
returns-else-len-self c =
    let j = c.args.self.now in
    let many : j.most_entries ≤ length j.entries.items = omega (arith, j.entries.ok.0) in
    rw (length-entries_in j.entries.items j.bytes.items) (grind (arith, nat_tests, j.entries.ok.0))
