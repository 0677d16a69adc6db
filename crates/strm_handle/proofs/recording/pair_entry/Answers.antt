use Rattle.strm_handle.specs.Entries.{taking}
use Rattle.strm_handle.proofs.TakenEntries.{takes-journal}
use Rattle.strm_handle.proofs.recording.pair_entry.Goals as goal

pub returns : goal.returns
returns c =
    let at = c.args.at.now in let told = c.args.told.now in let out = c.args.out.now in let new = c.take_entry.new in
    takes-journal c.journal-recorded.result.entries.now c.journal-recorded.result.bytes.now c.args.pair.now.journal (taking at told out) (taking new.at new.told new.out) c.take_entry.result
    c.journal-recorded.ensures.entries c.journal-recorded.ensures.lengths c.take_entry.ensures
