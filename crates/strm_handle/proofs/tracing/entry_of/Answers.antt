use Rattle.std.proofs.Common.{subst}
use Rattle.strm_handle.specs.Entries.{TakesStored, taking}
use Rattle.strm_handle.proofs.tracing.entry_of.Goals as goal

pub returns : goal.returns
returns c =
    let at = c.args.at.now in let told = c.args.told.now in let out = c.args.out.now in let new = c.take_entry.new in let trace = c.args.trace.now in
    subst (λ es. TakesStored es trace.bytes.items (taking at told out) (taking new.at new.told new.out) c.take_entry.result) c.as_slice-entries.ensures.value
    (subst (λ bs. TakesStored c.as_slice-entries.result.now bs (taking at told out) (taking new.at new.told new.out) c.take_entry.result) c.as_slice.ensures.value c.take_entry.ensures)
