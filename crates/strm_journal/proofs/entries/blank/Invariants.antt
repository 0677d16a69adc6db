use Rattle.std.proofs.Common.{ℕ, ◌≡◌}
use Rattle.std.specs.List.{AllWithin}
use Rattle.strm_types.specs.declared.entries.Entry.{Entry}
use Rattle.strm_journal.specs.Packed.{nothing}
use Rattle.strm_journal.proofs.entries.blank.Given as goal

abbrev pub invariant-loop-entry : goal.invariant-loop-entry
invariant-loop-entry l = AllWithin (λ (e : Entry ℕ). e ≡ nothing) l.entry-items 0 l.entry-index
