use Rattle.std.proofs.Common.{◌≡◌, ◌≤◌, length, take, vec_capacity}
use Rattle.strm_journal.proofs.entries.copied.Given as goal

abbrev pub invariant-loop-entry : goal.invariant-loop-entry
invariant-loop-entry l = record { so_far : l.copy.items ≡ take l.entry-index l.entries; room : length l.entries ≤ vec_capacity l.copy }
