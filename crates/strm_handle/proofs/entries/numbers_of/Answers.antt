-- A packed entry has the numbers of the one that it tells.
use Rattle.std.proofs.Common.{ℕ, ◌∙◌, ap, subst}
use Rattle.strm_types.specs.declared.entries.Entry.{Entry}
use Rattle.strm_types.specs.Journal.{entry_len}
use Rattle.strm_handle.specs.Entries.{Enters}
use Rattle.strm_handle.proofs.entries.numbers_of.Goals as goal

pub returns-clause-bytes : goal.returns-clause-bytes
returns-clause-bytes c = c.numbers_told.ensures.bytes ∙ ap entry_len c.entry.ensures

pub returns-clause-told : goal.returns-clause-told
returns-clause-told c = subst (λ (e : Entry ℕ). Enters c.numbers_told.result e) c.entry.ensures c.numbers_told.ensures.told
