-- The journal has as many entries as are stored.
use Rattle.std.proofs.Common.{ℕ, false, length, ap, sym, ◌∙◌}
use Rattle.strm_laws.proofs.JournalEntries.{length-entries_in}
use Rattle.strm_script.specs.declared.answers.Line.TheVariants.{Entries}
use Rattle.strm_script.specs.declared.outcomes.Answered.{Answered}
use Rattle.strm_script.proofs.looks.cut.Goals as goal

pub returns-clause-line : goal.returns-clause-line
returns-clause-line g c =
    let stored = c.journal.result in
    let held : ℕ → Answered = λ n. record { line = Entries n; short = false } in
    ap held (sym (length-entries_in stored.entries.now stored.bytes.now) ∙ ap length c.journal.ensures.entries)
