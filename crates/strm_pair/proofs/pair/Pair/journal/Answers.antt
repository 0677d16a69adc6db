-- The plain journal is what the stored entries and bytes say.
use Rattle.strm_pair.proofs.Prelude.{ap, ◌∙◌}
use Rattle.strm_pair.specs.Prelude.{Second, imaged, image, entries_in, PairState}
use Rattle.strm_pair.specs.Pairs.{journal_of}
use Rattle.strm_pair.proofs.pair.Pair.journal.Goals as goal

pub returns-clause-entries : goal.returns-clause-entries
unfolding journal_of
returns-clause-entries g c =
    let j = c.self.inside.journal in
    ap (λ es. entries_in es c.as_slice-3.result.now) c.as_slice-2.ensures.value ∙ ap (λ b. entries_in j.entries.items b) c.as_slice-3.ensures.value ∙ ap (λ (p : PairState). p.journal) c.self.view_is

pub returns-clause-base : goal.returns-clause-base
returns-clause-base g c =
    c.as_slice.ensures.value ∙ c.self.invariant.written.text ∙ ap (λ (v : PairState). image.text (Second, imaged v.base v.base_fates)) c.self.view_is
