-- The copies are the text of the base, and the journal.
use Rattle.strm_pair.proofs.Prelude.{ap, ◌∙◌}
use Rattle.strm_pair.specs.Prelude.{Second, imaged, image, PairState, entries_in}
use Rattle.strm_pair.specs.Pairs.{journal_of}
use Rattle.strm_pair.proofs.pair.Pair.trace.Goals as goal

pub returns : goal.returns
unfolding journal_of
returns g c =
    let j = c.self.inside.journal in
    record {
      base = c.in_ok-copy_of.ensures ∙ c.as_slice.ensures.value ∙ c.self.invariant.written.text ∙ ap (λ (v : PairState). image.text (Second, imaged v.base v.base_fates)) c.self.view_is;
      entries = ap (λ es. entries_in es c.in_ok-copy_of-2.field-0.items) (c.in_ok-copied.ensures ∙ c.as_slice-2.ensures.value)
          ∙ ap (λ b. entries_in j.entries.items b) (c.in_ok-copy_of-2.ensures ∙ c.as_slice-3.ensures.value) ∙ ap (λ (v : PairState). v.journal) c.self.view_is;
    }
