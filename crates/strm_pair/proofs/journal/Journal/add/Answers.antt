-- The entry's bytes are the last of the buffer.
use Rattle.std.proofs.Common.{◌≡◌, ◌∙◌, ◌++◌, ◌∷◌, [], ap, append_assoc}
use Rattle.strm_types.specs.Journal.{entries_in}
use Rattle.strm_laws.proofs.JournalEntries.{entries_in-push}
use Rattle.strm_pair.specs.Pairs.{journal_of}
use Rattle.strm_pair.proofs.journal.Journal.add.Goals as goal

pub returns-clause-added : goal.returns-clause-added
unfolding journal_of
returns-clause-added c =
    let j = c.args.self.now in
    let payload = c.args.first.now ++ c.args.second.now in
    let call : c.append-2.new.buffer.items ≡ j.bytes.items ++ payload =
    c.append-2.ensures.items ∙ ap (λ b. b ++ c.args.second.now) c.append.ensures.items ∙ append_assoc j.bytes.items c.args.first.now c.args.second.now in
    let bytes : c.append-3.new.buffer.items ≡ j.bytes.items ++ (payload ++ c.args.content.now) =
    c.append-3.ensures.items ∙ ap (λ b. b ++ c.args.content.now) call ∙ append_assoc j.bytes.items payload c.args.content.now in
    ap (λ es. entries_in es c.append-3.new.buffer.items) c.push_reserved.ensures.items
    ∙ ap (λ b. entries_in (j.entries.items ++ c.args.entry ∷ []) b) bytes
    ∙ entries_in-push j.entries.items c.args.entry j.bytes.items (payload ++ c.args.content.now) j.stored.lengths
