-- The room that is asked for is room in the buffers, and the stored entry reads back as the call and its answer.
use Rattle.std.proofs.Common.{ℕ, ◌≡◌, ◌+◌, List, ◌++◌, ◌∷◌, [], ap, ◌∙◌, arith, length, length-append}
use Rattle.strm_types.specs.declared.entries.Entry.{Entry}
use Rattle.strm_types.specs.declared.entries.Entry.TheVariants.{Called}
use Rattle.strm_types.specs.Events.{map_event, request}
use Rattle.strm_types.specs.Journal.{answer_len, entry_in, entry_len, event_len}
use Rattle.strm_laws.proofs.StoredCalls.{entry-back, request-size}
use Rattle.strm_pair.specs.Pairs.{journal_of}
use Rattle.strm_pair.proofs.JournalLemmas.{room-means}
use Rattle.strm_pair.proofs.journal.Journal.add_call.Goals as goal

pub add-requires-clause-room_entries : goal.add-requires-clause-room_entries
unfolding journal_of
add-requires-clause-room_entries c =
    let j = c.args.self.now in (room-means j.entries.items j.bytes.items j.most_entries j.most_bytes _ j.stored.lengths c.requires.room).0

pub add-requires-clause-room_bytes : goal.add-requires-clause-room_bytes
unfolding journal_of
add-requires-clause-room_bytes c =
    let j = c.args.self.now in
    let fits = (room-means j.entries.items j.bytes.items j.most_entries j.most_bytes _ j.stored.lengths c.requires.room).1 in
    let shown = ap length c.parts_of.ensures in
    omega (arith, fits, shown, length-append c.parts_of.result.0.now c.parts_of.result.1.now)

pub add-requires-clause-lengths : goal.add-requires-clause-lengths
add-requires-clause-lengths c =
    let asked = request c.args.event.now in
    let told : entry_len c.called-entry.result ≡ event_len (map_event (λ (bytes : List ℕ). length bytes) asked) + answer_len c.args.answer = ap entry_len c.called-entry.ensures in
    omega (arith, told, request-size asked, c.requires.filled, ap length c.parts_of.ensures, length-append c.parts_of.result.0.now c.parts_of.result.1.now)

pub returns-clause-added : goal.returns-clause-added
returns-clause-added c =
    let asked = request c.args.event.now in
    let content = c.args.content.now in
    let old = journal_of c.args.self.now in
    c.add.ensures.added
    ∙ ap (λ (e : Entry ℕ). old ++ entry_in e ((c.parts_of.result.0.now ++ c.parts_of.result.1.now) ++ content) ∷ []) c.called-entry.ensures
    ∙ ap (λ b. old ++ entry_in (Called c.args.caller (map_event (λ bytes. length bytes) asked) c.args.answer) (b ++ content) ∷ []) c.parts_of.ensures
    ∙ ap (λ e. old ++ e ∷ []) (entry-back c.args.caller asked c.args.answer content)
