-- The room that is asked for is room in the buffers, and the stored entry reads back as the turn.
use Rattle.std.proofs.Common.{ℕ, ◌≡◌, ◌++◌, ◌∷◌, [], ap, ◌∙◌, arith}
use Rattle.strm_types.specs.declared.entries.Entry.{Entry}
use Rattle.strm_types.specs.Journal.{entry_in, entry_len}
use Rattle.strm_pair.specs.Pairs.{journal_of}
use Rattle.strm_pair.proofs.JournalLemmas.{room-means}
use Rattle.strm_pair.proofs.journal.Journal.add_turn.Goals as goal

pub add-requires-clause-room_entries : goal.add-requires-clause-room_entries
unfolding journal_of
add-requires-clause-room_entries c =
    let j = c.args.self.now in (room-means j.entries.items j.bytes.items j.most_entries j.most_bytes _ j.stored.lengths c.requires.room).0

pub add-requires-clause-lengths : goal.add-requires-clause-lengths
add-requires-clause-lengths c = let told : entry_len c.turned.result ≡ 0 = ap entry_len c.turned.ensures in omega (arith, told)

pub returns-clause-added : goal.returns-clause-added
returns-clause-added c = c.add.ensures.added ∙ ap (λ (e : Entry ℕ). journal_of c.args.self.now ++ entry_in e [] ∷ []) c.turned.ensures
