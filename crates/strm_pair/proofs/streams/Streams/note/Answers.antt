-- The first note, and where there are more each of them.
use Rattle.strm_pair.proofs.Prelude.{sym, ◌∙◌}
use Rattle.strm_pair.proofs.NotesDone.{noted-front, noted-last, noted-more, noted-rest}
use Rattle.strm_pair.proofs.streams.Streams.note.Goals as goal

pub note_one-requires : goal.note_one-requires
note_one-requires c =
    let s = c.requires.few.0 in
    record { few = (s, noted-front s c.args.side c.args.place c.args.at c.in-Some.first.now c.in-Some.rest.now c.args.notes.now c.args.self.now c.in-Some.ensures.cases.0 c.requires.few.1) }

pub note_each-requires : goal.note_each-requires
note_each-requires c =
    let s = c.requires.few.0 in
    record {
      few = (
        s,
        noted-rest s c.args.side c.args.place c.args.at c.in-Some.first.now c.in-Some.rest.now c.args.notes.now c.args.self.now c.note_one.new.self
            c.in-Some.ensures.cases.0 (c.note_one.ensures s) c.requires.few.1,
      );
    }

pub returns-then-not-is_empty : goal.returns-then-not-is_empty
returns-then-not-is_empty c = λ s.
    noted-more s c.args.side c.args.place c.args.at c.in-Some.first.now c.in-Some.rest.now c.args.notes.now c.args.self.now c.note_one.new.self
    c.note_each.new.self c.in-Some.ensures.cases.0 (c.note_one.ensures s) (c.note_each.ensures s)

pub returns-else-not-is_empty : goal.returns-else-not-is_empty
returns-else-not-is_empty c = λ s.
    noted-last s c.args.side c.args.place c.args.at c.in-Some.first.now c.in-Some.rest.now c.args.notes.now c.args.self.now c.note_one.new.self
    c.in-Some.ensures.cases.0 (sym c.is_empty.ensures ∙ c.if-not-is_empty.false) (c.note_one.ensures s)
