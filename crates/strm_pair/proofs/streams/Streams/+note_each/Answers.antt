use Rattle.strm_pair.proofs.Prelude.{List, length, ap, arith}
use Rattle.strm_pair.specs.Prelude.{Note}
use Rattle.strm_pair.proofs.NotesDone.{noted-front, noted-more, noted-rest}
use Rattle.strm_pair.proofs.streams.Streams.+note_each.Goals as goal

pub note_one-requires : goal.note_one-requires
note_one-requires t c =
    let s = c.requires.few.0 in
    record { few = (s, noted-front s c.args.side c.args.place c.args.at c.in-Some.first.now c.in-Some.rest.now c.args.notes.now c.args.self.now c.in-Some.ensures.cases.0 c.requires.few.1) }

pub note_each-requires : goal.note_each-requires
note_each-requires t c =
    let s = c.requires.few.0 in
    let less = ap (λ (ms : List Note). length ms) c.in-Some.ensures.cases.0 in
    let few = noted-rest s c.args.side c.args.place c.args.at c.in-Some.first.now c.in-Some.rest.now c.args.notes.now c.args.self.now c.note_one.new.self
    c.in-Some.ensures.cases.0 (c.note_one.ensures s) c.requires.few.1 in
    (omega (arith, less), (s, few))

pub returns : goal.returns
returns t c = λ s.
    noted-more s c.args.side c.args.place c.args.at c.in-Some.first.now c.in-Some.rest.now c.args.notes.now c.args.self.now c.note_one.new.self
    c.note_each.new.self c.in-Some.ensures.cases.0 (c.note_one.ensures s) (c.note_each.ensures s)
